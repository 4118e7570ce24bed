-- The entries of the atoms' levels, and that what the first pass fills in is the table of levels of `meaning`, `Levels`.
use Prim.Native.Nat.{ℕ, zero, suc, ◌+◌, ◌-◌, ◌*◌, ◌/◌, ◌%◌, ◌<◌, ◌≤◌, max}
use Rattle.std.specs.Prelude.{◌≡◌, ◌⊎◌, Bool, true, false, ◌||◌, T, eqb, ltb, length, get_or, set, take, if◌then◌else◌}
use Rattle.std.proofs.Math.Path.{refl, sym, ap, ap₂}
use Rattle.std.proofs.Common.{subst, ◌∙◌, ⊎_elim, eqb-true, ltb-true, ltb-false, take-suc, length-take-le, get_or-set_same, get_or-set_other}
use mathlib.Core.List.{List, [], ◌∷◌, ◌++◌, map, Memᴰ}
use native.Mathlib.Omega.{arith}
use Rattle.std.proofs.lemmas.Bool.{eqb-false}
use Rattle.std.proofs.Math.Seq.{take-length, set_out}
use Rattle.definitions.specs.Lists.{any, all}
use Rattle.definitions.specs.Problem.Atoms.{Problem, Atom, atom_number, node_start, atoms, State}
use Rattle.definitions.specs.Problem.Actions.{Action, set as setTuple, begin_proof, prove_and, prove_or, prove_exists, prove_forall, prove_goal, round_end, mark_in, mark_out, needs, adds, action_number, action_at}
use Rattle.definitions.specs.Problem.Strips.{may_take}
use Rattle.definitions.specs.Reply.Layers.{most}
use Rattle.laws.specs.Booleans.{T_and_l, T_and_r, T_true}
use Rattle.laws.specs.Numbers.{IsAction, IsAtom, atom_below, action_at_lem}
use Rattle.meaning.specs.Means.{Good}
use Rattle.meaning.specs.Valid.{needs_valid}
use Rattle.meaning.specs.Layers.{is_added}
use Rattle.meaning.specs.Levels.{level, raise}
use Rattle.meaning.specs.Placing.{layers_after}
use Rattle.bits.specs.Table.{bit, count, num}
use Rattle.bits.proofs.Laws.{count_add}
use Rattle.problem_table.specs.Numbers.{need_numbers, add_numbers}
use Rattle.problem_table.specs.Of.{Is, said, act_of}
use Rattle.problem_table.specs.declared.Act.{Act}
use Rattle.problem_table.specs.declared.Act.TheVariants.{Goal}
use Rattle.problem_table.specs.OfLaws.{adds_are}
use Rattle.problem_table.proofs.Needs.{needs_are}
use Rattle.step_place.specs.declared.Region.{Region}
use Rattle.step_place.specs.Slots.{field, Sums, rank_in, slot_in, look_in, level_by, own_by, with_level}
use Rattle.step_place.specs.Sorting.{occ, occ_next, occ_length, occ_snoc}
use Rattle.step_place.specs.SlotLaws.{word_count, look_low, look_high}

-- the numbers stay
abbrev pub SameNumbers : List ℕ → List ℕ → Type 0
SameNumbers b b' = (q : ℕ) → get_or b' q 0 % field ≡ get_or b q 0 % field

-- one entry alone is another
abbrev pub OnlyAt : ℕ → List ℕ → List ℕ → Type 0
OnlyAt i b b' = (q : ℕ) → (q ≡ i → ⊥) → get_or b' q 0 ≡ get_or b q 0

level_only : (b : List ℕ) (i lv : ℕ) → OnlyAt i b (with_level b i lv)
unfolding with_level
level_only b i lv q n = get_or-set_other b i q (lv * field + get_or b i 0 % field) 0 n

pub level_keeps : (b : List ℕ) (i lv : ℕ) → SameNumbers b (with_level b i lv)
unfolding with_level
level_keeps b i lv q = by_test (eqb q i) refl (ltb i (length b)) refl
  where
    low : (h k : ℕ) → (h * field + k % field) % field ≡ k % field
    low h k = omega arith

    by_test : (t : Bool) → eqb q i ≡ t → (u : Bool) → ltb i (length b) ≡ u → get_or (set b i (lv * field + get_or b i 0 % field)) q 0 % field ≡ get_or b q 0 % field
    by_test true t true u =
        let e = eqb-true q i t in
        subst (λ (q : ℕ). get_or (set b i (lv * field + get_or b i 0 % field)) q 0 % field ≡ get_or b q 0 % field) (sym e) (ap (λ (k : ℕ). k % field) (get_or-set_same b i (lv * field + get_or b i 0 % field) 0 (ltb-true i (length b) u)) ∙ low lv (get_or b i 0))
    by_test true t false u = ap (λ (m : List ℕ). get_or m q 0 % field) (set_out b i (lv * field + get_or b i 0 % field) (ltb-false i (length b) u))
    by_test false t u v = ap (λ (k : ℕ). k % field) (get_or-set_other b i q (lv * field + get_or b i 0 % field) 0 (eqb-false q i t))

-- ---- actions that prove a node's atom
unfoldable pub IsProof : Action → Type 0
IsProof (setTuple r row) = ⊥
IsProof begin_proof = ⊥
IsProof (prove_and v row) = Unit {0}
IsProof (prove_or v row i) = Unit {0}
IsProof (prove_exists v row x) = Unit {0}
IsProof (prove_forall v row z) = Unit {0}
IsProof prove_goal = ⊥
IsProof round_end = ⊥
IsProof (mark_in r row) = ⊥
IsProof (mark_out r row) = ⊥

pub level_said : (look : ℕ → ℕ) (w : List ℕ) (a : Action) → IsProof a → level_by look w (said a) ≡ most (map look (need_numbers w (said a)))
unfolding IsProof level_by said
level_said look w (setTuple r row) h = absurd h
level_said look w begin_proof h = absurd h
level_said look w (prove_and v row) h = refl
level_said look w (prove_or v row i) h = refl
level_said look w (prove_exists v row x) h = refl
level_said look w (prove_forall v row z) h = refl
level_said look w prove_goal h = absurd h
level_said look w round_end h = absurd h
level_said look w (mark_in r row) h = absurd h
level_said look w (mark_out r row) h = absurd h

pub goal_said : (look : ℕ → ℕ) (w : List ℕ) → level_by look w (said prove_goal) ≡ most (map look (need_numbers w (said prove_goal)))
unfolding level_by said
goal_said look w = refl

own_said : (w : List ℕ) (a : Action) → IsProof a → add_numbers w (said a) ≡ own_by w (said a) ∷ []
unfolding IsProof add_numbers own_by said
own_said w (setTuple r row) h = absurd h
own_said w begin_proof h = absurd h
own_said w (prove_and v row) h = refl
own_said w (prove_or v row i) h = refl
own_said w (prove_exists v row x) h = refl
own_said w (prove_forall v row z) h = refl
own_said w prove_goal h = absurd h
own_said w round_end h = absurd h
own_said w (mark_in r row) h = absurd h
own_said w (mark_out r row) h = absurd h

-- a step that proves an atom: all that it needs and what it adds hold in the end
pub record Proves (p : Problem) (s : State) (a : Action) (own : ℕ) : Type 0 where
  pub valid : IsAction p a
  pub proof_is : IsProof a
  pub may : T (may_take p s a)
  pub own_is : map (atom_number p) (adds p a) ≡ own ∷ []
  pub holds : s own ≡ true
  pub low : node_start p 0 ≤ own
  pub high : own < node_start p (length p.node_list)

-- what is known of the table, the state and its sums
pub record Grounds (p : Problem) (w st sums : List ℕ) (g : Region) : Type 0 where
  pub good : Good p
  pub is : Is p w
  pub summed : Sums st sums
  pub wide : node_start p (length p.node_list) / 64 < length sums
  pub first_is : g.first ≡ node_start p 0
  pub zero_is : g.zero ≡ count (bit st) 0 (node_start p 0)
  pub last_is : atoms p ≡ node_start p (length p.node_list)

head_is : {x y : ℕ} → ◌≡◌ {A = List ℕ} (x ∷ []) (y ∷ []) → x ≡ y
head_is e = ap (λ (l : List ℕ). get_or l 0 0) e

module _ (p : Problem) (w st sums : List ℕ) (g : Region) (R : Grounds p w st sums g) where
  abbrev s₀ : ℕ
  s₀ = node_start p 0

  abbrev past : ℕ
  past = node_start p (length p.node_list)

  rank_is : (x : ℕ) → x ≤ past → rank_in st sums x ≡ count (bit st) 0 x
  unfolding rank_in
  rank_is x h =
      let e : 64 * (x / 64) + x % 64 ≡ x = omega arith in
      ap₂ ◌+◌ (R.summed (x / 64) (omega (arith, R.wide))) (sym (word_count st (x / 64) (x % 64) (omega arith)))
      ∙ sym (count_add (bit st) 0 (64 * (x / 64)) (x % 64)) ∙ ap (count (bit st) 0) e

  -- the entry is `base` and the true node atoms before it
  pub slot_is : (x : ℕ) → s₀ ≤ x → x ≤ past → slot_in st sums g x ≡ g.base + count (bit st) s₀ (x - s₀)
  unfolding slot_in
  slot_is x l h =
      let e : s₀ + (x - s₀) ≡ x = omega arith in
      let a : count (bit st) 0 x ≡ count (bit st) 0 s₀ + count (bit st) (0 + s₀) (x - s₀) = ap (count (bit st) 0) (sym e) ∙ count_add (bit st) 0 s₀ (x - s₀) in
      let b : count (bit st) (0 + s₀) (x - s₀) ≡ count (bit st) s₀ (x - s₀) = ap (λ (k : ℕ). count (bit st) k (x - s₀)) (omega arith) in
      let c = rank_is x h in
      let d = R.zero_is in
      omega arith

  pub slot_next : (x : ℕ) → s₀ ≤ x → x < past → slot_in st sums g (suc x) ≡ slot_in st sums g x + num (bit st x)
  unfolding count
  slot_next x l h =
      let a = slot_is x l (omega arith) in
      let b = slot_is (suc x) (omega arith) (omega arith) in
      let e : suc x - s₀ ≡ suc (x - s₀) = omega arith in
      let f : s₀ + (x - s₀) ≡ x = omega arith in
      let c : count (bit st) s₀ (suc x - s₀) ≡ count (bit st) s₀ (x - s₀) + num (bit st x) = ap (count (bit st) s₀) e ∙ ap (λ (k : ℕ). count (bit st) s₀ (x - s₀) + num (bit st k)) f in
      omega arith

  slot_up : (d x : ℕ) → s₀ ≤ x → x + d ≤ past → slot_in st sums g x ≤ slot_in st sums g (x + d)
  slot_up zero x l h = let e : slot_in st sums g (x + 0) ≡ slot_in st sums g x = ap (slot_in st sums g) (omega arith) in omega arith
  slot_up (suc d) x l h =
      let a = slot_up d x l (omega arith) in
      let b = slot_next (x + d) (omega arith) (omega arith) in
      let e : slot_in st sums g (x + suc d) ≡ slot_in st sums g (suc (x + d)) = ap (slot_in st sums g) (omega arith) in
      omega arith

  pub slot_before : (x y : ℕ) → s₀ ≤ x → x < y → y ≤ past → bit st x ≡ true → slot_in st sums g x < slot_in st sums g y
  slot_before x y l h u t =
      let a = slot_next x l (omega arith) in
      let b : num (bit st x) ≡ 1 = ap num t in
      let e : slot_in st sums g (suc x + (y - suc x)) ≡ slot_in st sums g y = ap (slot_in st sums g) (omega arith) in
      omega (arith, slot_up (y - suc x) (suc x) (omega arith) (omega arith))

  pub slot_apart : (x y : ℕ) → s₀ ≤ x → x < past → s₀ ≤ y → y < past → bit st x ≡ true → bit st y ≡ true → slot_in st sums g x ≡ slot_in st sums g y → x ≡ y
  slot_apart x y l h m k t u e = by_test (ltb x y) (ltb y x) refl refl
    where
      by_test : (a b : Bool) → ltb x y ≡ a → ltb y x ≡ b → x ≡ y
      by_test true b q r = absurd (omega (arith, slot_before x y l (ltb-true x y q) (omega arith) t))
      by_test false true q r = absurd (omega (arith, slot_before y x m (ltb-true y x r) (omega arith) u))
      by_test false false q r = let a = ltb-false x y q in let b = ltb-false y x r in omega arith

  -- ---- the table of levels, in the entries
  pub record Tabled (τ : ℕ → ℕ) (steps : List ℕ) : Type 0 where
    pub tells : (x : ℕ) → s₀ ≤ x → x < past → bit st x ≡ true → get_or steps (slot_in st sums g x) 0 / field ≡ τ x
    pub lows : (x : ℕ) → x < s₀ → τ x ≡ 0

  module _ (τ : ℕ → ℕ) (steps : List ℕ) (K : Tabled τ steps) where
    look_is : (x : Atom) → IsAtom p x → bit st (atom_number p x) ≡ true → look_in st sums steps g (atom_number p x) ≡ τ (atom_number p x)
    look_is x v t = by_test (ltb (atom_number p x) s₀) refl
      where
        by_test : (b : Bool) → ltb (atom_number p x) s₀ ≡ b → look_in st sums steps g (atom_number p x) ≡ τ (atom_number p x)
        by_test true b = let l = ltb-true (atom_number p x) s₀ b in look_low st sums steps g (atom_number p x) (omega (arith, R.first_is)) ∙ sym (K.lows (atom_number p x) l)
        by_test false b =
            let l = ltb-false (atom_number p x) s₀ b in
            look_high st sums steps g (atom_number p x) (omega (arith, R.first_is)) ∙ K.tells (atom_number p x) l (omega (arith, atom_below p x v, R.last_is)) t

    looks : (l : List Atom) → ((x : Atom) → Memᴰ x l → IsAtom p x) → T (all (λ x. bit st (atom_number p x)) l) → map (look_in st sums steps g) (map (atom_number p) l) ≡ map (λ x. τ (atom_number p x)) l
    unfolding all
    looks [] v t = refl
    looks (x ∷ l) v t = ap₂ (λ (k : ℕ) (m : List ℕ). k ∷ m) (look_is x (v x (Memᴰ.head refl)) (T_true _ (T_and_l (bit st (atom_number p x)) _ t))) (looks l (λ y m. v y (Memᴰ.tail m)) (T_and_r (bit st (atom_number p x)) _ t))

    pub level_told : (a : Action) → IsAction p a → T (may_take p (bit st) a) → most (map (look_in st sums steps g) (need_numbers w (said a))) ≡ level p τ a
    unfolding level may_take
    level_told a v t = ap (λ (l : List ℕ). most (map (look_in st sums steps g) l)) (sym (needs_are p w R.is a v)) ∙ ap most (looks (needs p a) (needs_valid p R.good a v) t)

    pub level_is : (a : Action) (own : ℕ) → Proves p (bit st) a own → level_by (look_in st sums steps g) w (said a) ≡ level p τ a
    level_is a own P = level_said (look_in st sums steps g) w a P.proof_is ∙ level_told a P.valid P.may

    pub own_of : (a : Action) (own : ℕ) → Proves p (bit st) a own → own_by w (said a) ≡ own
    own_of a own P = head_is (sym (own_said w a P.proof_is) ∙ sym (adds_are p w R.is a P.valid) ∙ P.own_is)

    -- the level of what a step adds is filled in
    pub raised : (a : Action) (own : ℕ) → Proves p (bit st) a own → (lv : ℕ) → lv ≡ level p τ a → slot_in st sums g own < length steps → Tabled (raise p τ a) (with_level steps (slot_in st sums g own) (suc lv))
    unfolding raise with_level any
    raised a own P lv e room = record { tells = tells; lows = lows }
      where
        added : (x : ℕ) → is_added p a x ≡ (eqb x own || false)
        added x = ap (any (eqb x)) P.own_is

        or_none : (b : Bool) → (b || false) ≡ b
        or_none true = refl
        or_none false = refl

        raise_at : (x : ℕ) (b : Bool) → eqb x own ≡ b → (if is_added p a x then suc (level p τ a) else τ x) ≡ (if b then suc (level p τ a) else τ x)
        raise_at x b q = ap (λ (t : Bool). if t then suc (level p τ a) else τ x) (added x ∙ or_none (eqb x own) ∙ q)

        high : (h k : ℕ) → (h * field + k % field) / field ≡ h
        high h k = omega arith

        tells : (x : ℕ) → s₀ ≤ x → x < past → bit st x ≡ true → get_or (set steps (slot_in st sums g own) (suc lv * field + get_or steps (slot_in st sums g own) 0 % field)) (slot_in st sums g x) 0 / field ≡ (if is_added p a x then suc (level p τ a) else τ x)
        tells x l h t = by_test (eqb x own) refl
          where
            by_test : (b : Bool) → eqb x own ≡ b → get_or (set steps (slot_in st sums g own) (suc lv * field + get_or steps (slot_in st sums g own) 0 % field)) (slot_in st sums g x) 0 / field ≡ (if is_added p a x then suc (level p τ a) else τ x)
            by_test true b =
                let q = eqb-true x own b in
                let r : get_or (set steps (slot_in st sums g own) (suc lv * field + get_or steps (slot_in st sums g own) 0 % field)) (slot_in st sums g x) 0 ≡ suc lv * field + get_or steps (slot_in st sums g own) 0 % field
                = ap (λ (i : ℕ). get_or (set steps (slot_in st sums g own) (suc lv * field + get_or steps (slot_in st sums g own) 0 % field)) i 0) (ap (slot_in st sums g) q) ∙ get_or-set_same steps (slot_in st sums g own) (suc lv * field + get_or steps (slot_in st sums g own) 0 % field) 0 room in
                ap (λ (k : ℕ). k / field) r ∙ high (suc lv) (get_or steps (slot_in st sums g own) 0) ∙ ap suc e ∙ sym (raise_at x true b)
            by_test false b =
                let n = eqb-false x own b in
                ap (λ (k : ℕ). k / field) (get_or-set_other steps (slot_in st sums g own) (slot_in st sums g x) (suc lv * field + get_or steps (slot_in st sums g own) 0 % field) 0 (λ z. n (slot_apart x own l h P.low P.high t P.holds z)))
                ∙ K.tells x l h t ∙ sym (raise_at x false b)

        lows : (x : ℕ) → x < s₀ → (if is_added p a x then suc (level p τ a) else τ x) ≡ 0
        lows x h = raise_at x false (not_own (eqb x own) refl) ∙ K.lows x h
          where
            not_own : (b : Bool) → eqb x own ≡ b → eqb x own ≡ false
            not_own true b = let q = eqb-true x own b in absurd (omega (arith, P.low))
            not_own false b = b

-- ---- steps one after another: the table after them, and their levels
module _ (p : Problem) where
  unfoldable pub raises : (ℕ → ℕ) → List Action → ℕ → ℕ
  raises τ [] = τ
  raises τ (a ∷ l) = raises (raise p τ a) l

  unfoldable pub levels : (ℕ → ℕ) → List Action → List ℕ
  levels τ [] = []
  levels τ (a ∷ l) = level p τ a ∷ levels (raise p τ a) l

  pub levels_length : (l : List Action) (τ : ℕ → ℕ) → length (levels τ l) ≡ length l
  unfolding levels
  levels_length [] τ = refl
  levels_length (a ∷ l) τ = ap suc (levels_length l (raise p τ a))

  raises_snoc : (l : List Action) (τ : ℕ → ℕ) (a : Action) → raises τ (l ++ (a ∷ [])) ≡ raise p (raises τ l) a
  unfolding raises
  raises_snoc [] τ a = refl
  raises_snoc (b ∷ l) τ a = raises_snoc l (raise p τ b) a

  pub levels_at : (l : List Action) (τ : ℕ → ℕ) (n : ℕ) → n < length l → get_or (levels τ l) n 0 ≡ level p (raises τ (take n l)) (get_or l n prove_goal)
  unfolding levels raises
  levels_at [] τ n h = absurd (omega arith)
  levels_at (a ∷ l) τ zero h = refl
  levels_at (a ∷ l) τ (suc n) h = levels_at l (raise p τ a) n (omega arith)

  pub levels_snoc : (l : List Action) (τ : ℕ → ℕ) (a : Action) → levels τ (l ++ (a ∷ [])) ≡ levels τ l ++ (level p (raises τ l) a ∷ [])
  unfolding levels raises
  levels_snoc [] τ a = refl
  levels_snoc (b ∷ l) τ a = ap (λ (x : List ℕ). level p τ b ∷ x) (levels_snoc l (raise p τ b) a)

  pub layers_snoc : (l : List Action) (τ : ℕ → ℕ) (k : ℕ) (a : Action) → layers_after p τ k (l ++ (a ∷ [])) ≡ max (layers_after p τ k l) (suc (level p (raises τ l) a))
  unfolding layers_after raises
  layers_snoc [] τ k a = refl
  layers_snoc (b ∷ l) τ k a = layers_snoc l (raise p τ b) (max k (suc (level p τ b))) a

  pub raises_next : (l : List Action) (τ : ℕ → ℕ) (n : ℕ) → n < length l → raises τ (take (suc n) l) ≡ raise p (raises τ (take n l)) (get_or l n prove_goal)
  raises_next l τ n h = ap (raises τ) (take-suc l n prove_goal h) ∙ raises_snoc (take n l) τ (get_or l n prove_goal)

  pub layers_next : (l : List Action) (τ : ℕ → ℕ) (n : ℕ) → n < length l → layers_after p τ 0 (take (suc n) l) ≡ max (layers_after p τ 0 (take n l)) (suc (level p (raises τ (take n l)) (get_or l n prove_goal)))
  layers_next l τ n h = ap (layers_after p τ 0) (take-suc l n prove_goal h) ∙ layers_snoc (take n l) τ 0 (get_or l n prove_goal)

-- no atom has a level yet
abbrev pub none_yet : ℕ → ℕ
none_yet x = 0

-- the steps of a pass: what each adds, where its number stands, and that its level and its entry are in range
pub record Passing (p : Problem) (w st sums : List ℕ) (g : Region) (acts : List Action) (owns steps : List ℕ) : Type 0 where
  pub grounds : Grounds p w st sums g
  pub proves : (i : ℕ) → i < length acts → Proves p (bit st) (get_or acts i prove_goal) (get_or owns i 0)
  pub numbers : (i : ℕ) → i < length acts → get_or steps (g.base + i) 0 % field ≡ action_number p (get_or acts i prove_goal)
  pub few : (i : ℕ) → i < length acts → get_or (levels p none_yet acts) i 0 < 1023
  pub slots : (i : ℕ) → i < length acts → (g.base ≤ slot_in st sums g (get_or owns i 0)) × (slot_in st sums g (get_or owns i 0) < g.base + length acts)
  pub room : g.base + length acts ≤ length steps
  pub short : length acts < field

-- after the first n of them
pub record Passed (p : Problem) (w st sums : List ℕ) (g : Region) (acts : List Action) (owns steps₀ : List ℕ) (P : Passing p w st sums g acts owns steps₀) (n : ℕ) (steps counts : List ℕ) (top : ℕ) : Type 0 where
  pub tabled : Tabled p w st sums g P.grounds (raises p none_yet (take n acts)) steps
  pub same : SameNumbers steps₀ steps
  pub others : (q : ℕ) → (q < g.base) ⊎ (g.base + length acts ≤ q) → get_or steps q 0 ≡ get_or steps₀ q 0
  pub counted : (k : ℕ) → k < 1024 → get_or counts k 0 ≡ occ k (take n (levels p none_yet acts))
  pub layers : top ≡ layers_after p none_yet 0 (take n acts)

module _ (p : Problem) (w st sums : List ℕ) (g : Region) (acts : List Action) (owns steps₀ : List ℕ) (P : Passing p w st sums g acts owns steps₀) where
  pub passed_none : (counts : List ℕ) → Tabled p w st sums g P.grounds none_yet steps₀ → ((k : ℕ) → k < 1024 → get_or counts k 0 ≡ 0) → Passed p w st sums g acts owns steps₀ P 0 steps₀ counts 0
  unfolding raises occ layers_after
  passed_none counts K h = record { tabled = K; same = λ q. refl; others = λ q o. refl; counted = h; layers = refl }

  module _ (n : ℕ) (h : n < length acts) (steps counts : List ℕ) (top : ℕ) (Q : Passed p w st sums g acts owns steps₀ P n steps counts top) where
    abbrev here : Action
    here = get_or acts n prove_goal

    pub level_here : level p (raises p none_yet (take n acts)) (get_or acts n prove_goal) ≡ get_or (levels p none_yet acts) n 0
    level_here = sym (levels_at p acts none_yet n h)

    pub number_here : (k : ℕ) → k ≡ get_or steps (g.base + n) 0 % field → k ≡ action_number p (get_or acts n prove_goal)
    number_here k e = e ∙ Q.same (g.base + n) ∙ P.numbers n h

    occ_most : occ (get_or (levels p none_yet acts) n 0) (take n (levels p none_yet acts)) ≤ n
    occ_most = omega (arith, occ_length (get_or (levels p none_yet acts) n 0) (take n (levels p none_yet acts)), length-take-le n (levels p none_yet acts) (omega (arith, levels_length p acts none_yet)))

    pub count_few : (r : ℕ) → r ≡ level p (raises p none_yet (take n acts)) (get_or acts n prove_goal) → (r < 1024) × (get_or counts r 0 < field)
    count_few r e =
        let q : r ≡ get_or (levels p none_yet acts) n 0 = e ∙ level_here in
        let a = P.few n h in
        let b : get_or counts r 0 ≡ get_or counts (get_or (levels p none_yet acts) n 0) 0 = ap (λ (k : ℕ). get_or counts k 0) q in
        (omega arith, omega (arith, Q.counted (get_or (levels p none_yet acts) n 0) (omega arith), occ_most, P.short))

    pub passed_next : (r : ℕ) (steps' counts' : List ℕ) (top' : ℕ) → length counts ≡ 1024 → r ≡ level p (raises p none_yet (take n acts)) (get_or acts n prove_goal) → Tabled p w st sums g P.grounds (raise p (raises p none_yet (take n acts)) (get_or acts n prove_goal)) steps' → SameNumbers steps steps' → OnlyAt (slot_in st sums g (get_or owns n 0)) steps steps'
        → counts' ≡ set counts r (suc (get_or counts r 0)) → top' ≡ max top (suc r) → Passed p w st sums g acts owns steps₀ P (suc n) steps' counts' top'
    passed_next r steps' counts' top' len e T S O c t = record {
      tabled = subst (λ (τ : ℕ → ℕ). Tabled p w st sums g P.grounds τ steps') (sym (raises_next p acts none_yet n h)) T;
      same = λ q. S q ∙ Q.same q;
      others = λ q o. O q (λ z. ⊎_elim (λ x. absurd (omega (arith, (P.slots n h).0))) (λ x. absurd (omega (arith, (P.slots n h).1))) o) ∙ Q.others q o;
      counted = counted;
      layers = t ∙ ap₂ (λ (a b : ℕ). max a (suc b)) Q.layers e ∙ sym (layers_next p acts none_yet n h);
    }
      where
        key : r ≡ get_or (levels p none_yet acts) n 0
        key = e ∙ level_here

        inside : n < length (levels p none_yet acts)
        inside = omega (arith, levels_length p acts none_yet)

        counted : (k : ℕ) → k < 1024 → get_or counts' k 0 ≡ occ k (take (suc n) (levels p none_yet acts))
        counted k b = ap (λ (m : List ℕ). get_or m k 0) c ∙ by_test (eqb (get_or (levels p none_yet acts) n 0) k) refl ∙ sym (occ_next k n (levels p none_yet acts) inside)
          where
            by_test : (x : Bool) → eqb (get_or (levels p none_yet acts) n 0) k ≡ x → get_or (set counts r (suc (get_or counts r 0))) k 0 ≡ occ k (take n (levels p none_yet acts)) + num x
            by_test true x =
                let q : k ≡ r = sym (eqb-true (get_or (levels p none_yet acts) n 0) k x) ∙ sym key in
                let z : get_or (set counts r (suc (get_or counts r 0))) r 0 ≡ suc (get_or counts r 0) = get_or-set_same counts r (suc (get_or counts r 0)) 0 (omega (arith, (count_few r e).0)) in
                let y : get_or counts r 0 ≡ get_or counts k 0 = ap (λ (i : ℕ). get_or counts i 0) (sym q) in
                ap (λ (i : ℕ). get_or (set counts r (suc (get_or counts r 0))) i 0) q ∙ z ∙ ap suc (y ∙ Q.counted k b) ∙ omega arith
            by_test false x =
                let q = eqb-false (get_or (levels p none_yet acts) n 0) k x in
                get_or-set_other counts r k (suc (get_or counts r 0)) 0 (λ z. q (sym key ∙ sym z)) ∙ Q.counted k b ∙ omega arith

-- ---- what the code has after a step, and after each turn
pub act_of_lem : (p : Problem) (x : Act) (k : ℕ) (a : Action) → x ≡ act_of (action_at p k) → k ≡ action_number p a → IsAction p a → x ≡ said a
unfolding act_of
act_of_lem p x k a e q v = e ∙ ap act_of (ap (action_at p) q ∙ action_at_lem p a v)

pub raised_by : (p : Problem) (w st sums : List ℕ) (g : Region) (R : Grounds p w st sums g) (τ : ℕ → ℕ) (steps : List ℕ) (K : Tabled p w st sums g R τ steps) (a : Action) (own : ℕ) (P : Proves p (bit st) a own) (x : Act) (lv own' at : ℕ) (steps' : List ℕ)
    → x ≡ said a → lv ≡ level_by (look_in st sums steps g) w x → own' ≡ own_by w x → at ≡ slot_in st sums g own' → (lv + 1 < 1024 → steps' ≡ with_level steps at (lv + 1)) → level p τ a < 1023 → slot_in st sums g own < length steps
    → (lv ≡ level p τ a) × Tabled p w st sums g R (raise p τ a) steps' × SameNumbers steps steps' × OnlyAt (slot_in st sums g own) steps steps'
raised_by p w st sums g R τ steps K a own P x lv own' at steps' e l o q f few room =
    let lv_is : lv ≡ level p τ a = l ∙ ap (level_by (look_in st sums steps g) w) e ∙ level_is p w st sums g R τ steps K a own P in
    let at_is : at ≡ slot_in st sums g own = q ∙ ap (slot_in st sums g) (o ∙ ap (own_by w) e ∙ own_of p w st sums g R τ steps K a own P) in
    let n : lv + 1 ≡ suc lv = omega arith in
    let z : steps' ≡ with_level steps (slot_in st sums g own) (suc lv) = f (omega arith) ∙ ap₂ (with_level steps) at_is n in
    (lv_is, subst (Tabled p w st sums g R (raise p τ a)) (sym z) (raised p w st sums g R τ steps K a own P lv lv_is room), subst (SameNumbers steps) (sym z) (level_keeps steps (slot_in st sums g own) (suc lv)), subst (OnlyAt (slot_in st sums g own) steps) (sym z) (level_only steps (slot_in st sums g own) (suc lv)))

module _ (p : Problem) (w st sums : List ℕ) (g : Region) (acts : List Action) (owns steps₀ : List ℕ) (P : Passing p w st sums g acts owns steps₀) where
  pub passed_on : (n : ℕ) (h : n < length acts) (steps counts : List ℕ) (top : ℕ) (Q : Passed p w st sums g acts owns steps₀ P n steps counts top) (k lv old top' : ℕ) (steps' counts' : List ℕ) → length counts ≡ 1024 → length steps ≡ length steps₀
      → k ≡ get_or steps (g.base + n) 0 % field
      → (Proves p (bit st) (get_or acts n prove_goal) (get_or owns n 0) → k ≡ action_number p (get_or acts n prove_goal) → Tabled p w st sums g P.grounds (raises p none_yet (take n acts)) steps → level p (raises p none_yet (take n acts)) (get_or acts n prove_goal) < 1023
      → slot_in st sums g (get_or owns n 0) < length steps → (lv ≡ level p (raises p none_yet (take n acts)) (get_or acts n prove_goal)) × Tabled p w st sums g P.grounds (raise p (raises p none_yet (take n acts)) (get_or acts n prove_goal)) steps' × SameNumbers steps steps' × OnlyAt (slot_in st sums g (get_or owns n 0)) steps steps')
      → (lv < length counts → get_or counts lv 0 < field → (old ≡ get_or counts lv 0) × (counts' ≡ set counts lv (suc old))) → top' ≡ max top (lv + 1) → Passed p w st sums g acts owns steps₀ P (suc n) steps' counts' top'
  passed_on n h steps counts top Q k lv old top' steps' counts' len len' e f b t =
      let lh = level_here p w st sums g acts owns steps₀ P n h steps counts top Q in
      let r = f (P.proves n h) (number_here p w st sums g acts owns steps₀ P n h steps counts top Q k e) Q.tabled (omega (arith, P.few n h, lh)) (omega (arith, (P.slots n h).1, P.room)) in
      let c = count_few p w st sums g acts owns steps₀ P n h steps counts top Q lv r.0 in
      let d = b (omega (arith, c.0)) c.1 in
      let m : lv + 1 ≡ suc lv = omega arith in
      passed_next p w st sums g acts owns steps₀ P n h steps counts top Q lv steps' counts' top' len r.0 r.1 r.2 r.3 (d.1 ∙ ap (λ (o : ℕ). set counts lv (suc o)) d.0) (t ∙ ap (max top) m)

  pub passed_as : (n m : ℕ) (steps counts : List ℕ) (top : ℕ) → n ≡ m → Passed p w st sums g acts owns steps₀ P n steps counts top → Passed p w st sums g acts owns steps₀ P m steps counts top
  passed_as n m steps counts top e Q = subst (λ (n : ℕ). Passed p w st sums g acts owns steps₀ P n steps counts top) e Q

  -- after all of them prove-goal is counted too
  pub goal_counted : (steps counts : List ℕ) (top lg old layers : ℕ) (counts' : List ℕ) → length counts ≡ 1024 → Passed p w st sums g acts owns steps₀ P (length acts) steps counts top → lg ≡ level p (raises p none_yet acts) prove_goal → lg < 1024
      → (lg < length counts → get_or counts lg 0 < field → (old ≡ get_or counts lg 0) × (counts' ≡ set counts lg (suc old))) → layers ≡ max top (lg + 1)
      → ((k : ℕ) → k < 1024 → get_or counts' k 0 ≡ occ k (levels p none_yet (acts ++ (prove_goal ∷ [])))) × (layers ≡ layers_after p none_yet 0 (acts ++ (prove_goal ∷ [])))
  goal_counted steps counts top lg old layers counts' len Q e h b t = (counted, t ∙ ap₂ max whole n ∙ sym (layers_snoc p acts none_yet 0 prove_goal))
    where
      n : lg + 1 ≡ suc (level p (raises p none_yet acts) prove_goal)
      n = omega (arith, e)

      whole : top ≡ layers_after p none_yet 0 acts
      whole = Q.layers ∙ ap (layers_after p none_yet 0) (take-length acts)

      all_levels : take (length acts) (levels p none_yet acts) ≡ levels p none_yet acts
      all_levels = ap (λ (k : ℕ). take k (levels p none_yet acts)) (sym (levels_length p acts none_yet)) ∙ take-length (levels p none_yet acts)

      so_far : (k : ℕ) → k < 1024 → get_or counts k 0 ≡ occ k (levels p none_yet acts)
      so_far k u = Q.counted k u ∙ ap (occ k) all_levels

      d : (old ≡ get_or counts lg 0) × (counts' ≡ set counts lg (suc old))
      d = b (omega arith) (omega (arith, so_far lg h, occ_length lg (levels p none_yet acts), levels_length p acts none_yet, P.short))

      counted : (k : ℕ) → k < 1024 → get_or counts' k 0 ≡ occ k (levels p none_yet (acts ++ (prove_goal ∷ [])))
      counted k u = ap (λ (m : List ℕ). get_or m k 0) d.1 ∙ by_test (eqb lg k) refl ∙ sym (ap (occ k) (levels_snoc p acts none_yet prove_goal ∙ ap (λ (x : ℕ). levels p none_yet acts ++ (x ∷ [])) (sym e)) ∙ occ_snoc k (levels p none_yet acts) lg)
        where
          by_test : (x : Bool) → eqb lg k ≡ x → get_or (set counts lg (suc old)) k 0 ≡ occ k (levels p none_yet acts) + num x
          by_test true x =
              let q = eqb-true lg k x in
              let z = get_or-set_same counts lg (suc old) 0 (omega arith) in
              let y : get_or counts lg 0 ≡ get_or counts k 0 = ap (λ (i : ℕ). get_or counts i 0) q in
              ap (λ (i : ℕ). get_or (set counts lg (suc old)) i 0) (sym q) ∙ z ∙ ap suc (d.0 ∙ y ∙ so_far k u) ∙ omega arith
          by_test false x =
              let q = eqb-false lg k x in
              get_or-set_other counts lg k (suc old) 0 (λ z. q (sym z)) ∙ so_far k u ∙ omega arith

-- what the first pass leaves
pub record Raised (p : Problem) (w st sums : List ℕ) (g : Region) (R : Grounds p w st sums g) (acts : List Action) (steps₀ steps counts : List ℕ) (goal-level layers : ℕ) : Type 0 where
  pub tabled : Tabled p w st sums g R (raises p none_yet acts) steps
  pub same : SameNumbers steps₀ steps
  pub others : (q : ℕ) → (q < g.base) ⊎ (g.base + length acts ≤ q) → get_or steps q 0 ≡ get_or steps₀ q 0
  pub goal_is : goal-level ≡ level p (raises p none_yet acts) prove_goal
  pub counted : (k : ℕ) → k < 1024 → get_or counts k 0 ≡ occ k (levels p none_yet (acts ++ (prove_goal ∷ [])))
  pub number : layers ≡ layers_after p none_yet 0 (acts ++ (prove_goal ∷ []))

pub goal_raised : (p : Problem) (w st sums : List ℕ) (g : Region) (acts : List Action) (owns steps₀ : List ℕ) (P : Passing p w st sums g acts owns steps₀) (steps counts : List ℕ) (top lg old layers : ℕ) (counts' : List ℕ) → length counts ≡ 1024
    → Passed p w st sums g acts owns steps₀ P (length acts) steps counts top → IsAction p prove_goal → T (may_take p (bit st) prove_goal) → lg ≡ level_by (look_in st sums steps g) w (said prove_goal) → lg < 1024
    → (lg < length counts → get_or counts lg 0 < field → (old ≡ get_or counts lg 0) × (counts' ≡ set counts lg (suc old))) → layers ≡ max top (lg + 1) → Raised p w st sums g P.grounds acts steps₀ steps counts' lg layers
goal_raised p w st sums g acts owns steps₀ P steps counts top lg old layers counts' len Q v m e h b t =
    let T' : Tabled p w st sums g P.grounds (raises p none_yet acts) steps = subst (λ (l : List Action). Tabled p w st sums g P.grounds (raises p none_yet l) steps) (take-length acts) Q.tabled in
    let lv : lg ≡ level p (raises p none_yet acts) prove_goal = e ∙ goal_said (look_in st sums steps g) w ∙ level_told p w st sums g P.grounds (raises p none_yet acts) steps T' prove_goal v m in
    let c = goal_counted p w st sums g acts owns steps₀ P steps counts top lg old layers counts' len Q lv h b t in
    record { tabled = T'; same = Q.same; others = Q.others; goal_is = lv; counted = c.0; number = c.1 }

pub goal_act : (look : ℕ → ℕ) (w : List ℕ) (r : ℕ) → r ≡ level_by look w Goal → r ≡ level_by look w (said prove_goal)
unfolding said
goal_act look w r e = e
