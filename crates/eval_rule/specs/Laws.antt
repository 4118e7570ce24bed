-- A node's truth as a search that may be left early.
use Rattle.std.specs.Prelude.{◌≡◌, Bool, false, not, ◌||◌, List, [], ◌∷◌, map, ℕ, zero, suc, ◌+◌, ◌-◌, ◌*◌, ◌/◌, ◌%◌, ◌^◌, ◌≤◌, ◌<◌, max, eqb, ltb, length, set, if◌then◌else◌}
use Rattle.std.proofs.Math.Path.{refl, sym, ap, fun_ext}
use Rattle.std.proofs.Common.{ap₂, ◌∙◌, add-zero, zero-add, div-le_self}
use Rattle.std.proofs.Math.Bool.{true, beq}
use native.Mathlib.Omega.{arith}
use Rattle.std.proofs.Math.Numerals.{add-one}
use Rattle.std.proofs.Math.Nat.{mod-le}
use Rattle.std.proofs.Math.Decide.{dec_lt}
use borrow.Author.Tests.{lt-ltb, le-ltb, ne_eqb, eqb-true, ltb-true}
use Rattle.std.proofs.Math.ListN.{get_or}
use Rattle.definitions.specs.Lists.{any, from, below}
use Rattle.definitions.specs.Sheet.Relations.{built_in_holds}
use Rattle.definitions.specs.Problem.Tree.{Tree, Part}
use Rattle.definitions.specs.Problem.Actions.{Values, with_value}
use Rattle.laws.specs.Lists.{any_yes, any_no, any_end, any_start}
use Rattle.bits.specs.Table.{digit, bit}
use Rattle.bits.proofs.Shifts.{past_digit}
use Rattle.rows.specs.Values.{value_in, Within, Most}
use Rattle.rows.specs.Laws.{set_value}
use Rattle.problem_table.specs.Lines.{part_number, members_in}
use Rattle.problem_table.specs.NeedLaws.{value_times, within_most}
use Rattle.problem_table.specs.Of.{no_part}
use Rattle.problem_table.specs.declared.PartLine.{PartLine}
use Rattle.eval_rule.specs.Lines.{lines_length, node_in, part_in, line_in, part_place, literal_at, leaf_at, agree, element_in, value_of, values_of, fixed_in, known, decided, joined, bound, SoundLines}
use Rattle.eval_rule.specs.Says.{Truth, Leaf, node_of, no_values, PartSays, Says, Asked, truth_by, cell_of, under_of, parts_in, AllTurns, AllParts, IsCell, IsNode, Under, Still, Passed}
use Rattle.eval_rule.specs.declared.NodeAt.{NodeAt}
use Rattle.eval_rule.specs.declared.PartAt.{PartAt}

any_map : {A : Type 0} (g : A → Bool) (f : ℕ → A) (l : List ℕ) → any g (map f l) ≡ any (λ i. g (f i)) l
unfolding any
any_map g f [] = refl
any_map g f (x ∷ l) = ap (λ (b : Bool). g (f x) || b) (any_map g f l)

-- one of a run is enough, and none of a list is none
any_from : (g : ℕ → Bool) (k a i : ℕ) → i < k → g (a + i) ≡ true → any g (from a k) ≡ true
unfolding any from
any_from g zero a i h e = absurd (omega arith)
any_from g (suc k) a zero h e = rw (ap g (sym (add-zero a)) ∙ e) refl
any_from g (suc k) a (suc i) h e = let q : suc a + i ≡ a + suc i = omega arith in rw (any_from g k (suc a) i (omega arith) (ap g q ∙ e)) (by_test (g a))
  where
    by_test : (b : Bool) → (b || true) ≡ true
    by_test true = refl
    by_test false = refl

any_below : (g : ℕ → Bool) (k i : ℕ) → i < k → g i ≡ true → any g (below k) ≡ true
unfolding below
any_below g k i h e = any_from g k 0 i h (ap g (zero-add i) ∙ e)

any_never : (g : ℕ → Bool) (l : List ℕ) → ((x : ℕ) → g x ≡ false) → any g l ≡ false
unfolding any
any_never g [] h = refl
any_never g (x ∷ l) h = rw (h x) (any_never g l h)

any_turns : (g : ℕ → Bool) (w : List ℕ) (range k : ℕ) → any g (members_in w range k) ≡ any (λ y. g (element_in w range y)) (from 0 (k - 0))
unfolding members_in
any_turns g w range k = any_map g (element_in w range) (below k) ∙ any_start (λ y. g (element_in w range y)) k

-- ---- what sound lines say of one
module _ (n : ℕ) (w : List ℕ) (sound : SoundLines n w) (v : ℕ) (l : v < 64) (x : NodeAt) (line : x ≡ node_in w v) where
  pub level_small : x.level < 4
  level_small = rw line (sound.node v l).level

  pub parts_small : x.first + x.many ≤ 64
  parts_small = rw line (sound.node v l).parts

  pub range_inside : x.range + x.count ≤ lines_length
  range_inside = rw line (sound.node v l).inside

  pub element_small : (i : ℕ) → i < x.count → element_in w x.range i < n
  element_small i h = rw line ((sound.node v l).element i (rw line at h))

  pub rises : (i : ℕ) (q : PartAt) → i < x.many → q ≡ part_in w (x.first + i) → q.tag ≡ 0 → (v < q.which) × (q.which < 64)
  rises i q h e t = rw (e, line) ((sound.node v l).rises i (rw line at h) (rw (e, line) at t))

-- ---- the turns of a search, which are counted by how many are left
agree_off : (a b : Bool) → agree a b ≡ false → agree (not a) b ≡ true
unfolding agree
agree_off true true h = sym h
agree_off true false h = refl
agree_off false true h = refl
agree_off false false h = sym h

agree_on : (a b : Bool) → agree a b ≡ true → agree (not a) b ≡ false
unfolding agree
agree_on true true h = refl
agree_on true false h = sym h
agree_on false true h = sym h
agree_on false false h = refl

agree_not : (b joins : Bool) → agree b joins ≡ false → b ≡ not joins
unfolding agree
agree_not true true h = h
agree_not true false h = refl
agree_not false true h = refl
agree_not false false h = sym h

-- ---- values that differ at one level alone
pub same_value : (e : Values) (d : ℕ) → e ≡ with_value e d (e d)
unfolding with_value
same_value e d = fun_ext (λ l. by_number l (eqb l d) refl)
  where
    by_number : (l : ℕ) (b : Bool) → eqb l d ≡ b → e l ≡ (if b then e d else e l)
    by_number l true h = ap e (eqb-true l d h)
    by_number l false h = refl

pub with_other : (e θ : Values) (d y z : ℕ) → θ ≡ with_value e d y → with_value θ d z ≡ with_value e d z
unfolding with_value
with_other e θ d y z are = ap (λ (u : Values). with_value u d z) are ∙ fun_ext (λ l. by_number l (eqb l d))
  where
    by_number : (l : ℕ) (b : Bool) → (if b then z else if b then y else e l) ≡ (if b then z else e l)
    by_number l true = refl
    by_number l false = refl

-- ---- what is known of fixed parts
pub known_fixed : (fixed : Bool) (i seen : ℕ) → fixed ≡ true → ltb i seen ≡ known fixed i seen
unfolding known
known_fixed fixed i seen e = rw e refl

pub known_not : (fixed : Bool) (i seen : ℕ) → fixed ≡ false → false ≡ known fixed i seen
unfolding known
known_not fixed i seen e = rw e refl

pub known_is : (fixed : Bool) (i seen : ℕ) (r : Bool) → r ≡ known fixed i seen → r ≡ true → (fixed ≡ true) × (i < seen)
unfolding known
known_is true i seen r e h = (refl, ltb-true i seen (sym e ∙ h))
known_is false i seen r e h = let z : ◌≡◌ {A = Bool} false true = sym e ∙ h in (z, absurd (clash z))
  where
    clash : ◌≡◌ {A = Bool} false true → ⊥
    clash q = let z : ◌≡◌ {A = ℕ} 0 1 = cc in omega arith

pub later_over : (a b k : ℕ) → k ≡ max a b → (a ≤ k) × (b ≤ k)
later_over a b k e = (omega arith, omega arith)

later_new : (i seen j : ℕ) → i ≤ seen → j < max seen (i + 1) → (j < seen → ⊥) → j ≡ i
later_new i seen j h l q = from_this (dec_lt j seen)
  where
    from_this : Dec (j < seen) → j ≡ i
    from_this (yes z) = absurd (q z)
    from_this (no z) = omega arith

pub fixed_at : (w : List ℕ) (i level : ℕ) → level < 4 → eqb (get_or w (448 + 7 * i + 3 + level) 0) 0 ≡ fixed_in w i level
unfolding fixed_in line_in
fixed_at w i zero h = let e : 448 + 7 * i + 3 + 0 ≡ 448 + 7 * i + 3 = omega arith in ap (λ (k : ℕ). eqb (get_or w k 0) 0) e
fixed_at w i (suc zero) h = let e : 448 + 7 * i + 3 + 1 ≡ 448 + 7 * i + 4 = omega arith in ap (λ (k : ℕ). eqb (get_or w k 0) 0) e
fixed_at w i (suc (suc zero)) h = let e : 448 + 7 * i + 3 + 2 ≡ 448 + 7 * i + 5 = omega arith in ap (λ (k : ℕ). eqb (get_or w k 0) 0) e
fixed_at w i (suc (suc (suc zero))) h = let e : 448 + 7 * i + 3 + 3 ≡ 448 + 7 * i + 6 = omega arith in ap (λ (k : ℕ). eqb (get_or w k 0) 0) e
fixed_at w i (suc (suc (suc (suc l)))) h = absurd (omega arith)

-- one part that decides an element is enough
pub under_at_lem : (H : Truth) (ps : List Part) (kind level many : ℕ) (joins sought : Bool) (θ : Values) (i : ℕ) → i < many → agree (cell_of H ps θ i) joins ≡ true
    → under_of H ps kind level many joins sought θ ≡ joins
unfolding under_of joined decided
under_at_lem H ps kind level many joins sought θ i l e = ap (decided joins) (any_below (λ j. agree (cell_of H ps θ j) joins) many i l e)

module _ (n : ℕ) (w : List ℕ) (leaf : Leaf) (v : ℕ) where
  pub still_is : (x : NodeAt) → x ≡ node_in w v → Still n w leaf v x.level x.first x.many
  unfolding cell_of
  still_is x line H root h i l f e y z = rw line ((h.says.node v h.inside).still i (rw line at l) (rw line at f) e y z)

  module _ (level first many : ℕ) (joins : Bool) where
    pub passed_none : (e : Values) → Passed n w leaf v level first many joins e 0
    passed_none e H root h j l f y = absurd (omega arith)

    -- what stands at the level does not matter
    pub passed_over : (e θ : Values) (y seen : ℕ) → θ ≡ with_value e level y → Passed n w leaf v level first many joins e seen → Passed n w leaf v level first many joins θ seen
    passed_over e θ y seen are p H root h j l f z = ap (λ (u : Values). cell_of H (parts_in n w leaf v h) u j) (with_other e θ level y z are) ∙ p H root h j l f z

    pub passed_back : (e θ : Values) (y seen : ℕ) → θ ≡ with_value e level y → Passed n w leaf v level first many joins θ seen → Passed n w leaf v level first many joins e seen
    passed_back e θ y seen are p H root h j l f z = ap (λ (u : Values). cell_of H (parts_in n w leaf v h) u j) (sym (with_other e θ level y z are)) ∙ p H root h j l f z

    module _ (θ : Values) (seen : ℕ) (p : Passed n w leaf v level first many joins θ seen) (i : ℕ) where
      -- a part that is known decides nothing
      pub cell_known : i < seen → fixed_in w (first + i) level ≡ true → (b : Bool) → b ≡ not joins → IsCell n w leaf v θ i b
      cell_known l f b q H root h = q ∙ sym (ap (λ (z : Values). cell_of H (parts_in n w leaf v h) z i) (same_value θ level) ∙ p H root h i l f (θ level))

      pub passed_next : Still n w leaf v level first many → (b r : Bool) → i ≤ seen → i < many → IsCell n w leaf v θ i b → r ≡ agree b joins → r ≡ false → (k : ℕ) → k ≡ max seen (i + 1)
          → Passed n w leaf v level first many joins θ k
      passed_next still b r q l k a f m g H root h j o x z = from_this (dec_lt j seen)
        where
          at_i : j ≡ i → cell_of H (parts_in n w leaf v h) (with_value θ level z) j ≡ not joins
          at_i d =
              ap (cell_of H (parts_in n w leaf v h) (with_value θ level z)) d ∙ still H root h i l (ap (λ (u : ℕ). fixed_in w (first + u) level) (sym d) ∙ x) θ z (θ level)
              ∙ ap (λ (u : Values). cell_of H (parts_in n w leaf v h) u i) (sym (same_value θ level)) ∙ sym (k H root h) ∙ agree_not b joins (sym a ∙ f)

          from_this : Dec (j < seen) → cell_of H (parts_in n w leaf v h) (with_value θ level z) j ≡ not joins
          from_this (yes s) = p H root h j s x z
          from_this (no s) = at_i (later_new i seen j q (rw g at o) s)

  pub turns_start : (x : NodeAt) (e : Values) → x ≡ node_in w v → AllTurns n w leaf v x.kind x.level x.many (eqb x.join 1) (eqb x.kind 1) e (element_in w x.range) x.count 0
  unfolding truth_by bound under_of cell_of
  turns_start x e line H root h =
      let s = h.says.node v h.inside in
      s.truth e ∙ ap (λ (y : NodeAt). truth_by H root n w leaf y e s.parts) (sym line)
      ∙ ap (decided (eqb x.kind 1)) (any_turns _ w x.range x.count)

  module _ (kind level many : ℕ) (joins sought : Bool) where
    pub parts_start : (θ : Values) → AllParts n w leaf v kind level many joins sought θ 0
    unfolding under_of joined
    parts_start θ H root h = ap (decided joins) (any_start _ many)

    module _ (θ : Values) (i : ℕ) (p : AllParts n w leaf v kind level many joins sought θ i) where
      pub parts_next : (b r : Bool) → i < many → IsCell n w leaf v θ i b → r ≡ agree b joins → r ≡ false → AllParts n w leaf v kind level many joins sought θ (i + 1)
      parts_next b r l k a f H root h =
          p H root h ∙ ap (decided joins) (any_no (λ j. agree (cell_of H (parts_in n w leaf v h) θ j) joins) many i l (ap (λ (z : Bool). agree z joins) (sym (k H root h)) ∙ sym a ∙ f))

      -- what an element gives: what its parts are joined by where one decides it, else the other
      under_hit : (b r : Bool) → i < many → IsCell n w leaf v θ i b → r ≡ agree b joins → r ≡ true → Under n w leaf v kind level many joins sought θ joins
      unfolding decided
      under_hit b r l k a f H root h =
          p H root h ∙ ap (decided joins) (any_yes (λ j. agree (cell_of H (parts_in n w leaf v h) θ j) joins) many i l (ap (λ (z : Bool). agree z joins) (sym (k H root h)) ∙ sym a ∙ f))

      under_none : many ≤ i → Under n w leaf v kind level many joins sought θ (not joins)
      unfolding decided
      under_none l H root h = p H root h ∙ ap (decided joins) (any_end (λ j. agree (cell_of H (parts_in n w leaf v h) θ j) joins) many i l)

    module _ (e : Values) (element : ℕ → ℕ) (turns turn : ℕ) (t : AllTurns n w leaf v kind level many joins sought e element turns turn) where
      pub ends : (answer : Bool) → turns ≤ turn → answer ≡ not sought → IsNode n w leaf v e answer
      unfolding decided
      ends answer l a H root h = a ∙ sym (t H root h ∙ ap (decided sought) (any_end (λ y. agree (under_of H (parts_in n w leaf v h) kind level many joins sought (values_of kind level e (element y))) sought) turns turn l))

      -- a fixed part that decides one element decides all
      pub fixed_ends : (first : ℕ) → Still n w leaf v level first many → (θ : Values) (y : ℕ) → θ ≡ with_value e level y → (i : ℕ) → i < many → fixed_in w (first + i) level ≡ true
          → (b r : Bool) → IsCell n w leaf v θ i b → r ≡ agree b joins → r ≡ true → (decisive : Bool) → decisive ≡ agree joins sought → decisive ≡ false → (answer : Bool) → answer ≡ not sought → IsNode n w leaf v e answer
      unfolding decided
      fixed_ends first still θ y are i l x b r k a f decisive d g answer q H root h =
          q ∙ sym (t H root h ∙ ap (decided sought) (any_never _ (from turn (turns - turn)) (λ u.
          ap (λ (z : Bool). agree z sought) (under_at_lem H (parts_in n w leaf v h) kind level many joins sought (values_of kind level e (element u)) i l (hit u)) ∙ sym d ∙ g)))
        where
          hit : (u : ℕ) → agree (cell_of H (parts_in n w leaf v h) (values_of kind level e (element u)) i) joins ≡ true
          hit u =
              ap (λ (z : Bool). agree z joins)
              (still H root h i l x e (value_of kind (element u) (e level)) y ∙ ap (λ (z : Values). cell_of H (parts_in n w leaf v h) z i) (sym are) ∙ sym (k H root h))
              ∙ sym a ∙ f

      module _ (l : turn < turns) (θ : Values) (are : θ ≡ values_of kind level e (element turn)) where
        gives : (b : Bool) → Under n w leaf v kind level many joins sought θ b → (H : Truth) (root : Tree) (h : Asked H root n w leaf v)
            → agree (under_of H (parts_in n w leaf v h) kind level many joins sought (values_of kind level e (element turn))) sought ≡ agree b sought
        gives b k H root h = ap (λ (z : Bool). agree z sought) (ap (under_of H (parts_in n w leaf v h) kind level many joins sought) (sym are) ∙ k H root h)

        -- the next element, where this one does not decide the node; and where it does
        turns_next : (b : Bool) → Under n w leaf v kind level many joins sought θ b → agree b sought ≡ false → AllTurns n w leaf v kind level many joins sought e element turns (turn + 1)
        turns_next b k a H root h =
            t H root h ∙ ap (decided sought) (any_no (λ y. agree (under_of H (parts_in n w leaf v h) kind level many joins sought (values_of kind level e (element y))) sought) turns turn l (gives b k H root h ∙ a))

        hits : (b : Bool) → Under n w leaf v kind level many joins sought θ b → agree b sought ≡ true → IsNode n w leaf v e sought
        unfolding decided
        hits b k a H root h =
            sym (t H root h ∙ ap (decided sought) (any_yes (λ y. agree (under_of H (parts_in n w leaf v h) kind level many joins sought (values_of kind level e (element y))) sought) turns turn l (gives b k H root h ∙ a)))

        -- ---- the four ways on: a part decides the element, or none does; and that decides the node, or does not
        module _ (i : ℕ) (p : AllParts n w leaf v kind level many joins sought θ i) (decisive : Bool) (d : decisive ≡ agree joins sought) where
          pub part_ends : (b r : Bool) → i < many → IsCell n w leaf v θ i b → r ≡ agree b joins → r ≡ true → decisive ≡ true → IsNode n w leaf v e sought
          part_ends b r m k a f y = hits joins (under_hit θ i p b r m k a f) (sym d ∙ y)

          pub part_goes : (b r : Bool) → i < many → IsCell n w leaf v θ i b → r ≡ agree b joins → r ≡ true → decisive ≡ false → AllTurns n w leaf v kind level many joins sought e element turns (turn + 1)
          part_goes b r m k a f y = turns_next joins (under_hit θ i p b r m k a f) (sym d ∙ y)

          pub none_goes : many ≤ i → decisive ≡ true → AllTurns n w leaf v kind level many joins sought e element turns (turn + 1)
          none_goes m y = turns_next (not joins) (under_none θ i p m) (agree_on joins sought (sym d ∙ y))

          pub none_ends : many ≤ i → decisive ≡ false → IsNode n w leaf v e sought
          none_ends m y = hits (not joins) (under_none θ i p m) (agree_off joins sought (sym d ∙ y))

  -- ---- a part
  module _ (x : NodeAt) (line : x ≡ node_in w v) (i : ℕ) (inside : i < x.many) (q : PartAt) (part : q ≡ part_in w (x.first + i)) (values : List ℕ) where
    says_part : (H : Truth) (root : Tree) (h : Asked H root n w leaf v)
        → PartSays H root n w leaf q (line_in w (x.first + i)) (get_or (parts_in n w leaf v h) i no_part).node (get_or (parts_in n w leaf v h) i no_part).tree
    says_part H root h = rw (part, line) ((h.says.node v h.inside).part i (rw line at inside))

    pub cell_node : (b : Bool) → q.tag ≡ 0 → ((H : Truth) (root : Tree) → Asked H root n w leaf q.which → b ≡ H (value_in values) (node_of root q.which))
        → IsCell n w leaf v (value_in values) i b
    unfolding cell_of
    cell_node b t k H root h =
        let s = (says_part H root h).node t in
        k H root (record { says = h.says; inside = rw s.0 s.1 }) ∙ ap (H (value_in values)) (ap (node_of root) s.0 ∙ s.2)

    pub cell_leaf : (b : Bool) → (q.tag ≡ 0 → ⊥) → Within n values → b ≡ leaf (value_in values) q (line_in w (x.first + i)) → IsCell n w leaf v (value_in values) i b
    unfolding cell_of value_in
    cell_leaf b t m k H root h = k ∙ (says_part H root h).literal t (value_in values) m

-- ---- functions of one line
module _ (facts picks : List ℕ) (n which k : ℕ) where
  pub is_pair : which < 3 → built_in_holds n which (k / n) (k % n) ≡ literal_at facts picks n which k
  unfolding literal_at
  is_pair h = rw (lt-ltb which 3 h) refl

  pub is_one : 3 ≤ which → which < 5 → built_in_holds n which k 0 ≡ literal_at facts picks n which k
  unfolding literal_at
  is_one l h = rw (le-ltb which 3 l, lt-ltb which 5 h) refl

  pub is_fact : which ≡ 5 → bit facts k ≡ literal_at facts picks n which k
  unfolding literal_at
  is_fact e = rw e refl

  pub is_pick : which ≡ 6 → bit picks k ≡ literal_at facts picks n which k
  unfolding literal_at
  is_pick e = rw e refl

  pub is_value : 7 ≤ which → digit (which - 7) k ≡ literal_at facts picks n which k
  unfolding literal_at
  is_value h =
      let l : 3 ≤ which = omega arith in
      let m : 5 ≤ which = omega arith in
      rw (le-ltb which 3 l, le-ltb which 5 m, ne_eqb which 5 (λ e. omega arith), ne_eqb which 6 (λ e. omega arith)) refl

-- ---- a digit of a value
pub digit_within : (value k : ℕ) → eqb (value / 2 ^ k % 2) 1 ≡ digit value k
unfolding digit
digit_within value k = refl

pub digit_past : (value k : ℕ) → value < 2 ^ 64 → 64 ≤ k → false ≡ digit value k
digit_past value k h l = sym (past_digit value 64 k h l)

-- built-in relations
module _ (n r x y : ℕ) where
  pub is_eq : r ≡ 0 → eqb x y ≡ built_in_holds n r x y
  unfolding built_in_holds
  is_eq e = rw e refl

  pub is_lt : r ≡ 1 → ltb x y ≡ built_in_holds n r x y
  unfolding built_in_holds
  is_lt e = rw e refl

  pub is_suc : r ≡ 2 → eqb y (x + 1) ≡ built_in_holds n r x y
  unfolding built_in_holds
  is_suc e = rw (e, add-one x) refl

  pub is_zero : r ≡ 3 → eqb x 0 ≡ built_in_holds n r x y
  unfolding built_in_holds
  is_zero e = rw e refl

  pub is_max : r ≡ 4 → eqb (x + 1) n ≡ built_in_holds n r x y
  unfolding built_in_holds
  is_max e = rw (e, add-one x) refl

pub agree_is : (a b : Bool) → beq a b ≡ agree a b
unfolding agree
agree_is true true = refl
agree_is true false = refl
agree_is false true = refl
agree_is false false = refl

pub value_element : (kind element old : ℕ) → kind < 2 → element ≡ value_of kind element old
unfolding value_of
value_element kind element old h = rw (lt-ltb kind 2 h) refl

pub value_old : (kind element old : ℕ) → 2 ≤ kind → old ≡ value_of kind element old
unfolding value_of
value_old kind element old h = rw (le-ltb kind 2 h) refl

-- ---- the values, set in place turn after turn: all but the one at the level stay
abbrev pub Steady : (env : List ℕ) (level : ℕ) (values : List ℕ) → Type 0
Steady env level values = (y : ℕ) → value_in (set values level y) ≡ with_value (value_in env) level y

set_again : (l : List ℕ) (i a b : ℕ) → set (set l i a) i b ≡ set l i b
set_again [] i a b = refl
set_again (x ∷ l) zero a b = refl
set_again (x ∷ l) (suc i) a b = ap (λ (z : List ℕ). x ∷ z) (set_again l i a b)

pub steady_start : (env : List ℕ) (level : ℕ) → level < length env → Steady env level env
steady_start env level h y = set_value env level y h

pub steady_next : (env : List ℕ) (level : ℕ) (values : List ℕ) (z : ℕ) → Steady env level values → Steady env level (set values level z)
steady_next env level values z s y = ap value_in (set_again values level z y) ∙ s y

-- the values in a turn
pub values_are : (env : List ℕ) (kind level element y : ℕ) (values : List ℕ) → Steady env level values → y ≡ value_of kind element (get_or env level 0) → value_in (set values level y) ≡ values_of kind level (value_in env) element
unfolding value_in
values_are env kind level element y values s e = s y ∙ ap (with_value (value_in env) level) e

pub value_small : (n kind element old y : ℕ) → y ≡ value_of kind element old → element < n → old < n → y < n
unfolding value_of
value_small n kind element old y e l o = by_test (ltb kind 2) e
  where
    by_test : (b : Bool) → y ≡ (if b then element else old) → y < n
    by_test true a = omega arith
    by_test false a = omega arith

-- ---- a literal's line
module _ (n : ℕ) (w : List ℕ) (sound : SoundLines n w) where
  entries : (a b c d : ℕ) → Most (get_or w a 0 ∷ get_or w b 0 ∷ get_or w c 0 ∷ get_or w d 0 ∷ []) (2 ^ 32)
  entries a b c d zero = sound.entry a
  entries a b c d (suc zero) = sound.entry b
  entries a b c d (suc (suc zero)) = sound.entry c
  entries a b c d (suc (suc (suc zero))) = sound.entry d
  entries a b c d (suc (suc (suc (suc i)))) = omega arith

  pub line_small : (i : ℕ) (q : PartLine) → q ≡ line_in w i → (q.start ≤ 2 ^ 32) × Most q.weights (2 ^ 32)
  unfolding line_in
  line_small i q e = rw e (sound.entry (part_place i + 2), entries (part_place i + 3) (part_place i + 4) (part_place i + 5) (part_place i + 6))

  pub number_small : (i k : ℕ) (q : PartLine) (env : List ℕ) → q ≡ line_in w i → Within n env → k ≡ part_number (value_in env) q → k ≤ 2 ^ 48
  unfolding part_number value_in
  number_small i k q env e m f =
      let s = line_small i q e in
      let b = within_most n env sound.size m in
      let t : (l : ℕ) → get_or env l 0 * get_or q.weights l 0 ≤ 64 * 2 ^ 32 = λ l. value_times (get_or env l 0) (get_or q.weights l 0) (b l) (s.1 l) in
      omega (arith, f, s.0, t 0, t 1, t 2, t 3)

pub leaf_is : (facts picks : List ℕ) (n : ℕ) (e : Values) (q : PartAt) (line other : PartLine) (k : ℕ) (b r : Bool) → line ≡ other → k ≡ part_number e line → b ≡ literal_at facts picks n q.which k → r ≡ agree b (eqb q.tag 1) → r ≡ leaf_at facts picks n e q other
unfolding leaf_at
leaf_is facts picks n e q line other k b r l f g h = h ∙ ap (λ (z : Bool). agree z (eqb q.tag 1)) (g ∙ ap (literal_at facts picks n q.which) (f ∙ ap (part_number e) l))

-- ---- the root
module _ (H : Truth) (root : Tree) (n : ℕ) (w : List ℕ) (leaf : Leaf) (says : Says H root n w leaf) (q : PartAt) (part : q ≡ part_in w 64) (env : List ℕ) (are : value_in env ≡ no_values) where
  top : PartSays H root n w leaf q (line_in w 64) 0 root
  top = rw part says.top

  pub root_node : (b : Bool) → q.tag ≡ 0 → (Asked H root n w leaf q.which → b ≡ H (value_in env) (node_of root q.which)) → b ≡ H no_values root
  root_node b t k =
      let s = top.node t in
      k (record { says = says; inside = rw s.0 s.1 }) ∙ ap₂ (H) are (ap (node_of root) s.0 ∙ s.2)

  pub root_leaf : (b : Bool) → (q.tag ≡ 0 → ⊥) → Within n env → b ≡ leaf (value_in env) q (line_in w 64) → b ≡ H no_values root
  unfolding value_in
  root_leaf b t m k = k ∙ top.literal t (value_in env) m ∙ ap (λ (z : Values). H z root) are

pub root_small : (n : ℕ) (w : List ℕ) → SoundLines n w → (q : PartAt) → q ≡ part_in w 64 → q.tag ≡ 0 → q.which < 64
root_small n w sound q e t = rw e (sound.root (rw e at t))

pub quotient_small : (k n : ℕ) → k ≤ 2 ^ 48 → k / n ≤ 2 ^ 48
quotient_small k n h = omega (arith, div-le_self k n)

pub rest_small : (k n : ℕ) → k ≤ 2 ^ 48 → k % n ≤ 2 ^ 48
rest_small k n h = omega (arith, mod-le k n)
