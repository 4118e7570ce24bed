-- Soundness: steps that reach the goal have picks of the declared kinds, of which the tree is true with every value of the `every` relation.
use Rattle.std.specs.Prelude.{ℕ, zero, ◌/◌, ◌%◌, ◌<◌, ◌≤◌, ◌≡◌, ◌⊎◌, Bool, true, not, ◌&&◌, length, get_or}
use Rattle.std.proofs.Math.Path.{refl, ap, ap₂, subst}
use Rattle.std.proofs.Common.{sym, subst₂, ◌∙◌, arith}
use Rattle.std.proofs.Math.Logic.{inl, inr, ⊎_elim}
use Rattle.std.proofs.Math.Bool.{false}
use Rattle.std.proofs.Math.Option.{Option, none, some}
use mathlib.Core.List.Memᴰ
use mathlib.Core.List.{List, [], ◌∷◌, ◌++◌, append_assoc, append-nil, Memᴰ}
use Rattle.std.proofs.Math.Nat.{one-le-pow}
use Rattle.std.proofs.Math.Dec.{T, T_not, not_T}
use Rattle.definitions.specs.Lists.{option, is_some, flat_map}
use Rattle.definitions.specs.Sheet.Relations.{Tuple, is_among, are_distinct, is_chosen, is_function, is_injective}
use Rattle.definitions.specs.Sheet.Sheets.{first_chosen}
use Rattle.definitions.specs.Problem.Truth.{holds, every_tuples, values, every_value}
use Rattle.definitions.specs.Problem.Tree.{Tree, leaf, forall_node, exists_node, and_node, or_node}
use Rattle.definitions.specs.Problem.Atoms.{Problem, relation_at, places_of, Atom, guess, proof, goal, tuple, not_tuple, free_domain, free_range, holds_node, marked, atom_number, is_initial, tuple_holds, State, initial}
use Rattle.definitions.specs.Problem.Actions.{Action, set, begin_proof, prove_and, prove_or, prove_exists, prove_forall, prove_goal, round_end, mark_in, mark_out, action_at, part_atom, root_atom, needs, adds, removes}
use Rattle.definitions.specs.Problem.Strips.{may_take, after, reaches_from, reaches_goal, pick_of, picks_of}
use Rattle.definitions.specs.Problem.Built.{tree_holds}
use Rattle.laws.specs.Booleans.{T_and_l, T_and_r}
use Rattle.laws.specs.Lists.{snoc_cases}
use Rattle.laws.specs.Tuples.{among_mem, distinct_snoc}
use Rattle.laws.specs.Rows.{Below, length_places, places_below}
use Rattle.laws.specs.Numbers.{IsAction, IsAtom, action_is, atom_at, inj_fun, set_below, set_typed}
use Rattle.meaning.specs.Parts.{Here, IsNode}
use Rattle.meaning.specs.Means.{Good, means, part_valid, root_sound}
use Rattle.meaning.specs.Values.{Chosen, with_zero}
use Rattle.meaning.specs.Rounds.{SeenBelow, Stage, proving, no_pick, stage_goal, stage_step}
pub use Rattle.meaning.specs.Holding.{tup, tuple_at, holds_split, holds_base, holds_pick, holds_empty, holds_mono, holds_new, same_row}
use Rattle.meaning.specs.Valid.{needs_valid, after_cases, may_at, domain_free, range_free, pair_of}

unfoldable pub is_tuple : Atom → Bool
is_tuple guess = false
is_tuple proof = false
is_tuple goal = false
is_tuple (tuple r row) = true
is_tuple (not_tuple r row) = false
is_tuple (free_domain r x) = false
is_tuple (free_range r y) = false
is_tuple (holds_node v row) = false
is_tuple (marked r row) = false

unfoldable is_proof : Atom → Bool
is_proof guess = false
is_proof proof = true
is_proof goal = false
is_proof (tuple r row) = false
is_proof (not_tuple r row) = false
is_proof (free_domain r x) = false
is_proof (free_range r y) = false
is_proof (holds_node v row) = false
is_proof (marked r row) = false

module _ (p : Problem) (G : Good p) where
  -- a tuple of a chosen relation, over the elements
  pub record Inside (t : Tuple) : Type 0 where
    pub known : t.relation < length p.relations
    pub chosen : T (is_chosen (relation_at p t.relation).kind)
    pub long : length t.places ≡ (relation_at p t.relation).arity
    pub small : Below p.size t.places

  pub record OfKinds (P : List Tuple) : Type 0 where
    pub inside : (t : Tuple) → Memᴰ t P → Inside t
    pub fun : (r x y z : ℕ) → T (is_function (relation_at p r).kind) → Memᴰ (tup r (x ∷ y ∷ [])) P → Memᴰ (tup r (x ∷ z ∷ [])) P → y ≡ z
    pub inj : (r x y z : ℕ) → T (is_injective (relation_at p r).kind) → Memᴰ (tup r (x ∷ z ∷ [])) P → Memᴰ (tup r (y ∷ z ∷ [])) P → x ≡ y
    pub typed : (r x y : ℕ) → T (is_function (relation_at p r).kind) → Memᴰ (tup r (x ∷ y ∷ [])) P → Memᴰ x (p.range (relation_at p r).firsts) × Memᴰ y (p.range (relation_at p r).seconds)

  pub record Solves (P : List Tuple) : Type 0 where
    pub kinds : OfKinds P
    pub distinct : T (are_distinct P)
    pub true_of : (k : ℕ) → k < values p.source → T (tree_holds p.source (P ++ every_value p.source k) (λ _. zero) p.root)

  -- what each atom says while guess holds
  unfoldable pub asks : List Tuple → Atom → Type 0
  asks P guess = Unit {0}
  asks P proof = ⊥
  asks P goal = ⊥
  asks P (tuple r row) = T (holds p.source P r (places_of p.size (relation_at p r).arity row))
  asks P (not_tuple r row) = T (not (holds p.source P r (places_of p.size (relation_at p r).arity row)))
  asks P (free_domain r x) = (y : ℕ) → Memᴰ (tup r (x ∷ y ∷ [])) P → ⊥
  asks P (free_range r y) = (x : ℕ) → Memᴰ (tup r (x ∷ y ∷ [])) P → ⊥
  asks P (holds_node v row) = ⊥
  asks P (marked r row) = ⊥

  pub record Guessing (P : List Tuple) (s : State) : Type 0 where
    pub kinds : OfKinds P
    pub distinct : T (are_distinct P)
    pub asked : (x : Atom) → IsAtom p x → T (s (atom_number p x)) → asks P x

  module _ (P : List Tuple) (s : State) (r row : ℕ) (I : Guessing P s) (v : IsAction p (set r row)) (ok : T (may_take p s (set r row))) where
    abbrev t₀ : Tuple
    t₀ = tuple_at p r row

    abbrev P₁ : List Tuple
    P₁ = P ++ (tuple_at p r row ∷ [])

    domain_needed : T (is_function (relation_at p r).kind) → Memᴰ (free_domain r (row / p.size)) (needs p (set r row))
    unfolding needs
    domain_needed f = Memᴰ.tail (Memᴰ.tail (domain_free p G p.size r row (relation_at p r) f))

    range_needed : T (is_injective (relation_at p r).kind) → Memᴰ (free_range r (row % p.size)) (needs p (set r row))
    unfolding needs
    range_needed f = Memᴰ.tail (Memᴰ.tail (range_free p G p.size r row (relation_at p r) f))

    no_second : T (is_function (relation_at p r).kind) → (y : ℕ) → Memᴰ (tup r (row / p.size ∷ y ∷ [])) P → ⊥
    unfolding asks
    no_second f = I.asked (free_domain r (row / p.size)) (needs_valid p G (set r row) v _ (domain_needed f)) (may_at p G s (set r row) ok _ (domain_needed f))

    no_first : T (is_injective (relation_at p r).kind) → (x : ℕ) → Memᴰ (tup r (x ∷ row % p.size ∷ [])) P → ⊥
    unfolding asks
    no_first f = I.asked (free_range r (row % p.size)) (needs_valid p G (set r row) v _ (range_needed f)) (may_at p G s (set r row) ok _ (range_needed f))

    -- of a function kind, the new tuple is a pair
    pair : T (is_function (relation_at p r).kind) → tuple_at p r row ≡ tup r (row / p.size ∷ row % p.size ∷ [])
    unfolding IsAction
    pair f = ap (tup r) (pair_of p G r row v.0 (set_below p r row v) f).0

    first_of : (r' x y : ℕ) → T (is_function (relation_at p r').kind) → tup r' (x ∷ y ∷ []) ≡ tuple_at p r row → (r' ≡ r) × (x ≡ row / p.size) × (y ≡ row % p.size)
    first_of r' x y f e =
        let q : r' ≡ r = ap (λ (t : Tuple). t.relation) e in
        let k = e ∙ pair (subst (λ (z : ℕ). T (is_function (relation_at p z).kind)) q f) in
        (q, ap (λ (t : Tuple). get_or t.places 0 0) k, ap (λ (t : Tuple). get_or t.places 1 0) k)

    set_inside : (t : Tuple) → Memᴰ t P₁ → Inside t
    unfolding IsAction
    set_inside t m = ⊎_elim (λ q. I.kinds.inside t q) (λ e. subst Inside (sym e) (record { known = v.0; chosen = v.1; long = length_places p.size (relation_at p r).arity row; small = places_below p.size (relation_at p r).arity row G.element })) (snoc_cases P (tuple_at p r row) t m)

    set_fun : (r' x y z : ℕ) → T (is_function (relation_at p r').kind) → Memᴰ (tup r' (x ∷ y ∷ [])) P₁ → Memᴰ (tup r' (x ∷ z ∷ [])) P₁ → y ≡ z
    set_fun r' x y z f m k = by_cases (snoc_cases P (tuple_at p r row) _ m) (snoc_cases P (tuple_at p r row) _ k)
      where
        clash : (w u : ℕ) → Memᴰ (tup r' (x ∷ w ∷ [])) P → tup r' (x ∷ u ∷ []) ≡ tuple_at p r row → ⊥
        clash w u m e = let (a, b, d) = first_of r' x u f e in no_second (subst (λ (q : ℕ). T (is_function (relation_at p q).kind)) a f) w (subst₂ (λ (i j : ℕ). Memᴰ (tup i (j ∷ w ∷ [])) P) a b m)

        by_cases : Memᴰ (tup r' (x ∷ y ∷ [])) P ⊎ (tup r' (x ∷ y ∷ []) ≡ tuple_at p r row) → Memᴰ (tup r' (x ∷ z ∷ [])) P ⊎ (tup r' (x ∷ z ∷ []) ≡ tuple_at p r row) → y ≡ z
        by_cases (inl a) (inl b) = I.kinds.fun r' x y z f a b
        by_cases (inl a) (inr b) = absurd (clash y z a b)
        by_cases (inr a) (inl b) = absurd (clash z y b a)
        by_cases (inr a) (inr b) = (first_of r' x y f a).2 ∙ sym (first_of r' x z f b).2

    set_inj : (r' x y z : ℕ) → T (is_injective (relation_at p r').kind) → Memᴰ (tup r' (x ∷ z ∷ [])) P₁ → Memᴰ (tup r' (y ∷ z ∷ [])) P₁ → x ≡ y
    set_inj r' x y z f m k = by_cases (snoc_cases P (tuple_at p r row) _ m) (snoc_cases P (tuple_at p r row) _ k)
      where
        g : T (is_function (relation_at p r').kind)
        g = inj_fun (relation_at p r').kind f

        clash : (w u : ℕ) → Memᴰ (tup r' (w ∷ z ∷ [])) P → tup r' (u ∷ z ∷ []) ≡ tuple_at p r row → ⊥
        clash w u m e = let (a, b, d) = first_of r' u z g e in no_first (subst (λ (q : ℕ). T (is_injective (relation_at p q).kind)) a f) w (subst₂ (λ (i j : ℕ). Memᴰ (tup i (w ∷ j ∷ [])) P) a d m)

        by_cases : Memᴰ (tup r' (x ∷ z ∷ [])) P ⊎ (tup r' (x ∷ z ∷ []) ≡ tuple_at p r row) → Memᴰ (tup r' (y ∷ z ∷ [])) P ⊎ (tup r' (y ∷ z ∷ []) ≡ tuple_at p r row) → x ≡ y
        by_cases (inl a) (inl b) = I.kinds.inj r' x y z f a b
        by_cases (inl a) (inr b) = absurd (clash x y a b)
        by_cases (inr a) (inl b) = absurd (clash y x b a)
        by_cases (inr a) (inr b) = (first_of r' x z g a).1 ∙ sym (first_of r' y z g b).1

    set_inside_types : (r' x y : ℕ) → T (is_function (relation_at p r').kind) → Memᴰ (tup r' (x ∷ y ∷ [])) P₁ → Memᴰ x (p.range (relation_at p r').firsts) × Memᴰ y (p.range (relation_at p r').seconds)
    set_inside_types r' x y f m = ⊎_elim (λ a. I.kinds.typed r' x y f a) new (snoc_cases P (tuple_at p r row) _ m)
      where
        new : tup r' (x ∷ y ∷ []) ≡ tuple_at p r row → Memᴰ x (p.range (relation_at p r').firsts) × Memᴰ y (p.range (relation_at p r').seconds)
        new e =
            let (a, b, d) = first_of r' x y f e in
            let (i, j) = set_typed p r row v (subst (λ (q : ℕ). T (is_function (relation_at p q).kind)) a f) in
            (subst₂ (λ (q u : ℕ). Memᴰ u (p.range (relation_at p q).firsts)) (sym a) (sym b) i, subst₂ (λ (q u : ℕ). Memᴰ u (p.range (relation_at p q).seconds)) (sym a) (sym d) j)

    chosen_high : first_chosen p.source.question ≤ r
    unfolding IsAction
    chosen_high = G.high_chosen r v.1

    set_asked : (x : Atom) → IsAtom p x → (T (s (atom_number p x)) × (Memᴰ x (removes p (set r row)) → ⊥)) ⊎ Memᴰ x (adds p (set r row)) → asks P₁ x
    unfolding asks adds removes IsAtom IsAction is_tuple
    set_asked guess w q = tt
    set_asked proof w (inl q) = I.asked proof tt q.0
    set_asked proof w (inr m) = absurd (subst (λ (a : Atom). T (not (is_tuple a))) (Memᴰ.eq_of_singleton m) tt)
    set_asked goal w (inl q) = I.asked goal tt q.0
    set_asked goal w (inr m) = absurd (subst (λ (a : Atom). T (not (is_tuple a))) (Memᴰ.eq_of_singleton m) tt)
    set_asked (tuple r' row') w (inl q) = holds_mono p.source P P₁ (λ t m. Memᴰ.append_left (tuple_at p r row ∷ []) m) r' _ (I.asked (tuple r' row') w q.0)
    set_asked (tuple r' row') w (inr m) = subst (asks P₁) (sym (Memᴰ.eq_of_singleton m)) (holds_pick p.source P₁ r _ chosen_high (Memᴰ.append_right P (Memᴰ.head refl)))
    set_asked (not_tuple r' row') w (inl q) = not_T (holds p.source P₁ r' (places_of p.size (relation_at p r').arity row')) (λ t. ⊎_elim
        (λ a. T_not (holds p.source P r' (places_of p.size (relation_at p r').arity row')) (I.asked (not_tuple r' row') w q.0) a)
        (λ e. let k = same_row p G r row r' row' (set_below p r row v) w.1 e in q.1 (Memᴰ.head (ap₂ not_tuple k.0 k.1)))
        (holds_new p.source P (tuple_at p r row) r' _ t))
    set_asked (not_tuple r' row') w (inr m) = absurd (subst (λ (a : Atom). T (not (is_tuple a))) (Memᴰ.eq_of_singleton m) tt)
    set_asked (free_domain r' x) w (inl q) = λ y m. ⊎_elim
        (λ a. I.asked (free_domain r' x) w q.0 y a)
        (λ e. let (a, b, d) = first_of r' x y w.1 e in q.1 (Memᴰ.tail (Memᴰ.cast (ap₂ free_domain a b) (domain_free p G p.size r row (relation_at p r) (subst (λ (z : ℕ). T (is_function (relation_at p z).kind)) a w.1)))))
        (snoc_cases P (tuple_at p r row) _ m)
    set_asked (free_domain r' x) w (inr m) = absurd (subst (λ (a : Atom). T (not (is_tuple a))) (Memᴰ.eq_of_singleton m) tt)
    set_asked (free_range r' y) w (inl q) = λ x m. ⊎_elim
        (λ a. I.asked (free_range r' y) w q.0 x a)
        (λ e. let (a, b, d) = first_of r' x y (inj_fun (relation_at p r').kind w.1) e in q.1 (Memᴰ.tail (Memᴰ.cast (ap₂ free_range a d) (range_free p G p.size r row (relation_at p r) (subst (λ (z : ℕ). T (is_injective (relation_at p z).kind)) a w.1)))))
        (snoc_cases P (tuple_at p r row) _ m)
    set_asked (free_range r' y) w (inr m) = absurd (subst (λ (a : Atom). T (not (is_tuple a))) (Memᴰ.eq_of_singleton m) tt)
    set_asked (holds_node k row') w (inl q) = I.asked (holds_node k row') w q.0
    set_asked (holds_node k row') w (inr m) = absurd (subst (λ (a : Atom). T (not (is_tuple a))) (Memᴰ.eq_of_singleton m) tt)
    set_asked (marked r' row') w (inl q) = I.asked (marked r' row') w q.0
    set_asked (marked r' row') w (inr m) = absurd (subst (λ (a : Atom). T (not (is_tuple a))) (Memᴰ.eq_of_singleton m) tt)

    -- a tuple is set once: its not-tuple is gone
    is_new : T (not (is_among (tuple_at p r row) P))
    unfolding needs asks
    is_new = not_T (is_among (tuple_at p r row) P) (λ t. T_not (holds p.source P r (places_of p.size (relation_at p r).arity row))
        (I.asked (not_tuple r row) (needs_valid p G (set r row) v (not_tuple r row) (Memᴰ.tail (Memᴰ.head refl))) (may_at p G s (set r row) ok (not_tuple r row) (Memᴰ.tail (Memᴰ.head refl))))
        (holds_pick p.source P r (places_of p.size (relation_at p r).arity row) chosen_high (among_mem (tuple_at p r row) P t)))

    pub guessing_set : Guessing P₁ (after p s (set r row))
    guessing_set = record { kinds = record { inside = set_inside; fun = set_fun; inj = set_inj; typed = set_inside_types }; distinct = distinct_snoc P (tuple_at p r row) I.distinct is_new; asked = λ x w t. set_asked x w (after_cases p G s (set r row) x v w t) }

  -- ---- begin-proof: what was asked is meant
  begin_cases : (P : List Tuple) (s : State) → Guessing P s → (x : Atom) → IsAtom p x → (T (s (atom_number p x)) × (Memᴰ x (removes p begin_proof) → ⊥)) ⊎ Memᴰ x (adds p begin_proof) → T (means p P x)
  unfolding asks adds removes means IsAtom is_proof
  begin_cases P s I guess w (inl q) = absurd (q.1 (Memᴰ.head refl))
  begin_cases P s I guess w (inr m) = absurd (subst (λ (a : Atom). T (not (is_proof a))) (Memᴰ.eq_of_singleton m) tt)
  begin_cases P s I proof w q = tt
  begin_cases P s I goal w (inl q) = absurd (I.asked goal tt q.0)
  begin_cases P s I goal w (inr m) = absurd (subst (λ (a : Atom). T (not (is_proof a))) (Memᴰ.eq_of_singleton m) tt)
  begin_cases P s I (tuple r row) w (inl q) = I.asked (tuple r row) w q.0
  begin_cases P s I (tuple r row) w (inr m) = absurd (subst (λ (a : Atom). T (not (is_proof a))) (Memᴰ.eq_of_singleton m) tt)
  begin_cases P s I (not_tuple r row) w (inl q) = I.asked (not_tuple r row) w q.0
  begin_cases P s I (not_tuple r row) w (inr m) = absurd (subst (λ (a : Atom). T (not (is_proof a))) (Memᴰ.eq_of_singleton m) tt)
  begin_cases P s I (free_domain r x) w q = tt
  begin_cases P s I (free_range r y) w q = tt
  begin_cases P s I (holds_node v row) w (inl q) = absurd (I.asked (holds_node v row) w q.0)
  begin_cases P s I (holds_node v row) w (inr m) = absurd (subst (λ (a : Atom). T (not (is_proof a))) (Memᴰ.eq_of_singleton m) tt)
  begin_cases P s I (marked r row) w (inl q) = absurd (I.asked (marked r row) w q.0)
  begin_cases P s I (marked r row) w (inr m) = absurd (subst (λ (a : Atom). T (not (is_proof a))) (Memᴰ.eq_of_singleton m) tt)

  -- ---- one step of reaches_from
  pub step_cases : (s : State) (k : ℕ) (ks : List ℕ) → T (reaches_from p s (k ∷ ks)) → (a : Action) × (action_at p k ≡ some a) × T (may_take p s a) × T (reaches_from p (after p s a) ks)
  unfolding reaches_from option
  step_cases s k ks t = by_option (action_at p k) refl t
    where
      by_option : (o : Option Action) → action_at p k ≡ o → T (option o false (λ a. may_take p s a && reaches_from p (after p s a) ks)) → (a : Action) × (action_at p k ≡ some a) × T (may_take p s a) × T (reaches_from p (after p s a) ks)
      by_option none e t = absurd t
      by_option (some a) e t = (a, e, T_and_l (may_take p s a) _ t, T_and_r (may_take p s a) _ t)

  pub picks_cons : (k : ℕ) (ks : List ℕ) (a : Action) → action_at p k ≡ some a → picks_of p (k ∷ ks) ≡ pick_of p a ++ picks_of p ks
  unfolding picks_of flat_map option
  picks_cons k ks a e = rw e refl

  -- ---- the proof phase begins with the first value, which is empty
  pub begins : (Seen : ℕ → Type 0) (P : List Tuple) (s : State) → Guessing P s → IsAction p begin_proof → Stage p G Seen P (after p s begin_proof)
  unfolding values
  begins Seen P s I v = proving 0 (one-le-pow (every_tuples p.source) 2 (omega arith)) (λ j h. absurd (omega arith))
      (λ x w t. subst (λ (Q : List Tuple). T (means p Q x)) (sym (with_zero p G P)) (begin_cases P s I x w (after_cases p G s begin_proof x v w t)))

  -- the tree is true with each value whose round has ended
  abbrev TrueWith : List Tuple → ℕ → Type 0
  TrueWith P k = T (tree_holds p.source (P ++ every_value p.source k) (λ _. zero) p.root)

  root_there : IsAtom p (root_atom p)
  unfolding root_atom
  root_there = part_valid p G 0 p.root (λ _. zero) G.root_here (λ l. G.element)

  proof_phase : (P : List Tuple) → Chosen p G P → (ks : List ℕ) (s : State) → Stage p G (TrueWith P) P s → T (reaches_from p s ks) → SeenBelow p G (TrueWith P) (values p.source) × (picks_of p ks ≡ [])
  unfolding reaches_from picks_of flat_map means
  proof_phase P K [] s S t = (stage_goal p G (TrueWith P) P s S (λ k q. T_and_r (not (is_some p.source.question.every)) _ q) t, refl)
  proof_phase P K (k ∷ ks) s S t =
      let (a, e, ok, rest) = step_cases s k ks t in
      let v = action_is p k a e in
      let r = proof_phase P K ks (after p s a) (stage_step p G (TrueWith P) P K s S (λ j I h. root_sound p G (P ++ every_value p.source j) (I (root_atom p) root_there h)) a v ok) rest in
      (r.0, picks_cons k ks a e ∙ ap₂ ◌++◌ (no_pick p G (TrueWith P) P s S a ok) r.1)

  -- ---- in the guess phase tuples are set, until the proof begins
  no_goal_yet : (P : List Tuple) (s : State) (t : Tree) → IsNode p t → Guessing P s → Here p 0 t → T (s (atom_number p (part_atom p.size p.range (λ _. zero) zero t))) → ⊥
  unfolding IsNode part_atom asks
  no_goal_yet P s (leaf q r ls) n I h t = n
  no_goal_yet P s (forall_node d σ u) n I h t = I.asked _ (part_valid p G 0 (forall_node d σ u) (λ _. zero) h (λ l. G.element)) t
  no_goal_yet P s (exists_node d σ u) n I h t = I.asked _ (part_valid p G 0 (exists_node d σ u) (λ _. zero) h (λ l. G.element)) t
  no_goal_yet P s (and_node ts) n I h t = I.asked _ (part_valid p G 0 (and_node ts) (λ _. zero) h (λ l. G.element)) t
  no_goal_yet P s (or_node ts) n I h t = I.asked _ (part_valid p G 0 (or_node ts) (λ _. zero) h (λ l. G.element)) t

  no_proof : (P : List Tuple) (s : State) (a : Action) → Guessing P s → T (may_take p s a) → Memᴰ proof (needs p a) → ⊥
  unfolding asks IsAtom
  no_proof P s a I t m = I.asked proof tt (may_at p G s a t proof m)

  no_mark : (P : List Tuple) (s : State) (a : Action) (r row : ℕ) → Guessing P s → IsAction p a → T (may_take p s a) → Memᴰ (marked r row) (needs p a) → ⊥
  unfolding asks
  no_mark P s a r row I v t m = I.asked (marked r row) (needs_valid p G a v (marked r row) m) (may_at p G s a t (marked r row) m)

  pub sets_or_begins : (P : List Tuple) (s : State) → Guessing P s → (a : Action) → IsAction p a → T (may_take p s a) → ((r : ℕ) × (row : ℕ) × (a ≡ set r row)) ⊎ (a ≡ begin_proof)
  unfolding needs root_atom
  sets_or_begins P s I (set r row) v ok = inl (r, row, refl)
  sets_or_begins P s I begin_proof v ok = inr refl
  sets_or_begins P s I (prove_and w row) v ok = absurd (no_proof P s (prove_and w row) I ok (Memᴰ.head refl))
  sets_or_begins P s I (prove_or w row i) v ok = absurd (no_proof P s (prove_or w row i) I ok (Memᴰ.head refl))
  sets_or_begins P s I (prove_exists w row x) v ok = absurd (no_proof P s (prove_exists w row x) I ok (Memᴰ.head refl))
  sets_or_begins P s I (prove_forall w row z) v ok = absurd (no_proof P s (prove_forall w row z) I ok (Memᴰ.head refl))
  sets_or_begins P s I prove_goal v ok = absurd (no_goal_yet P s p.root G.root_node I G.root_here (may_at p G s prove_goal ok _ (Memᴰ.head refl)))
  sets_or_begins P s I round_end v ok = absurd (no_goal_yet P s p.root G.root_node I G.root_here (may_at p G s round_end ok _ (Memᴰ.head refl)))
  sets_or_begins P s I (mark_in r row) v ok = absurd (no_mark P s (mark_in r row) r row I v ok (Memᴰ.head refl))
  sets_or_begins P s I (mark_out r row) v ok = absurd (no_mark P s (mark_out r row) r row I v ok (Memᴰ.head refl))

  guess_phase : (ks : List ℕ) (P : List Tuple) (s : State) → Guessing P s → T (reaches_from p s ks) → Solves (P ++ picks_of p ks)
  unfolding reaches_from asks IsAtom pick_of
  guess_phase [] P s I t = absurd (I.asked goal tt t)
  guess_phase (k ∷ ks) P s I t =
      let (a, e, ok, rest) = step_cases s k ks t in
      let v = action_is p k a e in
      subst (λ (l : List Tuple). Solves (P ++ l)) (sym (picks_cons k ks a e)) (⊎_elim (λ q. let (r, row, i) = q in at_set (λ P' s' J u. guess_phase ks P' s' J u) a v ok rest r row i) (λ i. at_begin a v rest i) (sets_or_begins P s I a v ok))
    where
      at_set : ((P' : List Tuple) (s' : State) → Guessing P' s' → T (reaches_from p s' ks) → Solves (P' ++ picks_of p ks)) → (a : Action) → IsAction p a → T (may_take p s a) → T (reaches_from p (after p s a) ks) → (r row : ℕ) → a ≡ set r row → Solves (P ++ (pick_of p a ++ picks_of p ks))
      at_set next a v ok rest r row i =
          subst (λ (b : Action). IsAction p b → T (may_take p s b) → T (reaches_from p (after p s b) ks) → Solves (P ++ (pick_of p b ++ picks_of p ks))) (sym i)
          (λ v ok rest. subst Solves (append_assoc P (tuple_at p r row ∷ []) (picks_of p ks)) (next (P ++ (tuple_at p r row ∷ [])) (after p s (set r row)) (guessing_set P s r row I v ok) rest))
          v ok rest

      at_begin : (a : Action) → IsAction p a → T (reaches_from p (after p s a) ks) → a ≡ begin_proof → Solves (P ++ (pick_of p a ++ picks_of p ks))
      at_begin a v rest i =
          subst (λ (b : Action). IsAction p b → T (reaches_from p (after p s b) ks) → Solves (P ++ (pick_of p b ++ picks_of p ks))) (sym i)
          (λ v rest. let d = proof_phase P (λ t m. (I.kinds.inside t m).chosen) ks (after p s begin_proof) (begins (TrueWith P) P s I v) rest in
          subst Solves (sym (ap (λ (l : List Tuple). P ++ l) d.1 ∙ append-nil P)) (record { kinds = I.kinds; distinct = I.distinct; true_of = d.0 }))
          v rest

  -- ---- the initial state
  pub initial_at : (x : Atom) → IsAtom p x → initial p (atom_number p x) ≡ is_initial p x
  unfolding initial option
  initial_at x v = rw (atom_at p x v) refl

  initial_asked : (x : Atom) → T (is_initial p x) → asks [] x
  unfolding is_initial tuple_holds asks
  initial_asked guess t = tt
  initial_asked proof t = t
  initial_asked goal t = t
  initial_asked (tuple r row) t = t
  initial_asked (not_tuple r row) t = t
  initial_asked (free_domain r x) t = λ y m. Memᴰ.not-nil m
  initial_asked (free_range r y) t = λ x m. Memᴰ.not-nil m
  initial_asked (holds_node v row) t = t
  initial_asked (marked r row) t = t

  pub first_guess : Guessing [] (initial p)
  unfolding are_distinct
  first_guess = record {
    kinds = record {
      inside = λ t m. absurd (Memᴰ.not-nil m);
      fun = λ r x y z f m k. absurd (Memᴰ.not-nil m);
      inj = λ r x y z f m k. absurd (Memᴰ.not-nil m);
      typed = λ r x y f m. absurd (Memᴰ.not-nil m);
    };
    distinct = tt;
    asked = λ x v h. initial_asked x (subst T (initial_at x v) h);
  }

  -- steps that reach the goal are read as picks of the declared kinds of which the tree is true
  pub sound : (ks : List ℕ) → T (reaches_goal p ks) → Solves (picks_of p ks)
  unfolding reaches_goal
  sound ks t = guess_phase ks [] (initial p) first_guess t
