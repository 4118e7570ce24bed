-- The tuples of a `choose` that hold after steps were taken are those that the steps set: only set actions add tuples of it, nothing
-- removes them, and none holds at first.
use Prim.Native.Nat.{ℕ, zero, suc, ◌<◌, ◌+◌, ◌*◌}
use Rattle.std.specs.Prelude.{◌≡◌, Bool, not, ◌&&◌, ◌||◌, length, if◌then◌else◌}
use Rattle.std.proofs.Math.Path.{refl, sym, ap, subst, fun_ext}
use Rattle.std.proofs.Common.{ap₂, ◌∙◌, eqb→eq}
use Rattle.std.proofs.Math.Bool.{true, false, or-false, or_assoc}
use Rattle.std.proofs.Math.Option.{Option, none, some}
use mathlib.Core.List.{List, [], ◌∷◌, ◌++◌, map}
use Rattle.std.proofs.Math.Dec.{T, eqb, eqb_refl, ltb, not_T}
use borrow.Author.Tests.{ltb-true, not-true}
use Rattle.definitions.specs.Reply.Outcome.{relation_words, pick_words}
use Rattle.laws.specs.Lists.{any_at, filter_mem, flat_same, below_lt}
use Rattle.definitions.specs.Lists.{any, option, flat_map, below}
use Rattle.definitions.specs.Refusal.{Result, refused, accepted}
use Rattle.definitions.specs.Sheet.Relations.{Tuple, is_among, same_tuple, is_chosen, is_universal}
use Rattle.definitions.specs.Sheet.Sheets.{every_number}
use Rattle.definitions.specs.Problem.Tree.{Tree}
use Rattle.definitions.specs.Problem.Truth.{holds}
use Rattle.definitions.specs.Problem.Atoms.{Problem, relation_at, tuples_of, places_of, Atom, goal, tuple, marked, atom_number, tuple_holds, is_initial, State, initial, relation_start, bits_from}
use Rattle.definitions.specs.Problem.Actions.{Action, set, begin_proof, prove_and, prove_or, prove_exists, prove_forall, prove_goal, round_end, mark_in, mark_out, action_at, mark_or_goal, nodes_atoms, adds, removes}
use Rattle.definitions.specs.Problem.Strips.{may_take, after, Run, run_from, run, pick_of, picks_of}
use Rattle.definitions.specs.Problem.Built.{is_picked, chosen_numbers}
use Rattle.laws.specs.Booleans.{and_T, T_and_l, T_and_r, T_ext, T_false, T_true}
use Rattle.laws.specs.Tuples.{same_tuple_eq, same_tuple_refl}
use Rattle.laws.specs.Numbers.{IsAtom, IsAction, action_is, set_below, chosen_early, early_start}
use Rattle.meaning.specs.Valid.{nodes_mem}
use Rattle.meaning.specs.Means.{Good}
use Rattle.meaning.specs.Sound.{picks_cons, holds_empty, tuple_at, same_row, initial_at}
use Rattle.meaning.specs.Changes.{sort, whose, which, same_atom, same_atom_lem, after_at, free_sort, any_append, stays}

-- all steps were taken, whether the goal holds or not
unfoldable pub are_taken : Result ℕ → Bool
are_taken (refused k place) = eqb k 15
are_taken (accepted count) = true

-- all actions but the marks of a relation leave its tuples, or set one
unfoldable pub spares : ℕ → Action → Bool
spares r (set r' row) = true
spares r begin_proof = true
spares r (prove_and v row) = true
spares r (prove_or v row i) = true
spares r (prove_exists v row x) = true
spares r (prove_forall v row z) = true
spares r prove_goal = true
spares r round_end = true
spares r (mark_in r' row) = not (eqb r r')
spares r (mark_out r' row) = not (eqb r r')

module _ (p : Problem) (G : Good p) where
  -- ---- steps one by one
  pub record Taken (s : State) (i k : ℕ) (ks : List ℕ) : Type 0 where
    pub action : Action
    pub at : action_at p k ≡ some action
    pub may : may_take p s action ≡ true
    pub runs : run_from p s i (k ∷ ks) ≡ run_from p (after p s action) (suc i) ks

  pub first_taken : (s : State) (i k : ℕ) (ks : List ℕ) → T (are_taken (run_from p s i (k ∷ ks)).answer) → Taken s i k ks
  unfolding run_from option are_taken
  first_taken s i k ks t = by_option (action_at p k) refl t
    where
      may : (a : Action) → action_at p k ≡ some a → (b : Bool) → may_take p s a ≡ b → T (are_taken (if b then run_from p (after p s a) (suc i) ks else record { answer = refused 14 i; state = s }).answer) → Taken s i k ks
      may a e true m t = record { action = a; at = e; may = m; runs = rw (e, m) }
      may a e false m t = absurd t

      by_option : (o : Option Action) → action_at p k ≡ o
          → T (are_taken (option o (record { answer = refused 13 i; state = s }) (λ a. if may_take p s a then run_from p (after p s a) (suc i) ks else record { answer = refused 14 i; state = s })).answer) → Taken s i k ks
      by_option none e t = absurd t
      by_option (some a) e t = may a e (may_take p s a) refl t

  run_end : (s : State) (i : ℕ) → run_from p s i [] ≡ record { answer = if s (atom_number p goal) then accepted i else refused 15 i; state = s }
  unfolding run_from
  run_end s i = refl

  picks_nil : picks_of p [] ≡ []
  unfolding picks_of flat_map
  picks_nil = refl

  -- two rows are the same tuple only if they are the same
  pub same_tuple_lem : (r row r' row' : ℕ) → row < tuples_of p.size (relation_at p r) → row' < tuples_of p.size (relation_at p r')
      → same_tuple (tuple_at p r row) (tuple_at p r' row') ≡ (eqb r r' && eqb row row')
  same_tuple_lem r row r' row' h h' = T_ext (same_tuple (tuple_at p r row) (tuple_at p r' row')) (eqb r r' && eqb row row')
      (λ t. let q = same_row p G r' row' r row h' h (same_tuple_eq (tuple_at p r row) (tuple_at p r' row') t) in
      and_T (eqb r r') _ (subst (λ (x : ℕ). T (eqb r x)) q.0 (eqb_refl r)) (subst (λ (x : ℕ). T (eqb row x)) q.1 (eqb_refl row)))
      (λ t. let i = eqb→eq r r' (T_and_l (eqb r r') _ t) in let j = eqb→eq row row' (T_and_r (eqb r r') _ t) in
      subst (λ (u : Tuple). T (same_tuple (tuple_at p r row) u)) (ap₂ (tuple_at p) i j) (same_tuple_refl (tuple_at p r row)))

  -- all leave the tuples of a relation that is not that of an `every` line, or set one
  pub all_spare : (r : ℕ) → is_universal (relation_at p r).kind ≡ false → (a : Action) → IsAction p a → T (spares r a)
  unfolding spares IsAction
  all_spare r e (set r' row) v = tt
  all_spare r e begin_proof v = tt
  all_spare r e (prove_and w row) v = tt
  all_spare r e (prove_or w row i) v = tt
  all_spare r e (prove_exists w row x) v = tt
  all_spare r e (prove_forall w row z) v = tt
  all_spare r e prove_goal v = tt
  all_spare r e round_end v = tt
  all_spare r e (mark_in r' row) v = not_T (eqb r r') (λ t. subst T e (subst (λ (x : ℕ). T (is_universal (relation_at p x).kind)) (sym (eqb→eq r r' t)) v.1))
  all_spare r e (mark_out r' row) v = not_T (eqb r r') (λ t. subst T e (subst (λ (x : ℕ). T (is_universal (relation_at p x).kind)) (sym (eqb→eq r r' t)) v.1))

  no_node_lem : (x : Atom) → eqb (sort x) 7 ≡ false → (n v : ℕ) (ts : List Tree) → any (same_atom x) (nodes_atoms n v ts) ≡ false
  unfolding sort
  no_node_lem x e n v ts = T_false (any (same_atom x) (nodes_atoms n v ts)) (λ t.
      let (y, m, q) = any_at (same_atom x) (nodes_atoms n v ts) t in
      let (j, row, l, h, i) = nodes_mem n v ts y m in
      subst T (ap (λ (z : Atom). eqb (sort z) 7) (sym (same_atom_lem x y q ∙ i)) ∙ e) tt)

  module _ (r row : ℕ) (l : r < length p.relations) (h : row < tuples_of p.size (relation_at p r)) where
    -- one step
    other_row : (r' row' : ℕ) → T (not (eqb r r')) → (eqb r r' && eqb row row') ≡ false
    other_row r' row' t = rw (not-true (eqb r r') (T_true (not (eqb r r')) t)) refl

    gone_none : (a : Action) → T (spares r a) → any (same_atom (tuple r row)) (removes p a) ≡ false
    unfolding removes any same_atom sort whose which spares
    gone_none (set r' row') t = free_sort (tuple r row) p.size (relation_at p r') r' row' refl refl
    gone_none begin_proof t = refl
    gone_none (prove_and w i) t = refl
    gone_none (prove_or w i j) t = refl
    gone_none (prove_exists w i j) t = refl
    gone_none (prove_forall w i j) t = refl
    gone_none prove_goal t = refl
    gone_none round_end t = no_node_lem (tuple r row) refl p.size zero p.node_list
    gone_none (mark_in r' row') t = refl
    gone_none (mark_out r' row') t = or-false (eqb r r' && eqb row row') ∙ other_row r' row' t

    mark_sort : (r' i : ℕ) → same_atom (tuple r row) (mark_or_goal p r' i) ≡ false
    unfolding same_atom sort whose which mark_or_goal
    mark_sort r' i = by_test (ltb i (tuples_of p.size (relation_at p r')))
      where
        by_test : (b : Bool) → (eqb 3 (sort (if b then marked r' i else goal)) && eqb r (whose (if b then marked r' i else goal)) && eqb row (which (if b then marked r' i else goal))) ≡ false
        by_test true = refl
        by_test false = refl

    come_is : (a : Action) → T (spares r a) → IsAction p a → any (same_atom (tuple r row)) (adds p a) ≡ is_picked p (pick_of p a) r row
    unfolding adds any same_atom sort whose which is_picked pick_of is_among IsAction spares
    come_is (set r' row') t v = ap (λ (b : Bool). b || false) (sym (same_tuple_lem r row r' row' h (set_below p r' row' v)))
    come_is begin_proof t v = refl
    come_is (prove_and w i) t v = refl
    come_is (prove_or w i j) t v = refl
    come_is (prove_exists w i j) t v = refl
    come_is (prove_forall w i j) t v = refl
    come_is prove_goal t v = refl
    come_is round_end t v = or-false _ ∙ mark_sort (every_number p.source.question) zero
    come_is (mark_in r' row') t v = or-false (eqb r r' && eqb row row') ∙ other_row r' row' t
    come_is (mark_out r' row') t v = or-false _ ∙ mark_sort r' (suc row')

    pub tuple_step : (s : State) (a : Action) → T (spares r a) → IsAction p a → after p s a (atom_number p (tuple r row)) ≡ (s (atom_number p (tuple r row)) || is_picked p (pick_of p a) r row)
    unfolding IsAtom
    tuple_step s a t v = after_at p G s a (tuple r row) v (l, h) ∙ stays (s (atom_number p (tuple r row))) _ _ _ (gone_none a t) (come_is a t v)

    -- a run of which every step was taken
    picked_append : (P Q : List Tuple) → is_picked p (P ++ Q) r row ≡ (is_picked p P r row || is_picked p Q r row)
    unfolding is_picked is_among
    picked_append P Q = any_append (same_tuple (tuple_at p r row)) P Q

    picked_none : is_picked p [] r row ≡ false
    unfolding is_picked is_among any
    picked_none = refl

    pub tuples_run : is_universal (relation_at p r).kind ≡ false → (ks : List ℕ) (s : State) (i : ℕ) → T (are_taken (run_from p s i ks).answer)
        → (run_from p s i ks).state (atom_number p (tuple r row)) ≡ (s (atom_number p (tuple r row)) || is_picked p (picks_of p ks) r row)
    tuples_run u [] s i t = ap (λ (q : Run). q.state (atom_number p (tuple r row))) (run_end s i) ∙ sym (ap (λ (b : Bool). s (atom_number p (tuple r row)) || b) (ap (λ (P : List Tuple). is_picked p P r row) picks_nil ∙ picked_none) ∙ or-false (s (atom_number p (tuple r row))))
    tuples_run u (k ∷ ks) s i t =
        let f = first_taken s i k ks t in
        let a = f.action in
        let v = action_is p k a f.at in
        ap (λ (q : Run). q.state (atom_number p (tuple r row))) f.runs
        ∙ tuples_run u ks (after p s a) (suc i) (subst (λ (q : Run). T (are_taken q.answer)) f.runs t)
        ∙ ap (λ (b : Bool). b || is_picked p (picks_of p ks) r row) (tuple_step s a (all_spare r u a v) v)
        ∙ or_assoc (s (atom_number p (tuple r row))) (is_picked p (pick_of p a) r row) (is_picked p (picks_of p ks) r row)
        ∙ ap (λ (b : Bool). s (atom_number p (tuple r row)) || b) (sym (ap (λ (P : List Tuple). is_picked p P r row) (picks_cons p G k ks a f.at) ∙ picked_append (pick_of p a) (picks_of p ks)))

    not_every : T (is_chosen (relation_at p r).kind) → is_universal (relation_at p r).kind ≡ false
    not_every c = T_false (is_universal (relation_at p r).kind) (λ u. chosen_early (relation_at p r).kind c u)

    -- none of a `choose` holds at first
    not_at_first : T (is_chosen (relation_at p r).kind) → initial p (atom_number p (tuple r row)) ≡ false
    unfolding IsAtom is_initial tuple_holds
    not_at_first c = initial_at p G (tuple r row) (l, h) ∙ T_false (holds p.source [] r (places_of p.size (relation_at p r).arity row))
        (λ t. holds_empty p.source r _ (G.high_chosen r c) t)

    -- after steps that were all taken, a tuple of a `choose` holds exactly if it is one of the picks read from them
    pub tuples_left : T (is_chosen (relation_at p r).kind) → (ks : List ℕ) → T (are_taken (run p ks).answer)
        → (run p ks).state (atom_number p (tuple r row)) ≡ is_picked p (picks_of p ks) r row
    unfolding run
    tuples_left c ks t = tuples_run (not_every c) ks (initial p) zero t ∙ ap (λ (b : Bool). b || is_picked p (picks_of p ks) r row) (not_at_first c)

  -- so the picks' words can be copied from the state
  row_left : (ks : List ℕ) → T (are_taken (run p ks).answer) → (r row : ℕ) → r < length p.relations → T (is_chosen (relation_at p r).kind)
      → (ltb row (tuples_of p.size (relation_at p r)) && is_picked p (picks_of p ks) r row) ≡ (ltb row (tuples_of p.size (relation_at p r)) && (run p ks).state (relation_start p r + row))
  unfolding atom_number
  row_left ks t r row l c = by_test (ltb row (tuples_of p.size (relation_at p r))) refl
    where
      by_test : (b : Bool) → ltb row (tuples_of p.size (relation_at p r)) ≡ b → (b && is_picked p (picks_of p ks) r row) ≡ (b && (run p ks).state (relation_start p r + row))
      by_test true e =
          let h = ltb-true row (tuples_of p.size (relation_at p r)) e in
          sym (ap (λ (x : ℕ). (run p ks).state (x + row)) (sym (early_start p r (not_every r row l h c))) ∙ tuples_left r row l h c ks t)
      by_test false e = refl

  pub words_left : (ks : List ℕ) → T (are_taken (run p ks).answer)
      → pick_words p (picks_of p ks) ≡ flat_map (λ r. map (λ j. bits_from (λ row. ltb row (tuples_of p.size (relation_at p r)) && (run p ks).state (relation_start p r + row)) (64 * j) 64) (below (relation_words p r))) (chosen_numbers p)
  unfolding pick_words chosen_numbers
  words_left ks t = flat_same
      (λ r. map (λ j. bits_from (λ row. ltb row (tuples_of p.size (relation_at p r)) && is_picked p (picks_of p ks) r row) (64 * j) 64) (below (relation_words p r)))
      (λ r. map (λ j. bits_from (λ row. ltb row (tuples_of p.size (relation_at p r)) && (run p ks).state (relation_start p r + row)) (64 * j) 64) (below (relation_words p r)))
      (chosen_numbers p) (λ r m.
      let q = filter_mem (λ r. is_chosen (relation_at p r).kind) (below (length p.relations)) r m in
      ap (λ (f : ℕ → Bool). map (λ j. bits_from f (64 * j) 64) (below (relation_words p r))) (fun_ext (λ row. row_left ks t r row (below_lt (length p.relations) r q.0) q.1)))
