-- The built steps and the state that they leave, by what may be taken alone: set actions of the picks, begin-proof, and round by round the proof
-- node by node, prove-goal or round-end, and the marks. Whether each round's end may be taken is whether the rule is true of the picks.
use Prim.Native.Nat.{ℕ, zero, suc, ◌+◌, ◌<◌}
use Rattle.std.specs.Prelude.{◌≡◌, ◌&&◌, leb, length}
use Rattle.std.proofs.Math.Path.{refl, sym, ap, ap₂, subst}
use Rattle.std.proofs.Common.{◌∙◌, arith, zero-add, leb→le, le→leb}
use Rattle.std.proofs.Math.Logic.{⊎_elim}
use Rattle.std.proofs.Math.Bool.{Bool, true, false, not, ◌||◌, and-true, and_assoc, or-false, or-true, or_assoc}
use mathlib.Core.List.Memᴰ
use mathlib.Core.List.{List, [], ◌∷◌, ◌++◌, map, Memᴰ}
use Rattle.std.proofs.Math.Dec.{T, eqb}
use Rattle.std.proofs.Math.Seq.{take-length}
use Rattle.definitions.specs.Lists.{all, any, option, is_some, flat_map, from, below}
use Rattle.definitions.specs.Sheet.Relations.{Tuple, is_among, same_tuple}
use Rattle.definitions.specs.Problem.Truth.{Case, holds, are_of_kinds, values, every_value, rule_holds, rule_is_true, are_picks}
use Rattle.definitions.specs.Problem.Atoms.{Problem, problem_of, problem_with, relation_at, node_at, tuples_of, places_of, Atom, guess, proof, goal, tuple, not_tuple, free_domain, free_range, holds_node, marked, atom_number, is_initial, tuple_holds, State, initial}
use Rattle.definitions.specs.Problem.Actions.{Action, set, begin_proof, finish, action_number, part_atom, root_atom, adds, removes}
use Rattle.definitions.specs.Problem.Strips.{may_take, after, run_from, run, pick_of}
use Rattle.definitions.specs.Problem.Built.{tree_holds, is_true_at, is_picked, set_steps, node_steps, marks_after, round_steps, built_actions, built_steps}
use Rattle.laws.specs.Booleans.{T_or, or_l, or_r, T_of, T_true, T_false, T_ext, not_or}
use Rattle.laws.specs.Lists.{below_lt}
use Rattle.laws.specs.Tuples.{among_mem, mem_among}
use Rattle.laws.specs.Numbers.{IsAtom, IsAction, action_at_lem, finish_is, finish_round, set_below}
use Rattle.meaning.specs.Means.{Good, means, means_at}
use Rattle.meaning.specs.Valid.{finish_needs}
use Rattle.meaning.specs.Values.{HasEvery, Chosen, one_value, with_zero}
use Rattle.meaning.specs.Sound.{holds_split, holds_base, holds_pick, OfKinds, tuple_at, initial_at}
use Rattle.meaning.specs.Does.{Takes}
use Rattle.laws.specs.Reader.{Accepted}
use Rattle.meaning.specs.Grounded.{good}
use Rattle.meaning.specs.Kinds.{tested_kinds, root_means, rule_everywhere}
use Rattle.meaning.specs.Picks.{picks_inside}
use Rattle.meaning.specs.Pairs.{Pair, pair_action, set_of, tuple_of, pairs, sets_are, pairs_ready, picked_in, in_picked}
use Rattle.meaning.specs.Complete.{built_are, built_takes}
use Rattle.meaning.specs.Changes.{sort, whose, which, same_atom, after_at, free_sort, stays}
use Rattle.meaning.specs.HeldTuples.{spares, same_tuple_lem, tuple_step}
use Rattle.meaning.specs.Deciding.{all_same, is_proof_atom, says, Knows, may_told, part_told}
use Rattle.meaning.specs.Planning.{taken, taken_append, proved_steps, round_now, rounds_now, round_state, proved_state, proved_are, nodes_from, NoNode, nodes_keep, known_same}
use Rattle.meaning.specs.Marking.{next_knows}

module _ (p : Problem) (G : Good p) where
  -- ---- set actions, seen on not-tuples and nodes
  module _ (r row : ℕ) (l : r < length p.relations) (h : row < tuples_of p.size (relation_at p r)) where
    gone_is : (r' row' : ℕ) → IsAction p (set r' row') → any (same_atom (not_tuple r row)) (removes p (set r' row')) ≡ same_tuple (tuple_at p r row) (tuple_at p r' row')
    unfolding removes any same_atom sort whose which IsAction
    gone_is r' row' v = ap (λ (b : Bool). (eqb r r' && eqb row row') || b) (free_sort (not_tuple r row) p.size (relation_at p r') r' row' refl refl)
        ∙ or-false (eqb r r' && eqb row row') ∙ sym (same_tuple_lem p G r row r' row' h (set_below p r' row' v))

    not_step : (s : State) (r' row' : ℕ) → IsAction p (set r' row') → after p s (set r' row') (atom_number p (not_tuple r row)) ≡ (s (atom_number p (not_tuple r row)) && not (same_tuple (tuple_at p r row) (tuple_at p r' row')))
    unfolding IsAtom adds any same_atom sort
    not_step s r' row' v = after_at p G s (set r' row') (not_tuple r row) v (l, h) ∙ or-false _ ∙ ap (λ (b : Bool). s (atom_number p (not_tuple r row)) && not b) (gone_is r' row' v)

    -- all the picks
    sets_tuple : (qs : List Pair) → ((q : Pair) → Memᴰ q qs → IsAction p (set_of q)) → (s : State)
        → taken p s (map set_of qs) (atom_number p (tuple r row)) ≡ (s (atom_number p (tuple r row)) || is_picked p (map (tuple_of p) qs) r row)
    unfolding taken is_picked is_among any pick_of spares
    sets_tuple [] v s = sym (or-false (s (atom_number p (tuple r row))))
    sets_tuple (q ∷ qs) v s =
        let b : Bool = same_tuple (tuple_at p r row) (tuple_of p q) in
        sets_tuple qs (λ u m. v u (Memᴰ.tail m)) (after p s (set_of q))
        ∙ ap (λ (b : Bool). b || is_picked p (map (tuple_of p) qs) r row) (tuple_step p G r row l h s (set_of q) tt (v q (Memᴰ.head refl)) ∙ ap (λ (b : Bool). s (atom_number p (tuple r row)) || b) (or-false (same_tuple (tuple_at p r row) (tuple_of p q))))
        ∙ or_assoc (s (atom_number p (tuple r row))) (same_tuple (tuple_at p r row) (tuple_of p q)) (is_picked p (map (tuple_of p) qs) r row)

    sets_not : (qs : List Pair) → ((q : Pair) → Memᴰ q qs → IsAction p (set_of q)) → (s : State)
        → taken p s (map set_of qs) (atom_number p (not_tuple r row)) ≡ (s (atom_number p (not_tuple r row)) && not (is_picked p (map (tuple_of p) qs) r row))
    unfolding taken is_picked is_among any
    sets_not [] v s = sym (and-true (s (atom_number p (not_tuple r row))))
    sets_not (q ∷ qs) v s =
        sets_not qs (λ u m. v u (Memᴰ.tail m)) (after p s (set_of q))
        ∙ ap (λ (b : Bool). b && not (is_picked p (map (tuple_of p) qs) r row)) (not_step s q.0 q.1 (v q (Memᴰ.head refl)))
        ∙ and_assoc (s (atom_number p (not_tuple r row))) (not (same_tuple (tuple_at p r row) (tuple_of p q))) (not (is_picked p (map (tuple_of p) qs) r row))
        ∙ ap (λ (b : Bool). s (atom_number p (not_tuple r row)) && b) (sym (not_or (same_tuple (tuple_at p r row) (tuple_of p q)) (is_picked p (map (tuple_of p) qs) r row)))

  node_step : (v row : ℕ) → IsAtom p (holds_node v row) → (s : State) (r' row' : ℕ) → IsAction p (set r' row') → after p s (set r' row') (atom_number p (holds_node v row)) ≡ s (atom_number p (holds_node v row))
  unfolding removes adds any same_atom sort
  node_step v row a s r' row' i = after_at p G s (set r' row') (holds_node v row) i a
      ∙ stays (s (atom_number p (holds_node v row))) (any (same_atom (holds_node v row)) (removes p (set r' row'))) false false (free_sort (holds_node v row) p.size (relation_at p r') r' row' refl refl) refl
      ∙ or-false (s (atom_number p (holds_node v row)))

  sets_node : (v row : ℕ) → IsAtom p (holds_node v row) → (qs : List Pair) → ((q : Pair) → Memᴰ q qs → IsAction p (set_of q)) → (s : State)
      → taken p s (map set_of qs) (atom_number p (holds_node v row)) ≡ s (atom_number p (holds_node v row))
  unfolding taken
  sets_node v row a [] w s = refl
  sets_node v row a (q ∷ qs) w s = sets_node v row a qs (λ u m. w u (Memᴰ.tail m)) (after p s (set_of q)) ∙ node_step v row a s q.0 q.1 (w q (Memᴰ.head refl))

  -- ---- begin-proof, seen on every atom of the proof phase
  begin_gone : (x : Atom) → T (is_proof_atom x) → any (same_atom x) (removes p begin_proof) ≡ false
  unfolding removes any same_atom sort is_proof_atom
  begin_gone guess q = absurd q
  begin_gone proof q = refl
  begin_gone goal q = absurd q
  begin_gone (tuple r row) q = refl
  begin_gone (not_tuple r row) q = refl
  begin_gone (free_domain r x) q = absurd q
  begin_gone (free_range r y) q = absurd q
  begin_gone (holds_node v row) q = refl
  begin_gone (marked r row) q = absurd q

  begin_come : (x : Atom) → T (is_proof_atom x) → any (same_atom x) (adds p begin_proof) ≡ eqb (sort x) 1
  unfolding adds any same_atom sort whose which is_proof_atom
  begin_come guess q = absurd q
  begin_come proof q = refl
  begin_come goal q = absurd q
  begin_come (tuple r row) q = refl
  begin_come (not_tuple r row) q = refl
  begin_come (free_domain r x) q = absurd q
  begin_come (free_range r y) q = absurd q
  begin_come (holds_node v row) q = refl
  begin_come (marked r row) q = absurd q

  begin_step : (s : State) (x : Atom) → IsAtom p x → T (is_proof_atom x) → after p s begin_proof (atom_number p x) ≡ (s (atom_number p x) || eqb (sort x) 1)
  unfolding IsAction
  begin_step s x w q = after_at p G s begin_proof x tt w ∙ stays (s (atom_number p x)) _ _ _ (begin_gone x q) (begin_come x q)

  module _ (F : List Tuple) (K : OfKinds p G F) where
    abbrev s₁ : State
    s₁ = taken p (initial p) (set_steps p F)

    abbrev s₂ : State
    s₂ = after p (taken p (initial p) (set_steps p F)) begin_proof

    -- the tuples that hold, with and without the picks
    picked_holds : (r row : ℕ) → (tuple_holds p r row || is_picked p F r row) ≡ holds p.source F r (places_of p.size (relation_at p r).arity row)
    unfolding tuple_holds is_picked
    picked_holds r row = T_ext _ _
        (λ t. ⊎_elim (λ q. holds_base p.source F r _ q)
        (λ q. let m = among_mem (tuple_at p r row) F q in holds_pick p.source F r _ (G.high_chosen r (K.inside (tuple_at p r row) m).chosen) m)
        (T_or (holds p.source [] r (places_of p.size (relation_at p r).arity row)) _ t))
        (λ t. ⊎_elim (λ q. or_l (holds p.source [] r (places_of p.size (relation_at p r).arity row)) _ q)
        (λ q. or_r (holds p.source [] r (places_of p.size (relation_at p r).arity row)) _ (mem_among (tuple_at p r row) F q.1))
        (holds_split p.source F r _ t))

    pairs_picked : (r row : ℕ) → is_picked p (map (tuple_of p) (pairs p F)) r row ≡ is_picked p F r row
    unfolding is_picked
    pairs_picked r row = T_ext _ _
        (λ t. mem_among (tuple_at p r row) F (picked_in p F _ (among_mem (tuple_at p r row) _ t)))
        (λ t. mem_among (tuple_at p r row) _ (in_picked p G F K.inside _ (among_mem (tuple_at p r row) F t)))

    ready : (q : Pair) → Memᴰ q (pairs p F) → IsAction p (set_of q)
    ready q m = let (v, i) = pairs_ready p F q m in pair_action p G F K q v i

    sets_form : taken p (initial p) (set_steps p F) ≡ taken p (initial p) (map set_of (pairs p F))
    sets_form = ap (taken p (initial p)) (sets_are p F)

    none_yet : (v : ℕ) → v < length p.node_list → leb (length p.node_list) v ≡ false
    none_yet v l = T_false (leb (length p.node_list) v) (λ t. let k = leb→le (length p.node_list) v t in omega arith)

    start_says : (x : Atom) → IsAtom p x → T (is_proof_atom x) → (taken p (initial p) (map set_of (pairs p F)) (atom_number p x) || eqb (sort x) 1) ≡ says p F (nodes_from p G F (length p.node_list)) x
    unfolding IsAtom is_proof_atom says sort means is_initial
    start_says guess w q = absurd q
    start_says proof w q = or-true (taken p (initial p) (map set_of (pairs p F)) (atom_number p proof))
    start_says goal w q = absurd q
    start_says (tuple r row) w q =
        or-false (taken p (initial p) (map set_of (pairs p F)) (atom_number p (tuple r row))) ∙ sets_tuple r row w.0 w.1 (pairs p F) ready (initial p)
        ∙ ap₂ ◌||◌ (initial_at p G (tuple r row) w) (pairs_picked r row) ∙ picked_holds r row
    start_says (not_tuple r row) w q =
        or-false (taken p (initial p) (map set_of (pairs p F)) (atom_number p (not_tuple r row))) ∙ sets_not r row w.0 w.1 (pairs p F) ready (initial p)
        ∙ ap₂ (λ (a b : Bool). a && not b) (initial_at p G (not_tuple r row) w) (pairs_picked r row) ∙ sym (not_or (tuple_holds p r row) (is_picked p F r row)) ∙ ap not (picked_holds r row)
    start_says (free_domain r x) w q = absurd q
    start_says (free_range r y) w q = absurd q
    start_says (marked r row) w q = absurd q
    start_says (holds_node v row) w q =
        or-false (taken p (initial p) (map set_of (pairs p F)) (atom_number p (holds_node v row))) ∙ sets_node v row w (pairs p F) ready (initial p)
        ∙ initial_at p G (holds_node v row) w ∙ sym (ap (λ (b : Bool). b && is_true_at p F (node_at p v) row) (none_yet v w.0))

    start_known : Knows p F (nodes_from p G F (length p.node_list)) (after p (taken p (initial p) (set_steps p F)) begin_proof)
    start_known x w q = begin_step (taken p (initial p) (set_steps p F)) x w q ∙ ap (λ (s : State). s (atom_number p x) || eqb (sort x) 1) sets_form ∙ start_says x w q

    -- ---- round 0 begins with the first value, which is empty
    chosen : Chosen p G F
    chosen t m = (K.inside t m).chosen

    abbrev Begins : ℕ → State → Type 0
    Begins k s = Knows p (F ++ every_value p.source k) (nodes_from p G (F ++ every_value p.source k) (length p.node_list)) s

    abbrev Proved : ℕ → State → Type 0
    Proved k s = Knows p (F ++ every_value p.source k) (nodes_from p G (F ++ every_value p.source k) zero) s

    first_begins : Begins 0 s₂
    first_begins = subst (λ (P : List Tuple). Knows p P (nodes_from p G P (length p.node_list)) s₂) (sym (with_zero p G F)) start_known

    -- ---- a round: its nodes are proved
    pub proved : (k : ℕ) (s : State) → Begins k s → (proved_steps p s (length p.node_list) ≡ node_steps p (F ++ every_value p.source k) zero p.node_list) × Proved k (taken p s (proved_steps p s (length p.node_list)))
    proved k s H = let r = proved_are p G (F ++ every_value p.source k) (length p.node_list) s (omega arith) H in (r.0 ∙ ap (node_steps p (F ++ every_value p.source k) zero) (take-length p.node_list), r.1)

    round_is : (k : ℕ) (s : State) → Begins k s → round_now p s k ≡ round_steps p F k
    unfolding round_now round_steps
    round_is k s H = ap (λ (l : List Action). l ++ (finish p ∷ marks_after p k)) (proved k s H).0

    all_decided : (k w row : ℕ) → nodes_from p G (F ++ every_value p.source k) zero w row ≡ true
    all_decided k w row = T_true (leb zero w) (le→leb zero w (omega arith))

    -- its end may be taken exactly if the root is true with its value
    pub finish_may : (k : ℕ) (s : State) → Proved k s → may_take p s (finish p) ≡ tree_holds p.source (F ++ every_value p.source k) (λ _. zero) p.root
    unfolding all root_atom
    finish_may k s H =
        let Q : List Tuple = F ++ every_value p.source k in
        may_told p G Q (nodes_from p G Q zero) s H (finish p) (finish_is p).0
        (λ x m. subst (λ (y : Atom). T (is_proof_atom y) × (says p Q (nodes_from p G Q zero) y ≡ means p Q y)) (sym (Memᴰ.eq_of_singleton (subst (λ (l : List Atom). Memᴰ x l) (finish_needs p G) m))) (part_told p G Q (nodes_from p G Q zero) zero p.root (λ _. zero) (all_decided k zero)))
        ∙ ap (all (means p Q)) (finish_needs p G)
        ∙ and-true (means p Q (part_atom p.size p.range (λ _. zero) zero p.root)) ∙ means_at p G Q zero p.root (λ _. zero) G.root_here (λ l. G.element)

    -- more than one value: there is an `every` line
    several : (k : ℕ) → suc k < values p.source → HasEvery p G
    several k h = by_test (is_some p.source.question.every) refl
      where
        by_test : (b : Bool) → is_some p.source.question.every ≡ b → T b
        by_test true e = tt
        by_test false e = let v = one_value p G (T_of (ap not e)) in absurd (omega arith)

    next_begins : (k : ℕ) → suc k < values p.source → (s : State) → Begins k s → Begins (suc k) (taken p s (round_now p s k))
    unfolding round_now
    next_begins k h s H = subst (Begins (suc k)) (sym (taken_append p (proved_steps p s (length p.node_list)) (finish p ∷ marks_after p k) s))
        (subst (λ (a : Action). Begins (suc k) (taken p (taken p s (proved_steps p s (length p.node_list))) (a ∷ marks_after p k))) (sym (finish_round p (several k h))) (next_knows p G F chosen (several k h) k h (taken p s (proved_steps p s (length p.node_list))) (proved k s H).1))

    -- ---- all rounds
    rounds_are : (d k : ℕ) → k + d ≡ values p.source → (s : State) → (0 < d → Begins k s) → rounds_now p s k d ≡ flat_map (round_steps p F) (from k d)
    unfolding rounds_now flat_map from
    rounds_are zero k e s H = refl
    rounds_are (suc d) k e s H = ap₂ ◌++◌ (round_is k s (H (omega arith))) (rounds_are d (suc k) (omega arith) (taken p s (round_now p s k)) (λ z. next_begins k (omega arith) s (H (omega arith))))

    pub round_begins : (k : ℕ) → k < values p.source → Begins k (round_state p s₂ k)
    unfolding round_state
    round_begins zero h = first_begins
    round_begins (suc k) h = next_begins k h (round_state p s₂ k) (round_begins k (omega arith))

    round_may : (k : ℕ) → k < values p.source → may_take p (proved_state p s₂ k) (finish p) ≡ tree_holds p.source (F ++ every_value p.source k) (λ _. zero) p.root
    unfolding proved_state
    round_may k h = finish_may k _ (proved k (round_state p s₂ k) (round_begins k h)).1

    steps_are : built_actions p F ≡ set_steps p F ++ (begin_proof ∷ rounds_now p s₂ zero (values p.source))
    unfolding built_actions below
    steps_are = ap (λ (l : List Action). set_steps p F ++ (begin_proof ∷ l)) (sym (rounds_are (values p.source) zero (zero-add (values p.source)) s₂ (λ _. first_begins)))

    -- ---- the run of the built steps
    takes_run : (l : List Action) (s : State) (i : ℕ) → Takes p G s l → (run_from p s i (map (action_number p) l)).state ≡ taken p s l
    unfolding Takes run_from option taken
    takes_run [] s i t = refl
    takes_run (a ∷ l) s i t = let e : may_take p s a ≡ true = T_true (may_take p s a) t.1 in rw (action_at_lem p a t.0, e) (takes_run l (after p s a) (suc i) t.2)

    state_left : ((k : ℕ) → k < values p.source → T (tree_holds p.source (F ++ every_value p.source k) (λ _. zero) p.root)) → (run p (built_steps p F)).state ≡ taken p s₂ (rounds_now p s₂ zero (values p.source))
    unfolding run built_steps taken
    state_left t =
        ap (λ (l : List Action). (run_from p (initial p) zero (map (action_number p) l)).state) (built_are p G F K)
        ∙ takes_run (map set_of (pairs p F) ++ (begin_proof ∷ flat_map (round_steps p F) (below (values p.source)))) (initial p) zero (built_takes p G F K t)
        ∙ ap (taken p (initial p)) (sym (built_are p G F K) ∙ steps_are)
        ∙ taken_append p (set_steps p F) (begin_proof ∷ rounds_now p s₂ zero (values p.source)) (initial p)

-- ---- for an accepted case, in the words of the definitions
module _ (c : Case) (A : Accepted c) (F : List Tuple) (picks : are_picks c F ≡ true) (kinds : are_of_kinds c F ≡ true) where
  abbrev p : Problem
  p = problem_of c

  of_kinds : OfKinds p (good c A) F
  of_kinds = tested_kinds c A F (picks_inside c A F (T_of picks)) (T_of kinds)

  -- the state in which the proof phase starts
  abbrev pub begun : State
  begun = after (problem_of c) (taken (problem_of c) (initial (problem_of c)) (set_steps (problem_of c) F)) begin_proof

  pub built_steps_lem : built_actions (problem_of c) F ≡ set_steps (problem_of c) F ++ (begin_proof ∷ rounds_now (problem_of c) begun zero (values c))
  unfolding problem_of problem_with
  built_steps_lem = steps_are p (good c A) F of_kinds

  -- where a round begins no node is decided
  pub round_known : (k : ℕ) → k < values c → Knows (problem_of c) (F ++ every_value c k) (nodes_from (problem_of c) (good c A) (F ++ every_value c k) (length (problem_of c).node_list)) (round_state (problem_of c) begun k)
  unfolding problem_of problem_with
  round_known k h = round_begins p (good c A) F of_kinds k h

  -- whether a round's end may be taken, in any state that knows all its nodes, is whether the rule is true with its value; so 17 by all rounds
  pub end_told : (k : ℕ) (s : State) → Knows (problem_of c) (F ++ every_value c k) (nodes_from (problem_of c) (good c A) (F ++ every_value c k) zero) s
      → may_take (problem_of c) s (finish (problem_of c)) ≡ rule_holds c (F ++ every_value c k)
  unfolding problem_of problem_with
  end_told k s known = finish_may p (good c A) F of_kinds k s known ∙ root_means c A (F ++ every_value c k)

  ended_known : (k : ℕ) → k < values c → Knows (problem_of c) (F ++ every_value c k) (nodes_from (problem_of c) (good c A) (F ++ every_value c k) zero) (proved_state (problem_of c) begun k)
  unfolding problem_of problem_with proved_state
  ended_known k h = (proved p (good c A) F of_kinds k (round_state p begun k) (round_begins p (good c A) F of_kinds k h)).1

  pub end_may : (k : ℕ) → k < values c → may_take (problem_of c) (proved_state (problem_of c) begun k) (finish (problem_of c)) ≡ rule_holds c (F ++ every_value c k)
  end_may k h = end_told k _ (ended_known k h)

  -- a state that knows all nodes of a round and is else as the round begins is the one in which its end is asked for
  pub state_ended : (k : ℕ) → k < values c → (s : State) → Knows (problem_of c) (F ++ every_value c k) (nodes_from (problem_of c) (good c A) (F ++ every_value c k) zero) s
      → ((i : ℕ) → NoNode (problem_of c) (good c A) (F ++ every_value c k) i → s i ≡ round_state (problem_of c) begun k i) → s ≡ proved_state (problem_of c) begun k
  unfolding proved_state
  state_ended k h s known kept = known_same p (good c A) (F ++ every_value c k) (round_state p begun k) s (proved_state p begun k) known (ended_known k h) kept
      (nodes_keep p (good c A) (F ++ every_value c k) (length p.node_list) (round_state p begun k) (omega arith) (round_known k h))

  -- its steps up to there are those of its nodes
  pub proved_steps_lem : (k : ℕ) → k < values c → proved_steps (problem_of c) (round_state (problem_of c) begun k) (length (problem_of c).node_list) ≡ node_steps (problem_of c) (F ++ every_value c k) zero (problem_of c).node_list
  unfolding problem_of problem_with
  proved_steps_lem k h = (proved p (good c A) F of_kinds k (round_state p begun k) (round_begins p (good c A) F of_kinds k h)).0

  pub rule_may : all (λ k. may_take (problem_of c) (proved_state (problem_of c) begun k) (finish (problem_of c))) (below (values c)) ≡ rule_is_true c F
  unfolding rule_is_true
  rule_may = all_same _ _ (below (values c)) (λ k m. end_may k (below_lt (values c) k m))

  pub built_state : rule_is_true c F ≡ true → (run (problem_of c) (built_steps (problem_of c) F)).state ≡ taken (problem_of c) begun (rounds_now (problem_of c) begun zero (values c))
  unfolding problem_of problem_with
  built_state t = state_left p (good c A) F of_kinds (rule_everywhere c A F (T_of t))
