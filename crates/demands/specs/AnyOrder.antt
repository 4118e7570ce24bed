-- Picks are a set: two lists of the same tuples, in whatever order, are of the declared kinds alike, make the rule true alike, and
-- give the same built steps.
use Prim.Native.Nat.{ℕ, zero, suc, ◌/◌, ◌%◌}
use Rattle.std.specs.Prelude.{◌≡◌, Bool, true, false, ◌&&◌, ◌||◌, get_or}
use Rattle.std.proofs.Math.Path.{refl, ap, ap₂, fun_ext}
use Rattle.std.proofs.Common.{sym, ◌∙◌}
use Rattle.std.proofs.Math.Bool.{not}
use mathlib.Core.List.{List, [], ◌∷◌, ◌++◌, map}
use Rattle.std.proofs.Math.Dec.{eqb}
use Rattle.definitions.specs.Lists.{all, any, below, up_to, is_in, flat_map, position}
use Rattle.definitions.specs.Sheet.Relations.{Relation, Tuple, same_tuple, is_among, is_function, is_injective}
use Rattle.definitions.specs.Problem.Truth.{Case, holds, members_of, each_chosen, two, first, second, is_inside, is_of_kind, are_of_kinds, first_of_other_kind, values, every_value, rule_holds, rule_is_true}
use Rattle.definitions.specs.Problem.Tree.{Tree, Trees, leaf, forall_node, exists_node, and_node, or_node, end, ◌then◌, Part, parts, tree_of}
use Rattle.definitions.specs.Problem.Atoms.{Problem, node_width, tuples_of, relation_at}
use Rattle.definitions.specs.Problem.Actions.{Action, set, begin_proof, prove_exists, prove_or, finish, action_number, Values, with_value, values_at}
use Rattle.definitions.specs.Problem.Built.{tree_holds, trees_hold, some_holds, is_true_at, least, step_for, true_rows, node_steps, chosen_numbers, is_picked, picked_rows, set_steps, marks_after, round_steps, built_actions, built_steps}
use Rattle.definitions.specs.Reply.Demand.{are_same_picks}
use Rattle.laws.specs.Booleans.{T_of, T_true, T_ext}
use Rattle.laws.specs.Lists.{any_at, any_of, filter_same}
use Rattle.laws.specs.Tuples.{among_mem, mem_among}
use Rattle.laws.specs.Reader.{Accepted}
use Rattle.meaning.specs.Changes.{any_append}
use Rattle.meaning.specs.Meaning.{tree_means}
use Rattle.demands.specs.Answered.{same_among}

-- tests that agree everywhere
module _ {A : Type 0} (f g : A → Bool) (h : (x : A) → f x ≡ g x) where
  all_same : (l : List A) → all f l ≡ all g l
  all_same l = ap (λ (k : A → Bool). all k l) (fun_ext h)

  any_same : (l : List A) → any f l ≡ any g l
  any_same l = ap (λ (k : A → Bool). any k l) (fun_ext h)

module _ (P Q : List Tuple) (same : (t : Tuple) → is_among t P ≡ is_among t Q) where
  module _ (c : Case) where
    literal_same : (k : ℕ) (xs : List ℕ) → holds c P k xs ≡ holds c Q k xs
    unfolding holds
    literal_same k xs = rw (same (record { relation = k; places = xs })) refl

    mutual
      unfolding tree_holds

      tree_same : (e : Values) (t : Tree) → tree_holds c P e t ≡ tree_holds c Q e t
      tree_same e (leaf true k ls) = literal_same k (map e ls)
      tree_same e (leaf false k ls) = ap not (literal_same k (map e ls))
      tree_same e (forall_node d s t) = all_same _ _ (λ x. tree_same (with_value e d x) t) (members_of c s)
      tree_same e (exists_node d s t) = any_same _ _ (λ x. tree_same (with_value e d x) t) (members_of c s)
      tree_same e (and_node ts) = trees_same e ts
      tree_same e (or_node ts) = some_same e ts

      trees_same : (e : Values) (ts : Trees) → trees_hold c P e ts ≡ trees_hold c Q e ts
      trees_same e end = refl
      trees_same e (t then ts) = ap₂ ◌&&◌ (tree_same e t) (trees_same e ts)

      some_same : (e : Values) (ts : Trees) → some_holds c P e ts ≡ some_holds c Q e ts
      some_same e end = refl
      some_same e (t then ts) = ap₂ ◌||◌ (tree_same e t) (some_same e ts)

    truth_same : tree_holds c P ≡ tree_holds c Q
    truth_same = fun_ext (λ e. fun_ext (λ t. tree_same e t))

  module _ (p : Problem) where
    atom_same : (t : Tree) (row : ℕ) → is_true_at p P t row ≡ is_true_at p Q t row
    unfolding is_true_at
    atom_same (leaf b k ls) row = refl
    atom_same (forall_node d s t) row = ap (λ (b : Bool). is_in (row % p.size) (p.range s) && b)
        (all_same _ _ (λ x. tree_same p.source (with_value (values_at p.size (forall_node d s t) (row / p.size)) d x) t) (up_to (p.range s) (row % p.size)))
    atom_same (exists_node d s t) row = tree_same p.source _ (exists_node d s t)
    atom_same (and_node ts) row = tree_same p.source _ (and_node ts)
    atom_same (or_node ts) row = tree_same p.source _ (or_node ts)

    rows_same : (t : Tree) → true_rows p P t ≡ true_rows p Q t
    unfolding true_rows
    rows_same t = filter_same (is_true_at p P t) (is_true_at p Q t) (below (node_width p.size t)) (λ row m. atom_same t row)

    step_same : (v : ℕ) (t : Tree) (row : ℕ) → step_for p P v t row ≡ step_for p Q v t row
    unfolding step_for
    step_same v (leaf b k ls) row = refl
    step_same v (forall_node d s t) row = refl
    step_same v (exists_node d s t) row = ap (λ (H : Values → Tree → Bool). prove_exists v row (get_or (p.range s) (least (λ x. H (with_value (values_at p.size (exists_node d s t) row) d x) t) (p.range s)) 0)) (truth_same p.source)
    step_same v (and_node ts) row = refl
    step_same v (or_node ts) row = ap (λ (H : Values → Tree → Bool). prove_or v row (least (λ (q : Part). H (values_at p.size (or_node ts) row) q.tree) (parts v (or_node ts)))) (truth_same p.source)

    proofs_same : (v : ℕ) (ts : List Tree) → node_steps p P v ts ≡ node_steps p Q v ts
    unfolding node_steps
    proofs_same v [] = refl
    proofs_same v (t ∷ ts) = ap₂ ◌++◌ (proofs_same (suc v) ts) (ap₂ (λ (f : ℕ → Action) (l : List ℕ). map f l) (fun_ext (step_same v t)) (rows_same t))

    picked_same : (r : ℕ) → picked_rows p P r ≡ picked_rows p Q r
    unfolding picked_rows is_picked
    picked_same r = filter_same _ _ (below (tuples_of p.size (relation_at p r))) (λ row m. same _)

    sets_same : set_steps p P ≡ set_steps p Q
    unfolding set_steps
    sets_same = ap (λ (f : ℕ → List ℕ). flat_map (λ r. map (set r) (f r)) (chosen_numbers p)) (fun_ext picked_same)

  any_among : (f : Tuple → Bool) → any f P ≡ any f Q
  any_among f = T_ext (any f P) (any f Q)
      (λ h. let (t, m, q) = any_at f P h in any_of f Q t (among_mem t Q (T_of (sym (same t) ∙ T_true _ (mem_among t P m)))) q)
      (λ h. let (t, m, q) = any_at f Q h in any_of f P t (among_mem t P (T_of (same t ∙ T_true _ (mem_among t Q m)))) q)

  two_same : (r : ℕ) (a b : Tuple → ℕ) → two r a b P ≡ two r a b Q
  unfolding two
  two_same r a b = any_same _ _ (λ t. any_among _) P ∙ any_among _

  kind_same : (c : Case) → is_of_kind c P ≡ is_of_kind c Q
  unfolding is_of_kind
  kind_same c = fun_ext (λ r. fun_ext (λ (k : Relation).
      ap₂ (λ (x y : Bool). x && not (is_function k.kind && y))
      (ap₂ (λ (x y : Bool). not (is_function k.kind && x) && not (is_injective k.kind && y)) (two_same r first second) (two_same r second first))
      (any_among (λ (t : Tuple). eqb t.relation r && not (is_inside c k t)))))

-- with the same tuples beside them they still are the same
pub same_beside : (P Q W : List Tuple) → ((t : Tuple) → is_among t P ≡ is_among t Q) → (t : Tuple) → is_among t (P ++ W) ≡ is_among t (Q ++ W)
unfolding is_among
same_beside P Q W h t = any_append (same_tuple t) P W ∙ ap (λ (b : Bool). b || any (same_tuple t) W) (h t) ∙ sym (any_append (same_tuple t) Q W)

-- so each round of the built steps is the same
steps_same : (p : Problem) (P Q : List Tuple) → ((t : Tuple) → is_among t P ≡ is_among t Q) → built_steps p P ≡ built_steps p Q
unfolding built_steps built_actions round_steps
steps_same p P Q same = ap₂ (λ (l : List Action) (f : ℕ → List Action). map (action_number p) (l ++ (begin_proof ∷ flat_map f (below (values p.source))))) (sets_same P Q same p)
    (fun_ext (λ k. ap (λ (l : List Action). l ++ (finish p ∷ marks_after p k)) (proofs_same _ _ (same_beside P Q (every_value p.source k) same) p zero p.node_list)))

-- and the rule holds of both or of neither
pub holds_same : (c : Case) → Accepted c → (P Q : List Tuple) → ((t : Tuple) → is_among t P ≡ is_among t Q) → rule_holds c P ≡ rule_holds c Q
holds_same c A P Q same = sym (tree_means c P A) ∙ tree_same P Q same c (λ _. zero) (tree_of c.question) ∙ tree_means c Q A

-- "their order doesn't count": the same tuples give the same built steps,
pub same_steps : (p : Problem) (P Q : List Tuple) → are_same_picks P Q ≡ true → built_steps p P ≡ built_steps p Q
same_steps p P Q e = steps_same p P Q (same_among P Q e)

-- are of the declared kinds alike,
pub same_kinds : (c : Case) (P Q : List Tuple) → are_same_picks P Q ≡ true → are_of_kinds c P ≡ are_of_kinds c Q
unfolding are_of_kinds
same_kinds c P Q e = ap (λ (f : ℕ → Relation → Bool). all (λ b. b) (each_chosen c f)) (kind_same P Q (same_among P Q e) c)

-- by the same first `choose` of which they are not,
pub same_first : (c : Case) (P Q : List Tuple) → are_same_picks P Q ≡ true → first_of_other_kind c P ≡ first_of_other_kind c Q
unfolding first_of_other_kind
same_first c P Q e = ap (λ (f : ℕ → Relation → Bool). position not (each_chosen c f)) (kind_same P Q (same_among P Q e) c)

-- and make the rule true alike.
pub same_rule : (c : Case) → Accepted c → (P Q : List Tuple) → are_same_picks P Q ≡ true → rule_is_true c P ≡ rule_is_true c Q
unfolding rule_is_true
same_rule c A P Q e = ap (λ (f : ℕ → Bool). all f (below (values c))) (fun_ext (λ k. holds_same c A _ _ (same_beside P Q (every_value c k) (same_among P Q e))))
