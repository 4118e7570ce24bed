-- One pick more or less: a node that does not mention its relation keeps its true atoms, so the built steps move by at most the
-- allowance; and what the call that tells allowances refuses with.
use Rattle.std.specs.Prelude.{ℕ, suc, ◌+◌, ◌/◌, ◌%◌, ◌≤◌, ◌≡◌, ◌⊎◌, Bool, not, ◌&&◌, ◌||◌, eqb, if◌then◌else◌}
use Rattle.std.proofs.Math.Path.{refl, sym, ap, subst}
use Rattle.std.proofs.Common.{ap₂}
use Rattle.std.proofs.Math.Logic.{⊎_elim}
use Rattle.std.proofs.Math.Bool.{true, false}
use mathlib.Core.List.Memᴰ
use mathlib.Core.List.{List, [], ◌∷◌, map, Memᴰ}
use native.Mathlib.Omega.{arith}
use Rattle.std.proofs.lemmas.Bool.{eqb-false}
use Rattle.std.proofs.Math.Dec.{T}
use Rattle.std.proofs.Math.ListN.{length, length-map}
use Rattle.definitions.specs.Limits.{CaseLimits}
use Rattle.definitions.specs.Lists.{is_some, all, filter, below, up_to, is_in, sum}
use Rattle.definitions.specs.Refusal.{Result, refused, accepted, ready_numbers}
use Rattle.definitions.specs.Sheet.Relations.{Tuple, is_among}
use Rattle.definitions.specs.Problem.Truth.{Case, holds, members_of, are_picks}
use Rattle.definitions.specs.Problem.Tree.{Tree, Trees, leaf, forall_node, exists_node, and_node, or_node, end, ◌then◌}
use Rattle.definitions.specs.Problem.Atoms.{Problem, node_width}
use Rattle.definitions.specs.Problem.Actions.{Values, with_value, values_at}
use Rattle.definitions.specs.Problem.Built.{tree_holds, trees_hold, some_holds, is_true_at, true_rows, chosen_numbers, true_atoms, built_count}
use Rattle.definitions.specs.Reply.Outcome.{Ready, asked, nothing, without_every, room_for}
use Rattle.definitions.specs.Reply.Demand.{are_same_picks}
use Rattle.definitions.specs.Reply.Allowance.{mentions, mentions_in, allowance, allowances_of, allowed_from, allowances}
use Rattle.laws.specs.Booleans.{T_and_l, T_and_r, T_of, T_ext, or_both}
use Rattle.laws.specs.Lists.{all_at, filter_same, length_below}
use Rattle.laws.specs.Tuples.{among_mem, mem_among}
use Rattle.laws.specs.Repeats.{Once, distinct_once, filter_le, pigeon}
use Rattle.laws.specs.Results.{refused_accepted, refused_number}
use Rattle.laws.specs.Valued.{all_same, any_same}
use Rattle.meaning.specs.Means.{Good}
use Rattle.meaning.specs.Count.{count_plain}
use Rattle.meaning.specs.Picks.{picks_distinct}
use Rattle.laws.specs.Asked
use Rattle.laws.specs.Refusals.{In, Refuses, Early, told, tested_by, nothing_by, every_by, room_by}
use Rattle.demands.specs.Buffers.{written_length, has_room}

-- ---- picks that agree on every relation but r
abbrev Elsewhere : ℕ → List Tuple → List Tuple → Type 0
Elsewhere r P Q = (t : Tuple) → (t.relation ≡ r → ⊥) → is_among t P ≡ is_among t Q

module _ (c : Case) (r : ℕ) (P Q : List Tuple) (same : Elsewhere r P Q) where
  literal_same : (k : ℕ) (xs : List ℕ) → eqb k r ≡ false → holds c P k xs ≡ holds c Q k xs
  unfolding holds
  literal_same k xs e = rw (same (record { relation = k; places = xs }) (eqb-false k r e)) refl

  -- a subtree that does not mention r is so of P exactly if of Q
  mutual
    unfolding tree_holds mentions

    pub tree_same : (e : Values) (t : Tree) → mentions r t ≡ false → tree_holds c P e t ≡ tree_holds c Q e t
    tree_same e (leaf true k ls) h = literal_same k (map e ls) h
    tree_same e (leaf false k ls) h = ap not (literal_same k (map e ls) h)
    tree_same e (forall_node d s t) h = all_same _ _ (λ x. tree_same (with_value e d x) t h) (members_of c s)
    tree_same e (exists_node d s t) h = any_same _ _ (λ x. tree_same (with_value e d x) t h) (members_of c s)
    tree_same e (and_node ts) h = trees_same e ts h
    tree_same e (or_node ts) h = some_same e ts h

    trees_same : (e : Values) (ts : Trees) → mentions_in r ts ≡ false → trees_hold c P e ts ≡ trees_hold c Q e ts
    trees_same e end h = refl
    trees_same e (t then ts) h = let (a, b) = or_both (mentions r t) (mentions_in r ts) h in ap₂ ◌&&◌ (tree_same e t a) (trees_same e ts b)

    some_same : (e : Values) (ts : Trees) → mentions_in r ts ≡ false → some_holds c P e ts ≡ some_holds c Q e ts
    some_same e end h = refl
    some_same e (t then ts) h = let (a, b) = or_both (mentions r t) (mentions_in r ts) h in ap₂ ◌||◌ (tree_same e t a) (some_same e ts b)

module _ (p : Problem) (r : ℕ) (P Q : List Tuple) (same : Elsewhere r P Q) where
  atom_same : (t : Tree) → mentions r t ≡ false → (row : ℕ) → is_true_at p P t row ≡ is_true_at p Q t row
  unfolding is_true_at mentions
  atom_same (leaf b k ls) h row = refl
  atom_same (forall_node d s t) h row = ap (λ (b : Bool). is_in (row % p.size) (p.range s) && b)
      (all_same _ _ (λ x. tree_same p.source r P Q same (with_value (values_at p.size (forall_node d s t) (row / p.size)) d x) t h) (up_to (p.range s) (row % p.size)))
  atom_same (exists_node d s t) h row = tree_same p.source r P Q same (values_at p.size (exists_node d s t) row) (exists_node d s t) h
  atom_same (and_node ts) h row = tree_same p.source r P Q same (values_at p.size (and_node ts) row) (and_node ts) h
  atom_same (or_node ts) h row = tree_same p.source r P Q same (values_at p.size (or_node ts) row) (or_node ts) h

  rows_same : (t : Tree) → mentions r t ≡ false → length (true_rows p Q t) ≡ length (true_rows p P t)
  unfolding true_rows
  rows_same t h = ap length (filter_same (is_true_at p Q t) (is_true_at p P t) (below (node_width p.size t)) (λ row m. sym (atom_same t h row)))

  rows_most : (t : Tree) → length (true_rows p Q t) ≤ node_width p.size t
  unfolding true_rows
  rows_most t = let a = filter_le (is_true_at p Q t) (below (node_width p.size t)) in let b = length_below (node_width p.size t) in omega arith

  -- the true atoms of all nodes are at most those that were true before and all atoms of the nodes that mention r
  pub true_moves : (ts : List Tree) → sum (map (λ t. length (true_rows p Q t)) ts) ≤ sum (map (λ t. length (true_rows p P t)) ts) + sum (map (node_width p.size) (filter (mentions r) ts))
  unfolding sum filter
  true_moves [] = omega arith
  true_moves (t ∷ ts) = by_test (mentions r t) refl (true_moves ts)
    where
      by_test : (b : Bool) → mentions r t ≡ b → sum (map (λ t. length (true_rows p Q t)) ts) ≤ sum (map (λ t. length (true_rows p P t)) ts) + sum (map (node_width p.size) (filter (mentions r) ts))
          → length (true_rows p Q t) + sum (map (λ t. length (true_rows p Q t)) ts) ≤ length (true_rows p P t) + sum (map (λ t. length (true_rows p P t)) ts) + sum (map (node_width p.size) (if b then t ∷ filter (mentions r) ts else filter (mentions r) ts))
      by_test true e h = let a = rows_most t in omega arith
      by_test false e h = let a = rows_same t e in omega arith

  -- without an `every` line there is one round
  pub count_moves : (G : Good p) → T (not (is_some p.source.question.every)) → length Q ≤ suc (length P) → built_count p Q ≤ built_count p P + allowance p r
  unfolding true_atoms allowance
  count_moves G n h = let a = true_moves p.node_list in let b = count_plain p G n P in let c = count_plain p G n Q in omega arith

-- ---- Q is P and one tuple more
module _ (P Q : List Tuple) (t : Tuple) (is : are_same_picks Q (t ∷ P) ≡ true) where
  into : (u : Tuple) → Memᴰ u Q → (u ≡ t) ⊎ Memᴰ u P
  unfolding are_same_picks
  into u m = Memᴰ.cases_cons (among_mem u (t ∷ P) (all_at (λ v. is_among v (t ∷ P)) Q (T_and_l (all (λ v. is_among v (t ∷ P)) Q) _ (T_of is)) u m))

  out : (u : Tuple) → Memᴰ u (t ∷ P) → Memᴰ u Q
  unfolding are_same_picks
  out u m = among_mem u Q (all_at (λ v. is_among v Q) (t ∷ P) (T_and_r (all (λ v. is_among v (t ∷ P)) Q) _ (T_of is)) u m)

  pub elsewhere : Elsewhere t.relation P Q
  elsewhere u d = T_ext (is_among u P) (is_among u Q)
      (λ h. mem_among u Q (out u (Memᴰ.tail (among_mem u P h))))
      (λ h. mem_among u P (⊎_elim (λ e. absurd (d (ap (λ (v : Tuple). v.relation) e))) (λ m. m) (into u (among_mem u Q h))))

  pub one_more : Once P → Once Q → is_among t P ≡ false → length Q ≡ suc (length P)
  unfolding Once
  one_more oP oQ new =
      let a = pigeon Q (t ∷ P) oQ (λ u m. ⊎_elim (λ e. Memᴰ.head e) (λ q. Memᴰ.tail q) (into u m)) in
      let b = pigeon (t ∷ P) Q ((λ m. subst T new (mem_among t P m)), oP) out in
      omega arith

-- the counts of the built steps, both ways
pub count_moves_both : (p : Problem) (G : Good p) → T (not (is_some p.source.question.every)) → (c : Case) (P Q : List Tuple) (t : Tuple) → are_picks c P ≡ true → are_picks c Q ≡ true → is_among t P ≡ false → are_same_picks Q (t ∷ P) ≡ true
    → (built_count p Q ≤ built_count p P + allowance p t.relation) × (built_count p P ≤ built_count p Q + allowance p t.relation)
count_moves_both p G alone c P Q t a b new is =
    let n = one_more P Q t is (distinct_once P (picks_distinct c P (T_of a))) (distinct_once Q (picks_distinct c Q (T_of b))) new in
    (count_moves p t.relation P Q (elsewhere P Q t is) G alone (omega arith), count_moves p t.relation Q P (λ u d. sym (elsewhere P Q t is u d)) G alone (omega arith))

-- ---- the call: a refusal leaves the buffer as it was; its length stays
module _ (L : CaseLimits) (question site old : List ℕ) where
  abbrev rooms : Problem → Result (Unit {0})
  rooms p = room_for (length (chosen_numbers p)) (length old)

  abbrev ready : Result (Ready (Unit {0}))
  ready = asked L question site nothing nothing without_every rooms

  pub allowances_refuse : (k place : ℕ) → (allowances L question site old).answer ≡ refused k place → In ready_numbers k × ((allowances L question site old).allowances ≡ old)
  unfolding allowances allowed_from
  allowances_refuse k place e = from_this ready (tested_by L question site nothing without_every rooms nothing_by every_by (λ p. room_by (length (chosen_numbers p)) (length old))) e
    where
      from_this : (m : Result (Ready (Unit {0}))) → Refuses Early m → (allowed_from m old).answer ≡ refused k place → In ready_numbers k × ((allowed_from m old).allowances ≡ old)
      from_this (refused j at) h e = (subst (In ready_numbers) (refused_number j k at place e) (told Early (refused j at) j at refl h), refl)
      from_this (accepted r) h e = absurd (refused_accepted (sym e))

  pub allowances_length : length (allowances L question site old).allowances ≡ length old
  unfolding allowances allowed_from allowances_of
  allowances_length = from_this ready (λ r e. has_room (length (chosen_numbers r.problem)) (length old) tt (Asked.parts L question site nothing nothing without_every rooms r e).has_room)
    where
      from_this : (m : Result (Ready (Unit {0}))) → ((r : Ready (Unit {0})) → m ≡ accepted r → length (chosen_numbers r.problem) ≤ length old) → length (allowed_from m old).allowances ≡ length old
      from_this (refused k place) h = refl
      from_this (accepted r) h =
          let p = r.problem in
          let q = h r refl in
          let l = length-map (chosen_numbers p) (allowance p) in
          written_length (map (allowance p) (chosen_numbers p)) old (omega arith)
