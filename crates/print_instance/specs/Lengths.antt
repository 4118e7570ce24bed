-- No instance is longer than numbers reach. Assumes nothing.
use Rattle.std.specs.Prelude.{if◌then◌else◌}
use Prim.Native.Nat.{ℕ, zero, suc, ◌+◌, ◌-◌, ◌*◌, ◌^◌, ◌≤◌, ◌<◌}
use mathlib.Core.List.{List, [], ◌∷◌, ◌++◌, map}
use native.Mathlib.Omega.{arith}
use Rattle.std.proofs.Math.ListN.{length, length-append, length-map}
use Rattle.definitions.specs.Lists.{flat_map, from, below}
use Rattle.definitions.specs.Sheet.Text.{bytes}
use Rattle.definitions.specs.Sheet.Formula.{write_each}
use Rattle.definitions.specs.Problem.Atoms.{places_of}
use Rattle.definitions.specs.Reply.Pddl.{object_word}
use Rattle.laws.specs.Lists.{length_from}
use Rattle.laws.specs.Rows.{length_places}
use Rattle.problem_layout.specs.declared.Relations.{Relations}
use Rattle.problem_layout.specs.LaidLaws.{pow_most}
use Rattle.print_words.specs.declared.Word.{Word}
use Rattle.print_words.specs.Lengths.{flat_le, if_le, line_le, objects_le}
use Rattle.print_instance.specs.declared.Known.{Known}
use Rattle.print_instance.specs.Texts.{KnownFits, RelationsKnown, known_fits, other_fits, relation_word, said_text, elements_text, row_text, run_text, tuples_text, other, relation_text, known_at, relations_text, instance_in, agree, word_for, is_fun, is_inj}
use Rattle.step_start.specs.Rows.{holds_at}

module _ (q ns f : List ℕ) (short : length q ≤ 2 ^ 21) where
  said_le : (w : Word) (xs : List ℕ) → length xs ≤ 3 → length (said_text q ns w xs) ≤ 2 ^ 22
  unfolding said_text
  said_le w xs h = omega (arith, line_le q ns w (map (λ x. 8 + x) xs), length-map xs (λ x. 8 + x))

  row_le : (k : Known) → KnownFits k → (row : ℕ) → length (row_text q ns f k row) ≤ 2 ^ 22
  unfolding row_text
  row_le k K row = if_le (said_text q ns (word_for k.holds k.r) (places_of k.n k.arity row)) (2 ^ 22)
      (said_le _ (places_of k.n k.arity row) (omega (arith, K.places, length_places k.n k.arity row))) (agree (holds_at f k.n k.r k.kind k.first row) k.holds)

  tuples_le : (k : Known) → KnownFits k → length (tuples_text q ns f k) ≤ 64 ^ 4 * (64 * 2 ^ 22)
  unfolding tuples_text below
  tuples_le k K =
      let run : (b : ℕ) → length (run_text q ns f k b) ≤ 64 * 2 ^ 22 = λ b. omega (arith, flat_le (row_text q ns f k) (2 ^ 22) (row_le k K) (from (b * k.n) k.n), length_from (b * k.n) k.n, K.few) in
      omega (arith, flat_le (run_text q ns f k) (64 * 2 ^ 22) run (below (k.n ^ (k.arity - 1))), length_from 0 (k.n ^ (k.arity - 1)), pow_most k.n (k.arity - 1) K.few (omega (arith, K.places)))

  elements_le : (w : Word) (n : ℕ) → n ≤ 64 → length (flat_map (elements_text q ns w) (below n)) ≤ 64 * 2 ^ 22
  unfolding elements_text below
  elements_le w n h = omega (arith, flat_le (λ x. said_text q ns w (x ∷ [])) (2 ^ 22) (λ x. said_le w (x ∷ []) (omega arith)) (below n), length_from 0 n)

  relation_le : (k : Known) → KnownFits k → length (relation_text q ns f k) ≤ 2 ^ 54
  unfolding relation_text
  relation_le k K =
      let T : List ℕ = tuples_text q ns f k in
      let U : List ℕ = tuples_text q ns f (other k) in
      let A : List ℕ = if is_fun k.kind then flat_map (elements_text q ns (relation_word 2 k.r)) (below k.n) else [] in
      let B : List ℕ = if is_inj k.kind then flat_map (elements_text q ns (relation_word 3 k.r)) (below k.n) else [] in
      omega (
        arith,
        length-append T (U ++ (A ++ B)),
        length-append U (A ++ B),
        length-append A B,
        tuples_le k K,
        tuples_le (other k) (other_fits k K),
        if_le (flat_map (elements_text q ns (relation_word 2 k.r)) (below k.n)) (64 * 2 ^ 22) (elements_le (relation_word 2 k.r) k.n K.few) (is_fun k.kind),
        if_le (flat_map (elements_text q ns (relation_word 3 k.r)) (below k.n)) (64 * 2 ^ 22) (elements_le (relation_word 3 k.r) k.n K.few) (is_inj k.kind),
      )

  module _ (n : ℕ) (g : Relations) (G : RelationsKnown n g) where
    some_le : (r m : ℕ) → r + m ≤ g.count → length (flat_map (λ r. relation_text q ns f (known_at n g r)) (from r m)) ≤ m * 2 ^ 54
    unfolding flat_map from
    some_le r zero h = omega arith
    some_le r (suc m) h = omega (
      arith,
      length-append (relation_text q ns f (known_at n g r)) (flat_map (λ r. relation_text q ns f (known_at n g r)) (from (suc r) m)),
      relation_le (known_at n g r) (known_fits n g G r (omega arith)),
      some_le (suc r) m (omega arith),
    )

    relations_le : length (relations_text q ns f n g) ≤ 18 * 2 ^ 54
    unfolding relations_text below
    relations_le = omega (arith, some_le 0 g.count (omega arith), G.fit.count)

    pub instance_small : length (instance_in q ns f n g) < 2 ^ 64
    unfolding instance_in
    instance_small =
        let E : List ℕ = write_each (λ v. v) (map object_word (from 1 (n - 2))) in
        let R : List ℕ = relations_text q ns f n g in
        let z : List ℕ = bytes "  )" ++ (10 ∷ (bytes "  (:goal (holds_goal))" ++ (10 ∷ 41 ∷ 10 ∷ []))) in
        let b : List ℕ = 41 ∷ 10 ∷ (bytes "  (:init" ++ (10 ∷ (bytes "    (guess)" ++ (10 ∷ [])))) in
        omega (arith, length-append E (b ++ (R ++ z)), length-append R z, objects_le (from 1 (n - 2)), length_from 1 (n - 2), relations_le, G.few)
