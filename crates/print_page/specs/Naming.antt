-- The names and arities of relations by their numbers, from a question's signature. Assumes nothing.
use Rattle.std.specs.Prelude.{ℕ, ◌+◌, ◌-◌, ◌*◌, ◌≤◌, ◌<◌, ◌≡◌, ◌⊎◌, Bool, true, false, T, ltb, drop, set}
use Rattle.std.proofs.Math.Path.{refl, sym, ap, ap₂, subst}
use Rattle.std.proofs.Common.{◌∙◌, inl, inr, zero-add, length-set, get_or-set_other, get_or-set_same, ltb-true, ltb-false}
use Rattle.std.proofs.Math.Logic.{⊎_elim}
use mathlib.Core.List.{List}
use native.Mathlib.Omega.{arith}
use Rattle.std.proofs.Math.ListN.{length, get_or, take, length-append}
use Rattle.std.proofs.Math.Seq.{get_or-append-add}
use Rattle.definitions.specs.Sheet.Relations.{Relation, built_in, is_chosen, is_universal}
use Rattle.definitions.specs.Sheet.Sheets.{relations_of, every_number}
use Rattle.definitions.specs.Problem.Truth.{Case}
use Rattle.definitions.specs.Problem.Atoms.{problem_of, problem_with, relation_at}
use Rattle.laws.specs.Booleans.{T_or}
use Rattle.laws.specs.Numbers.{no_relation}
use Rattle.laws.specs.Reader.{Accepted}
use Rattle.meaning.specs.Grounded.{good, chosen_index, first_chosen_lem}
use Rattle.print_line.specs.Lines.{part_is}
use Rattle.rows.specs.Values.{Most}
use Rattle.read_names.specs.declared.Signature.{Signature}
use Rattle.read_names.specs.Signatures.{SoundSignature, relation_in, rels_of, chosen_of, every_of, all_of, relations_from}
use Rattle.read_names.proofs.Laws.{all_are, relation_at_lem, length_relations}
use Rattle.print_page.specs.Elements.{Names, is_moved, NamesAre, name_in}

-- the names of the first i relations of the signature stand in the numbers, those of relation 5 + j from 15 + 3j on
pub record Named (from to arity : List ℕ) (i : ℕ) (names : List ℕ) : Type 0 where
  pub room : length names ≡ 54
  pub told : (j : ℕ) → j < i → (get_or names (15 + 3 * j) 0 ≡ get_or from j 0) × (get_or names (15 + 3 * j + 1) 0 ≡ get_or to j 0) × (get_or names (15 + 3 * j + 2) 0 ≡ get_or arity j 0)
  pub others : (k : ℕ) → (k < 15) ⊎ (15 + 3 * i ≤ k) → get_or names k 0 ≡ 0

pub named_none : (from to arity names : List ℕ) → length names ≡ 54 → Most names 0 → Named from to arity 0 names
named_none from to arity names l z = record { room = l; told = λ j h. absurd (omega arith); others = λ k _. omega (arith, z k) }

module _ (from to arity : List ℕ) (i : ℕ) (names : List ℕ) (N : Named from to arity i names) (h : i < 13) where
  abbrev one : List ℕ
  one = set names (15 + 3 * i) (get_or from i 0)

  abbrev two : List ℕ
  two = set one (15 + 3 * i + 1) (get_or to i 0)

  abbrev next : List ℕ
  next = set two (15 + 3 * i + 2) (get_or arity i 0)

  one_room : length one ≡ 54
  one_room = length-set names (15 + 3 * i) (get_or from i 0) ∙ N.room

  two_room : length two ≡ 54
  two_room = length-set one (15 + 3 * i + 1) (get_or to i 0) ∙ one_room

  other : (k : ℕ) → (k < 15 + 3 * i) ⊎ (15 + 3 * i + 2 < k) → get_or next k 0 ≡ get_or names k 0
  other k o =
      get_or-set_other two (15 + 3 * i + 2) k (get_or arity i 0) 0 (λ e. ⊎_elim (λ a. omega arith) (λ a. omega arith) o)
      ∙ get_or-set_other one (15 + 3 * i + 1) k (get_or to i 0) 0 (λ e. ⊎_elim (λ a. omega arith) (λ a. omega arith) o)
      ∙ get_or-set_other names (15 + 3 * i) k (get_or from i 0) 0 (λ e. ⊎_elim (λ a. omega arith) (λ a. omega arith) o)

  here : (get_or next (15 + 3 * i) 0 ≡ get_or from i 0) × (get_or next (15 + 3 * i + 1) 0 ≡ get_or to i 0) × (get_or next (15 + 3 * i + 2) 0 ≡ get_or arity i 0)
  here = (
    get_or-set_other two (15 + 3 * i + 2) (15 + 3 * i) (get_or arity i 0) 0 (λ e. omega arith) ∙ get_or-set_other one (15 + 3 * i + 1) (15 + 3 * i) (get_or to i 0) 0 (λ e. omega arith) ∙ get_or-set_same names (15 + 3 * i) (get_or from i 0) 0 (omega (arith, N.room)),
    get_or-set_other two (15 + 3 * i + 2) (15 + 3 * i + 1) (get_or arity i 0) 0 (λ e. omega arith) ∙ get_or-set_same one (15 + 3 * i + 1) (get_or to i 0) 0 (omega (arith, one_room)),
    get_or-set_same two (15 + 3 * i + 2) (get_or arity i 0) 0 (omega (arith, two_room)),
  )

  pub named_next : Named from to arity (i + 1) next
  named_next = record {
    room = length-set two (15 + 3 * i + 2) (get_or arity i 0) ∙ two_room;
    told = λ j l. by_test j l (ltb j i) refl;
    others = λ k o. other k (⊎_elim (λ x. inl (omega arith)) (λ x. inr (omega arith)) o) ∙ N.others k (⊎_elim (λ x. inl x) (λ x. inr (omega arith)) o);
  }
    where
      by_test : (j : ℕ) → j < i + 1 → (b : Bool) → ltb j i ≡ b → (get_or next (15 + 3 * j) 0 ≡ get_or from j 0) × (get_or next (15 + 3 * j + 1) 0 ≡ get_or to j 0) × (get_or next (15 + 3 * j + 2) 0 ≡ get_or arity j 0)
      by_test j l true q =
          let m = ltb-true j i q in
          let (a, b, c) = N.told j m in
          (other (15 + 3 * j) (inl (omega arith)) ∙ a, other (15 + 3 * j + 1) (inl (omega arith)) ∙ b, other (15 + 3 * j + 2) (inl (omega arith)) ∙ c)
      by_test j l false q =
          let m = ltb-false j i q in
          let e : i ≡ j = omega arith in
          subst (λ (k : ℕ). (get_or next (15 + 3 * k) 0 ≡ get_or from k 0) × (get_or next (15 + 3 * k + 1) 0 ≡ get_or to k 0) × (get_or next (15 + 3 * k + 2) 0 ≡ get_or arity k 0)) e here

-- so they fit the question, and are those of its problem
module _ (q : List ℕ) (g : Signature) (names : List ℕ) (S : SoundSignature q g) (N : Named g.from g.to g.arity (g.rels + g.chosen + g.every) names) where
  abbrev Fine : ℕ → Type 0
  Fine r = (get_or names (3 * r) 0 ≤ get_or names (3 * r + 1) 0) × (get_or names (3 * r + 1) 0 ≤ length q) × (get_or names (3 * r + 2) 0 ≤ 3)

  empty : (r : ℕ) → (r < 5) ⊎ (5 + (g.rels + g.chosen + g.every) ≤ r) → Fine r
  empty r o =
      let none : (k : ℕ) → k < 3 → get_or names (3 * r + k) 0 ≡ 0 = λ k l. N.others (3 * r + k) (⊎_elim (λ a. inl (omega arith)) (λ a. inr (omega arith)) o) in
      let a : get_or names (3 * r) 0 ≡ 0 = N.others (3 * r) (⊎_elim (λ b. inl (omega arith)) (λ b. inr (omega arith)) o) in
      (omega (arith, a), omega (arith, none 1 (omega arith)), omega (arith, none 2 (omega arith)))

  there : (j : ℕ) → j < g.rels + g.chosen + g.every → Fine (5 + j)
  there j l =
      let (a, b, c) = N.told j l in
      let (u, v) = S.spans j l in
      let (_, w) = S.arities j l in
      let e : 3 * (5 + j) ≡ 15 + 3 * j = omega arith in
      rw e (omega (arith, a, b, u), omega (arith, b, v), omega (arith, c, w))

  fine : (r : ℕ) → Fine r
  fine r = low (ltb r 5) refl
    where
      high : 5 ≤ r → (b : Bool) → ltb (r - 5) (g.rels + g.chosen + g.every) ≡ b → Fine r
      high h true e = let l = ltb-true (r - 5) (g.rels + g.chosen + g.every) e in let d : 5 + (r - 5) ≡ r = omega arith in subst Fine d (there (r - 5) l)
      high h false e = let l = ltb-false (r - 5) (g.rels + g.chosen + g.every) e in empty r (inr (omega arith))

      low : (b : Bool) → ltb r 5 ≡ b → Fine r
      low true e = empty r (inl (ltb-true r 5 e))
      low false e = high (ltb-false r 5 e) (ltb (r - 5) (g.rels + g.chosen + g.every)) refl

  pub names_fit : Names q names
  names_fit = record { room = N.room; in_text = λ r. ((fine r).0, (fine r).1); arity = λ r. (fine r).2 }

  module _ (c : Case) (A : Accepted c) (rels_are : c.question.rels ≡ rels_of q g) (chosen_are : c.question.chosen ≡ chosen_of q g) (every-are : c.question.every ≡ every_of q g) where
    relations_are : (problem_of c).relations ≡ all_of q g
    unfolding problem_of problem_with relations_of all_of
    relations_are = rw (rels_are, chosen_are, every-are) refl

    count_is : length (problem_of c).relations ≡ 5 + (g.rels + g.chosen + g.every)
    unfolding built_in
    count_is =
        ap length (relations_are ∙ all_are q g S.every_le) ∙ length-append built_in (relations_from q g 0 (g.rels + g.chosen + g.every))
        ∙ ap (λ (k : ℕ). 5 + k) (length_relations q g 0 (g.rels + g.chosen + g.every))

    relation_is : (j : ℕ) → j < g.rels + g.chosen + g.every → relation_at (problem_of c) (5 + j) ≡ relation_in q g j
    unfolding relation_at built_in
    relation_is j l =
        ap (λ (rs : List Relation). get_or rs (5 + j) no_relation) (relations_are ∙ all_are q g S.every_le)
        ∙ get_or-append-add built_in (relations_from q g 0 (g.rels + g.chosen + g.every)) j no_relation ∙ relation_at_lem q g 0 (g.rels + g.chosen + g.every) j no_relation l ∙ ap (relation_in q g) (zero-add j)

    -- a relation whose tuples are set or marked is none of those built in
    place : (r : ℕ) → r < length (problem_of c).relations → T (is_moved (relation_at (problem_of c) r).kind) → (j : ℕ) × (r ≡ 5 + j) × (j < g.rels + g.chosen + g.every)
    unfolding every_number problem_of problem_with
    place r h t =
        let a = first_chosen_lem c.question in
        let n = count_is in
        let low : 5 ≤ r =
        ⊎_elim (λ b. let (j, e, l) = chosen_index c A r h b in omega arith) (λ b. let e = ((good c A).every_one r h b).0 in omega arith)
        (T_or (is_chosen (relation_at (problem_of c) r).kind) (is_universal (relation_at (problem_of c) r).kind) t) in
        (r - 5, omega arith, omega arith)

    pub names_are : NamesAre (problem_of c) q names
    unfolding name_in relation_in
    names_are = record {
      fit = names_fit;
      name = λ r h t. let (j, e, l) = place r h t in subst (λ (r : ℕ). name_in q names r ≡ (relation_at (problem_of c) r).name) (sym e) (name_of_lem j l);
      arity = λ r h t. let (j, e, l) = place r h t in subst (λ (r : ℕ). get_or names (3 * r + 2) 0 ≡ (relation_at (problem_of c) r).arity) (sym e) (arity_of_lem j l);
    }
      where
        name_of_lem : (j : ℕ) → j < g.rels + g.chosen + g.every → name_in q names (5 + j) ≡ (relation_at (problem_of c) (5 + j)).name
        name_of_lem j l =
            let (a, b, _) = N.told j l in
            let d : 3 * (5 + j) ≡ 15 + 3 * j = omega arith in
            ap (λ (k : ℕ). take (get_or names (k + 1) 0 - get_or names k 0) (drop (get_or names k 0) q)) d
            ∙ ap₂ (λ (x y : ℕ). take (y - x) (drop x q)) a b ∙ sym (part_is (get_or g.from j 0) (get_or g.to j 0) q) ∙ ap (λ (k : Relation). k.name) (sym (relation_is j l))

        arity_of_lem : (j : ℕ) → j < g.rels + g.chosen + g.every → get_or names (3 * (5 + j) + 2) 0 ≡ (relation_at (problem_of c) (5 + j)).arity
        arity_of_lem j l =
            let (_, _, a) = N.told j l in
            let d : 3 * (5 + j) ≡ 15 + 3 * j = omega arith in
            ap (λ (k : ℕ). get_or names (k + 2) 0) d ∙ a ∙ ap (λ (k : Relation). k.arity) (sym (relation_is j l))
