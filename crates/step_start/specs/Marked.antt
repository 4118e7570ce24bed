-- The words that a site's reader leaves, a bit for each fact, hold the facts of the case's problem.
use Rattle.std.specs.Prelude.{◌≡◌, Bool, false, T}
use Rattle.std.proofs.Math.Path.{refl, sym, ap, ap₂, subst}
use Rattle.std.proofs.Common.{◌∙◌, add-suc, get_or-append-add}
use mathlib.Core.List.Memᴰ
use mathlib.Core.List.{List, [], ◌++◌, Memᴰ}
use Rattle.std.proofs.Math.Logic.{⊎_elim}
use Prim.Native.Nat.{ℕ, zero, suc, ◌+◌, ◌-◌, ◌*◌, ◌^◌, ◌≤◌, ◌<◌}
use native.Mathlib.Omega.{arith}
use borrow.Author.Tests.{lt-ltb, le-ltb}
use Rattle.std.proofs.Math.ListN.{length, get_or, length-append, get_or-append}
use Rattle.definitions.specs.Lists.{any, listed}
use Rattle.definitions.specs.Sheet.Relations.{Kind, static, is_chosen, is_universal, Relation, built_in, Tuple, is_among}
use Rattle.definitions.specs.Sheet.Sheets.{relations, relations_of}
use Rattle.definitions.specs.Problem.Truth.{Case}
use Rattle.definitions.specs.Problem.Atoms.{problem_of, problem_with, places_of, relation_at, tuples_of, tuple_holds, words_for}
use Rattle.meaning.specs.Grounded.{first_chosen_lem, rel_literal, choose_literal}
use Rattle.laws.specs.Lists.{get_or_mem}
use Rattle.laws.specs.Numbers.{no_relation}
use Rattle.bits.specs.Table.{bit}
use Rattle.read_names.specs.declared.Signature.{Signature}
use Rattle.read_names.specs.Signatures.{relation_in, rels_of}
use Rattle.read_names.proofs.Laws.{length_relations, relation_at_lem}
use Rattle.read_tuples.specs.Marks.{first_word, bit_of, marks, AllValid}
use Rattle.read_tuples.proofs.Words.{tuple_at, mark_bit}
use Rattle.step_start.specs.Parts.{lt_or_le}
use Rattle.step_start.specs.Initial.{fact_word, FactsIn}

built_static : (r : ℕ) → r < 5 → (get_or built_in r no_relation).kind ≡ static
unfolding built_in
built_static zero h = refl
built_static (suc zero) h = refl
built_static (suc (suc zero)) h = refl
built_static (suc (suc (suc zero))) h = refl
built_static (suc (suc (suc (suc zero)))) h = refl
built_static (suc (suc (suc (suc (suc r))))) h = absurd (omega arith)

five : length built_in ≡ 5
unfolding built_in
five = refl

not_both : (d : Kind) → d ≡ static → T (is_chosen d) → ⊥
unfolding is_chosen
not_both d e t = subst (λ (k : Kind). T (is_chosen k)) e t

not_every : (d : Kind) → d ≡ static → T (is_universal d) → ⊥
unfolding is_universal
not_every d e t = subst (λ (k : Kind). T (is_universal k)) e t

module _ (c : Case) (s : List ℕ) (g : Signature) (f : List ℕ)
    (its-rels : c.question.rels ≡ rels_of s g)
    (rels-static : (k : Relation) → Memᴰ k c.question.rels → k.kind ≡ static)
    (chosen_are : (k : Relation) → Memᴰ k c.question.chosen → T (is_chosen k.kind))
    (every_is : (k : Relation) → Memᴰ k (listed c.question.every) → T (is_universal k.kind))
    (element : 0 < c.site.size)
    (valid : AllValid g c.site.size 0 g.rels c.site.facts)
    (its_bits : bit f ≡ marks (bit_of g c.site.size 0) c.site.facts) where
  abbrev n : ℕ
  n = c.site.size

  abbrev rels : List Relation
  rels = c.question.rels

  -- those that are no `rel`
  abbrev others : List Relation
  others = c.question.chosen ++ listed c.question.every

  other_is : (k : Relation) → Memᴰ k others → k.kind ≡ static → ⊥
  other_is k m e = ⊎_elim (λ q. not_both k.kind e (chosen_are k q)) (λ q. not_every k.kind e (every_is k q)) (Memᴰ.append_cases c.question.chosen m)

  many_rels : length rels ≡ g.rels
  unfolding rels_of
  many_rels = ap length its-rels ∙ length_relations s g 0 g.rels

  -- ---- the relations by number
  relation_is : (r : ℕ) → relation_at (problem_of c) r ≡ get_or (built_in ++ (rels ++ others)) r no_relation
  unfolding relation_at problem_of problem_with relations_of relations
  relation_is r = refl

  relations_many : length (problem_of c).relations ≡ 5 + (length rels + length others)
  unfolding problem_of problem_with relations_of relations
  relations_many = length-append built_in (rels ++ others) ∙ ap₂ ◌+◌ five (length-append rels others)

  built_at : (r : ℕ) → r < 5 → relation_at (problem_of c) r ≡ get_or built_in r no_relation
  built_at r h = relation_is r ∙ get_or-append built_in (rels ++ others) no_relation r (omega (arith, five))

  rel_at : (j : ℕ) → j < g.rels → relation_at (problem_of c) (5 + j) ≡ get_or rels j no_relation
  rel_at j h =
      relation_is (5 + j) ∙ ap (λ (k : ℕ). get_or (built_in ++ (rels ++ others)) (k + j) no_relation) (sym five)
      ∙ get_or-append-add built_in (rels ++ others) j no_relation ∙ get_or-append rels others no_relation j (omega (arith, many_rels))

  other_at : (j : ℕ) → relation_at (problem_of c) (5 + (g.rels + j)) ≡ get_or others j no_relation
  other_at j =
      relation_is (5 + (g.rels + j)) ∙ ap₂ (λ (k m : ℕ). get_or (built_in ++ (rels ++ others)) (k + (m + j)) no_relation) (sym five) (sym many_rels)
      ∙ get_or-append-add built_in (rels ++ others) (length rels + j) no_relation ∙ get_or-append-add rels others j no_relation

  rel_arity : (j : ℕ) → j < g.rels → (relation_at (problem_of c) (5 + j)).arity ≡ get_or g.arity j 0
  unfolding rels_of relation_in
  rel_arity j h =
      let e : 0 + j ≡ j = omega arith in
      ap (λ (k : Relation). k.arity) (rel_at j h ∙ ap (λ (ks : List Relation). get_or ks j no_relation) its-rels ∙ relation_at_lem s g 0 g.rels j no_relation h)
      ∙ ap (λ (i : ℕ). get_or g.arity i 0) e

  -- ---- the first words
  no_words : (r : ℕ) → r ≤ 5 → fact_word (problem_of c) r ≡ 0
  unfolding fact_word
  no_words zero h = refl
  no_words (suc r) h = rw (lt-ltb r 5 (omega arith)) (omega (arith, no_words r (omega arith)))

  first_word_lem : (j : ℕ) → j ≤ g.rels → fact_word (problem_of c) (5 + j) ≡ first_word g n 0 j
  unfolding fact_word first_word tuples_of problem_of problem_with
  first_word_lem zero h = no_words 5 (omega arith)
  first_word_lem (suc j) h =
      let z : 0 + j ≡ j = omega arith in
      rw (add-suc 5 j, le-ltb (5 + j) 5 (omega arith), z)
      (ap₂ (λ (x k : ℕ). x + words_for (n ^ k)) (first_word_lem j (omega arith)) (rel_arity j (omega arith)))

  -- ---- tuples
  abbrev at : ℕ → ℕ → Tuple
  at r row = record { relation = r; places = places_of n (relation_at (problem_of c) r).arity row }

  tuple_fact : (j row : ℕ) → j < g.rels → tuple_holds (problem_of c) (5 + j) row ≡ is_among (at (5 + j) row) c.site.facts
  unfolding tuple_holds problem_of problem_with
  tuple_fact j row h = rel_literal c [] (5 + j) _ (omega arith) (let f = first_chosen_lem c.question in omega (arith, many_rels))

  -- of a `choose` none holds while nothing is picked
  no_tuple : (r row : ℕ) → 5 + g.rels ≤ r → tuple_holds (problem_of c) r row ≡ false
  unfolding tuple_holds problem_of problem_with is_among any
  no_tuple r row h = choose_literal c [] r _ (let f = first_chosen_lem c.question in omega (arith, many_rels))

  its_tuple : (j row : ℕ) → j < g.rels → tuple_at g n 0 g.rels j row ≡ at (5 + j) row
  unfolding tuple_at
  its_tuple j row h =
      let e : 5 + 0 + j ≡ 5 + j = omega arith in
      let z : 0 + j ≡ j = omega arith in
      ap₂ (λ (r k : ℕ). record { relation = r; places = places_of n k row }) e (ap (λ (i : ℕ). get_or g.arity i 0) z ∙ sym (rel_arity j h))

  rel_bit : (j row : ℕ) → j < g.rels → row < tuples_of n (relation_at (problem_of c) (5 + j)) → bit f (64 * fact_word (problem_of c) (5 + j) + row) ≡ tuple_holds (problem_of c) (5 + j) row
  unfolding tuples_of
  rel_bit j row h l =
      let z : 0 + j ≡ j = omega arith in
      let k : row < n ^ get_or g.arity (0 + j) 0 = subst (λ (x : ℕ). row < n ^ x) (rel_arity j h ∙ ap (λ (i : ℕ). get_or g.arity i 0) (sym z)) l in
      ap₂ (λ (b : ℕ → Bool) (x : ℕ). b (64 * x + row)) its_bits (first_word_lem j (omega arith))
      ∙ mark_bit g n 0 g.rels c.site.facts valid j row element h k ∙ ap (λ (t : Tuple). is_among t c.site.facts) (its_tuple j row h) ∙ sym (tuple_fact j row h)

  -- ---- by kind
  is_other : (j : ℕ) → 5 + (g.rels + j) < length (problem_of c).relations → (relation_at (problem_of c) (5 + (g.rels + j))).kind ≡ static → ⊥
  is_other j h =
      subst (λ (k : Relation). k.kind ≡ static → ⊥) (sym (other_at j)) (other_is (get_or others j no_relation) (get_or_mem others j no_relation (omega (arith, relations_many, many_rels))))

  is_static_lem : (r : ℕ) → r < 5 + g.rels → (relation_at (problem_of c) r).kind ≡ static
  is_static_lem r h = ⊎_elim
      (λ l. ap (λ (k : Relation). k.kind) (built_at r l) ∙ built_static r l)
      (λ l. let e : r ≡ 5 + (r - 5) = omega arith in
      ap (λ (k : Relation). k.kind) (ap (relation_at (problem_of c)) e ∙ rel_at (r - 5) (omega arith)) ∙ rels-static (get_or rels (r - 5) no_relation) (get_or_mem rels (r - 5) no_relation (omega (arith, many_rels))))
      (lt_or_le r 5)

  pub facts_in : FactsIn (problem_of c) f
  unfolding problem_of problem_with
  facts_in = record { sized = refl; built = built_at; fact = fact; unpicked = unpicked }
    where
      fact : (r row : ℕ) → 5 ≤ r → r < length (problem_of c).relations → row < tuples_of n (relation_at (problem_of c) r) → (relation_at (problem_of c) r).kind ≡ static
          → bit f (64 * fact_word (problem_of c) r + row) ≡ tuple_holds (problem_of c) r row
      fact r row h l q e = ⊎_elim
          (λ k. let z : 5 + (r - 5) ≡ r = omega arith in
          subst (λ (x : ℕ). bit f (64 * fact_word (problem_of c) x + row) ≡ tuple_holds (problem_of c) x row) z
          (rel_bit (r - 5) row (omega arith) (subst (λ (x : ℕ). row < tuples_of n (relation_at (problem_of c) x)) (sym z) q)))
          (λ k. let z : r ≡ 5 + (g.rels + (r - 5 - g.rels)) = omega arith in
          absurd (subst (λ (x : ℕ). (relation_at (problem_of c) x).kind ≡ static → ⊥) (sym z) (is_other (r - 5 - g.rels) (omega arith)) e))
          (lt_or_le r (5 + g.rels))

      unpicked : (r row : ℕ) → r < length (problem_of c).relations → row < tuples_of n (relation_at (problem_of c) r) → T (is_chosen (relation_at (problem_of c) r).kind)
          → tuple_holds (problem_of c) r row ≡ false
      unpicked r row l q t = ⊎_elim
          (λ k. absurd (not_both (relation_at (problem_of c) r).kind (is_static_lem r k) t))
          (λ k. no_tuple r row k)
          (lt_or_le r (5 + g.rels))
