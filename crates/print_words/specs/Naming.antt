-- The table of names that a question's signature gives has the names of the case's relations. Assumes nothing.
use Rattle.std.specs.Prelude.{ℕ, ◌+◌, ◌-◌, ◌*◌, ◌<◌, ◌≡◌, Bool, true, false, ltb, length, drop}
use Rattle.std.proofs.Math.Path.{refl, sym, ap, ap₂}
use Rattle.std.proofs.Common.{subst, ◌∙◌, zero-add, length-append, ltb-true, ltb-false}
use mathlib.Core.List.{List, ◌++◌}
use native.Mathlib.Omega.{arith}
use Rattle.std.proofs.Math.ListN.{get_or, take, get_or-append}
use Rattle.std.proofs.Math.Seq.{get_or-append-add}
use Rattle.definitions.specs.Sheet.Relations.{Relation, built_in}
use Rattle.definitions.specs.Sheet.Sheets.{relations_of}
use Rattle.definitions.specs.Problem.Truth.{Case}
use Rattle.definitions.specs.Reply.Lifted.{relation_in}
use Rattle.laws.specs.Numbers.{no_relation}
use Rattle.print_line.specs.Lines.{part_is}
use Rattle.read_names.specs.declared.Signature.{Signature}
use Rattle.read_names.specs.Signatures as S
use Rattle.read_names.proofs.Laws.{all_are, relation_at_lem, length_relations}
use Rattle.print_page.specs.Elements.{name_in}
use Rattle.print_page.specs.Naming.{Named, names_fit}
use Rattle.print_words.specs.Words.{built_in_name, name_from, name_low, name_high, NamesOf}

module _ (q : List ℕ) (g : Signature) (names : List ℕ) (sound : S.SoundSignature q g) (N : Named g.from g.to g.arity (g.rels + g.chosen + g.every) names)
    (c : Case) (rels_are : c.question.rels ≡ S.rels_of q g) (chosen_are : c.question.chosen ≡ S.chosen_of q g) (every-are : c.question.every ≡ S.every_of q g) where
  abbrev m : ℕ
  m = g.rels + g.chosen + g.every

  all_relations : relations_of c.question ≡ built_in ++ S.relations_from q g 0 m
  unfolding relations_of S.all_of
  all_relations = rw (rels_are, chosen_are, every-are) (all_are q g sound.every_le)

  five : length built_in ≡ 5
  unfolding built_in
  five = refl

  count : length (relations_of c.question) ≡ 5 + m
  count = ap length all_relations ∙ length-append built_in (S.relations_from q g 0 m) ∙ ap₂ ◌+◌ five (length_relations q g 0 m)

  low : (r : ℕ) → r < 5 → built_in_name r ≡ (relation_in c r).name
  unfolding built_in_name relation_in
  low r h = ap (λ (k : Relation). k.name) (sym (ap (λ (ks : List Relation). get_or ks r no_relation) all_relations ∙ get_or-append built_in (S.relations_from q g 0 m) no_relation r (omega (arith, five))))

  high : (j : ℕ) → j < m → name_in q names (5 + j) ≡ (relation_in c (5 + j)).name
  unfolding name_in relation_in S.relation_in built_in
  high j l =
      let (a, b, _) = N.told j l in
      let d : 3 * (5 + j) ≡ 15 + 3 * j = omega arith in
      ap (λ (k : ℕ). take (get_or names (k + 1) 0 - get_or names k 0) (drop (get_or names k 0) q)) d
      ∙ ap₂ (λ (x y : ℕ). take (y - x) (drop x q)) a b ∙ sym (part_is (get_or g.from j 0) (get_or g.to j 0) q)
      ∙ ap (λ (k : Relation). k.name) (sym (ap (λ (ks : List Relation). get_or ks (5 + j) no_relation) all_relations
      ∙ get_or-append-add built_in (S.relations_from q g 0 m) j no_relation ∙ relation_at_lem q g 0 m j no_relation l ∙ ap (S.relation_in q g) (zero-add j)))

  pub names_of : NamesOf c q names
  names_of = record { fit = names_fit q g names sound N; name = λ r h. by_test r h (ltb r 5) refl }
    where
      by_test : (r : ℕ) → r < length (relations_of c.question) → (b : Bool) → ltb r 5 ≡ b → name_from q names r ≡ (relation_in c r).name
      by_test r h true e = let l = ltb-true r 5 e in name_low q names r l ∙ low r l
      by_test r h false e =
          let l = ltb-false r 5 e in
          let d : 5 + (r - 5) ≡ r = omega arith in
          name_high q names r l ∙ subst (λ (k : ℕ). name_in q names k ≡ (relation_in c k).name) d (high (r - 5) (omega (arith, count)))
