-- Document 02, jobs 4 and 5, for a question that uses no types: that no variable of its rule has one, that no relation was given any, and
-- a case without its `type` and `member` lines.
use Rattle.std.specs.Prelude.{Bool, true, false, ◌&&◌, [], eqb}
use Rattle.definitions.specs.Lists.{all, option}
use Rattle.definitions.specs.Sheet.Relations.{Relation}
use Rattle.definitions.specs.Sheet.Formula.{Quantified, Formula, Formulas, literal, negation, implication, conjunction, disjunction, exists, forall, nil, cons}
use Rattle.definitions.specs.Sheet.Sheets.{Question, relations_of}
use Rattle.definitions.specs.Problem.Truth.{Case}

unfoldable pub has_no_type : Quantified → Bool
has_no_type q = option q.type true (λ _. false)

unfoldable mutual
  pub is_untyped : Formula → Bool
  is_untyped (literal r vs) = true
  is_untyped (negation f) = is_untyped f
  is_untyped (implication f g) = is_untyped f && is_untyped g
  is_untyped (conjunction fs) = are_untyped fs
  is_untyped (disjunction fs) = are_untyped fs
  is_untyped (exists qs f) = all has_no_type qs && is_untyped f
  is_untyped (forall qs f) = all has_no_type qs && is_untyped f

  pub are_untyped : Formulas → Bool
  are_untyped nil = true
  are_untyped (cons f fs) = is_untyped f && are_untyped fs

unfoldable pub has_no_sorts : Relation → Bool
has_no_sorts k = eqb k.firsts 0 && eqb k.seconds 0

unfoldable pub uses_no_types : Question → Bool
uses_no_types q = is_untyped q.rule.formula && all has_no_sorts (relations_of q)

-- all else stays: the relations, the rule, the elements and the facts
unfoldable pub untyped : Case → Case
untyped c =
    let q = c.question in
    record {
      question = record { rels = q.rels; types = []; chosen = q.chosen; every = q.every; rule = q.rule };
      site = record { size = c.site.size; members = []; facts = c.site.facts };
    }
