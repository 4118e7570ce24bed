use mathlib.Core.Path.{sym, ◌∙◌}
use native.Mathlib.Omega.{arith}
use borrow.Author.Rules.{rules}
use Rattle.step_picks.specs.WordLaws.{words_few}
use Rattle.step_picks.specs.Tests.{told}
use Rattle.step_picks.specs.Spare.{spare_start, spare_yes, spare_no, spare_end}
use Rattle.step_picks.proofs.spare_word.Goals as goal

pub loop-r-init : goal.loop-r-init
loop-r-init c = (omega arith, omega arith, λ p is. spare_start p _, search rules, search rules)

pub bounds-table-1 : goal.bounds-table-1
bounds-table-1 c = omega arith

pub has_spare-requires : goal.has_spare-requires
has_spare-requires c = (omega arith, (words_few _ _ c.requires _ c.relation_line-line.ensures).2)

pub overflow_add-result : goal.overflow_add-result
overflow_add-result c = omega (arith, c.tuples_in.ensures, (words_few _ _ c.requires _ c.relation_line-line.ensures).2)

pub returns-then-has_spare : goal.returns-then-has_spare
unfolding told
returns-then-has_spare c =
    λ p is. sym (c.loop-r.invariant.2 p is ∙ spare_yes p _
    (λ j. omega (arith, c.type_inv.picks j)) _ _ (omega (arith, is.relations)) _ is _
    c.relation_line-line.ensures (sym c.has_spare.ensures ∙ c.if-has_spare.true) _ c.tuples_in.ensures)

pub words_in-word-requires : goal.words_in-word-requires
words_in-word-requires c = (words_few _ _ c.requires _ c.relation_line-line.ensures).2

pub overflow_add-word : goal.overflow_add-word
overflow_add-word c = omega (arith, c.words_in-word.ensures, (words_few _ _ c.requires _ c.relation_line-line.ensures).3)

pub loop-r-preserved : goal.loop-r-preserved
loop-r-preserved c =
    let relation-line = c.relation_line-line in (
      omega arith,
      omega (arith, c.words_in-word.ensures, (words_few _ _ c.requires _ relation-line.ensures).3),
      λ p is. c.loop-r.invariant.2 p is ∙ spare_no p _
          (λ j. omega (arith, c.type_inv.picks j)) _ _ (omega (arith, is.relations)) _ is _ relation-line.ensures
          (sym c.has_spare.ensures ∙ c.if-has_spare.false) _ c.words_in-word.ensures,
      c.loop-r.invariant.3,
      c.loop-r.invariant.4,
    )

pub returns : goal.returns
unfolding told
returns c = λ p is. sym (c.loop-r.invariant.2 p is ∙ spare_end p _ _ _ (omega (arith, is.relations)))
