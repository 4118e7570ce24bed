use mathlib.Core.Path.{◌≡◌, sym, ◌∙◌}
use native.Mathlib.Omega.{arith}
use borrow.Author.Rules.{rules}
use Rattle.step_picks.specs.WordLaws.{words_few}
use Rattle.step_picks.specs.Copies.{picks_in}
use Rattle.step_picks.specs.CopyLaws.{count_start, count_next, count_end, picks_in_lem}
use Rattle.step_picks.proofs.picks_length.Goals as goal

pub loop-r-init : goal.loop-r-init
loop-r-init c = (omega arith, omega arith, count_start _, search rules, search rules)

pub bounds-table-1 : goal.bounds-table-1
bounds-table-1 c = omega arith

pub words_in-sum-requires : goal.words_in-sum-requires
words_in-sum-requires c = (words_few _ _ c.requires _ c.relation_line-line.ensures).2

pub overflow_add-sum : goal.overflow_add-sum
overflow_add-sum c = omega (arith, c.words_in-sum.ensures, (words_few _ _ c.requires _ c.relation_line-line.ensures).3)

pub loop-r-preserved : goal.loop-r-preserved
loop-r-preserved c = (
  omega arith,
  omega (arith, c.words_in-sum.ensures, (words_few _ _ c.requires _ c.relation_line-line.ensures).3),
  omega (arith, c.loop-r.invariant.2, c.words_in-sum.ensures, count_next _ _ _ c.loop-r.sum _ c.relation_line-line.ensures c.loop-r-test.true),
  c.loop-r.invariant.3,
  c.loop-r.invariant.4,
)

pub returns : goal.returns
returns c =
    let e : c.loop-r.sum ≡ picks_in c.args.table.now = sym (count_end _ _ _ _ (omega arith)) ∙ c.loop-r.invariant.2 in
    record { lines = e; picks = λ p is. e ∙ picks_in_lem p _ is }
