use mathlib.Core.Path.{◌≡◌, sym, ◌∙◌}
use native.Mathlib.Omega.{arith}
use Rattle.problem_layout.specs.Laid.{range_by}
use Rattle.problem_layout.specs.RangeLaws.{count_none, count_yes, count_no}
use Rattle.problem_layout.proofs.range_of.Goals as goal
use Rattle.problem_layout.proofs.range_of.Goals.{then-get, else-get}

pub loop-x-init : goal.loop-x-init
loop-x-init c = (omega arith, count_none _ _ c.requires.0, c.requires.3)

pub get-requires : goal.get-requires
get-requires c = omega (arith, c.requires.1, c.requires.2, c.loop-x-test.true)

pub overflow_add-count : goal.overflow_add-count
overflow_add-count c = omega (arith, c.loop-x.invariant.1.few, c.requires.1, c.loop-x.invariant.0)

pub loop-x-preserved : goal.loop-x-preserved
loop-x-preserved c =
    let l = c.loop-x in (
      omega arith,
      elim c.if-get.branch [
        | then-get w ↦ count_yes _ _ _ _ _ _ _ l.invariant.1 (omega arith) (sym c.get.ensures ∙ w.if-get.true) w.count-is w.top-is
        | else-get w ↦ count_no _ _ _ _ _ _ _ l.invariant.1 (sym c.get.ensures ∙ w.if-get.false) w.count-is w.top-is
      ],
      l.invariant.2,
    )

pub returns : goal.returns
unfolding range_by
returns c = let l = c.loop-x in let e : l.x ≡ c.args.n = omega arith in let k = l.invariant.1 in (rw e at k.count_is, rw e at k.top_is, omega (arith, k.few), k.low)
