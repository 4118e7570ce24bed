use mathlib.Core.Path.{◌≡◌, sym, ◌∙◌}
use native.Mathlib.Omega.{arith}
use Rattle.problem_layout.specs.Laid.{range_by}
use Rattle.problem_layout.specs.RangeLaws.{write_none, write_yes, write_no}
use Rattle.problem_layout.proofs.fill_members.Goals as goal
use Rattle.problem_layout.proofs.fill_members.Goals.{then-get, else-get}

pub loop-x-init : goal.loop-x-init
loop-x-init c = (omega arith, write_none _ _ _, c.requires.3)

pub get-requires : goal.get-requires
get-requires c = omega (arith, c.requires.1, c.requires.2, c.loop-x-test.true)

pub bounds-table-at : goal.bounds-table-at
bounds-table-at c = let k = c.loop-x.invariant.1 in omega (arith, c.requires.0, k.few, k.same, c.loop-x-test.true)

pub loop-x-preserved : goal.loop-x-preserved
loop-x-preserved c =
    let l = c.loop-x in (
      omega arith,
      elim c.if-get.branch [
        | then-get w ↦ write_yes _ _ _ _ _ _ _ _ l.invariant.1 (sym c.get.ensures ∙ w.if-get.true) (omega (arith, c.requires.0)) w.table-is w.i-is
        | else-get w ↦ write_no _ _ _ _ _ _ _ _ l.invariant.1 (sym c.get.ensures ∙ w.if-get.false) w.table-is w.i-is
      ],
      l.invariant.2,
    )

pub shape_of-table : goal.shape_of-table
shape_of-table c = c.loop-x.invariant.1.same

pub returns : goal.returns
unfolding range_by
returns c = let l = c.loop-x in let e : l.x ≡ c.args.n = omega arith in rw e at l.invariant.1.is
