-- `print_plan::along` meets its contract. Assumes nothing.
use native.Mathlib.Omega.{arith}
use Rattle.print_plan.specs.Lines.{along_first, along_next}
use Rattle.print_plan.proofs.along.Goals as goal

pub returns-then-t-eq0 : goal.returns-then-t-eq0
returns-then-t-eq0 c = (omega (arith, c.free.ensures.0), along_first c.args.table.now c.args.t.node c.args.t.row c.args.t.choice _ c.if-t-eq0.true c.free.ensures.1)

pub returns : goal.returns
returns c = (omega (arith, c.free_and-count.ensures.0), along_next c.args.table.now c.args.t.node c.args.t.row c.args.t.choice c.free_and-count.result _ c.if-t-eq0.false (omega (arith, c.free_and-count.ensures.0, c.requires.2)) c.free_and-count.ensures.1)
