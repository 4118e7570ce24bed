use mathlib.Core.Path.{refl}
use native.Mathlib.Omega.{arith}
use lib.ListN.{take}
use Rattle.definitions.specs.Reply.Desk.{step_line}
use Rattle.print_line.specs.Printed.{begin, recut, room_for, next as then, finished}
use Rattle.print_line.specs.Lines.{first_step, no_step}
use Rattle.print_line.proofs.step_lines.Goals as goal

pub loop-k-init : goal.loop-k-init
loop-k-init c = begin _ refl c.requires.1

pub step_line-next-requires : goal.step_line-next-requires
step_line-next-requires c = room_for (step_line _) _ (recut (first_step (take c.args.n c.args.steps.now) c.loop-k.k-index c.loop-k-test.true) c.loop-k.invariant)

pub loop-k-preserved : goal.loop-k-preserved
loop-k-preserved c = then (step_line _) _ (recut (first_step (take c.args.n c.args.steps.now) c.loop-k.k-index c.loop-k-test.true) c.loop-k.invariant) c.step_line-next.ensures

pub returns : goal.returns
returns c = finished (recut (no_step (take c.args.n c.args.steps.now) c.loop-k.k-index (omega arith)) c.loop-k.invariant)
