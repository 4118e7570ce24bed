use native.Mathlib.Omega.{arith}
use Rattle.print_plan.specs.Plans.{smaller}
use Rattle.print_plan.proofs.missing.Goals as goal

pub loop-i-init : goal.loop-i-init
loop-i-init c = λ j h. absurd (omega arith)

pub returns-then-actions-k : goal.returns-then-actions-k
returns-then-actions-k c = record { within = omega arith; small = c.loop-i.invariant; large = λ h. omega arith }

pub loop-i-preserved : goal.loop-i-preserved
loop-i-preserved c = smaller c.args.steps.now c.args.actions c.loop-i.i c.loop-i.invariant (omega arith)

pub returns : goal.returns
returns c = record { within = omega arith; small = λ j h. c.loop-i.invariant j (omega arith); large = λ h. absurd (omega arith) }
