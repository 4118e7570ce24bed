-- `step_prove::put` meets its contract.
use mathlib.Core.Path.{sym, ap, ◌∙◌}
use native.Mathlib.Omega.{arith}
use native.Mathlib.Nat.{mod-eq_of_lt}
use lib.Bits.{and_mask}
use lib.Seq.{set_out}
use lib.ListN.{set}
use Rattle.step_prove.proofs.put.Goals as goal

pub overflow_cast-steps : goal.overflow_cast-steps
overflow_cast-steps c = omega (arith, and_mask c.args.k 32)

pub returns-then-at-steps : goal.returns-then-at-steps
returns-then-at-steps c = λ h. ap (set c.args.steps.now c.args.at) (and_mask c.args.k 32 ∙ mod-eq_of_lt h)

pub returns-else-at-steps : goal.returns-else-at-steps
returns-else-at-steps c = λ h. sym (set_out _ _ _ (omega arith))
