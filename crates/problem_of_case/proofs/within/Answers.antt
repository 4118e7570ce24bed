-- `problem_of_case::within` meets its contract.
use native.Mathlib.Omega.{arith}
use mathlib.Core.Path.{refl}
use Rattle.problem_sizes.specs.Sums.{refusal_in}
use Rattle.problem_of_case.proofs.within.Goals as goal

pub returns-in_default : goal.returns-in_default
unfolding refusal_in
returns-in_default c = rw c.at-in_default.ensures (grind arith, refl)
