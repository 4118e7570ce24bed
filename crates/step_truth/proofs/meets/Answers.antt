use native.Mathlib.Omega.{arith}
use Rattle.step_truth.specs.WordLaws.{meets_yes, meets_no}
use Rattle.step_truth.proofs.meets.Goals as goal

pub returns-then-lowest-lt64 : goal.returns-then-lowest-lt64
returns-then-lowest-lt64 c = λ ms I. meets_yes _ _ ms I _ c.lowest.ensures (omega arith)

pub returns : goal.returns
returns c = λ ms I. meets_no _ _ ms I _ c.lowest.ensures (omega arith)
