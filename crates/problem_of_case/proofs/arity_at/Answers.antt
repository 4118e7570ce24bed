-- `problem_of_case::arity_at` meets its contract.
use native.Mathlib.Omega.{arith}
use Rattle.problem_of_case.specs.NumberedLaws.{two_places, one_place, arity_of_lem}
use Rattle.problem_of_case.proofs.arity_at.Goals as goal

pub returns-then-r-lt3 : goal.returns-then-r-lt3
returns-then-r-lt3 c = λ g e h one. two_places g one _ (omega arith)

pub returns-then-r-lt5 : goal.returns-then-r-lt5
returns-then-r-lt5 c = λ g e h one. one_place g one _ (omega arith) (omega arith)

pub returns : goal.returns
returns c = arity_of_lem _ (omega arith) _
