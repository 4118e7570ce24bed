-- `read_question::sort_named` meets its contract.
use native.Mathlib.Omega.{arith}
use Rattle.read_question.proofs.Judging.{sort_found, sort_missed, type_few}
use Rattle.read_question.proofs.sort_named.Goals as goal

pub overflow_add-result : goal.overflow_add-result
overflow_add-result c = omega (arith, type_few _ _ _ _ _ _ c.type_named-f.ensures _ c.in-Some.is)

pub overflow_cast-result : goal.overflow_cast-result
overflow_cast-result c = omega (arith, type_few _ _ _ _ _ _ c.type_named-f.ensures _ c.in-Some.is)

pub returns-in-Some : goal.returns-in-Some
returns-in-Some c = sort_found _ _ _ _ _ _ c.type_named-f.ensures _ c.in-Some.is

pub returns-in-None : goal.returns-in-None
returns-in-None c = sort_missed _ _ _ _ _ _ c.type_named-f.ensures c.in-None.is
