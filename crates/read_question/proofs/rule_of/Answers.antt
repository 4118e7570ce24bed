-- `read_question::rule_of` meets its contract: the question's own answer says where its rule lies in the text.
use Rattle.read_question.proofs.Ending.{part_read, part_none}
use native.Mathlib.Omega.{arith}
use Rattle.read_question.proofs.rule_of.Goals as goal

pub returns-in-Ok : goal.returns-in-Ok
returns-in-Ok c = part_read _ _ c.in-Ok.ensures

pub returns-in-Err : goal.returns-in-Err
returns-in-Err c = let w = part_none _ _ c.in-Err.ensures in (omega arith, omega arith, w.0, w.1)
