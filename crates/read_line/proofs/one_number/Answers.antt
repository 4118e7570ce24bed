-- `read_line::one_number` meets its contract.
use Rattle.read_line.proofs.Fields.{number_none, number_one}
use Rattle.read_line.proofs.one_number.Goals as goal

pub returns-then-one : goal.returns-then-one
returns-then-one c = number_one _ _ _ _ c.if-one.true c.one.ensures _ c.number.ensures

pub returns-else-one : goal.returns-else-one
returns-else-one c = number_none _ _ _ _ c.if-one.false c.one.ensures
