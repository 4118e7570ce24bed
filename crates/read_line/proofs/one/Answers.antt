-- `read_line::one` meets its contract.
use Rattle.read_line.proofs.Fields.{one_tab}
use native.Mathlib.Omega.{arith}
use Rattle.read_line.proofs.one.Goals as goal

pub returns : goal.returns
returns c = one_tab _ _ _ (omega arith) (omega arith) _ c.find.ensures
