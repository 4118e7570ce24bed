-- `row_at` meets its contract.
use mathlib.Core.Path.{refl}
use Rattle.rule_nodes.specs.Postorder.{row_at}
use Rattle.rule_nodes.proofs.row_at.Goals as goal

pub returns : goal.returns
unfolding row_at
returns c = refl
