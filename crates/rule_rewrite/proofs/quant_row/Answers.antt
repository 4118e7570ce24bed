-- `quant_row` meets its contract.
use mathlib.Core.Path.{refl}
use Rattle.rule_nodes.specs.Postorder.{pad}
use Rattle.rule_rewrite.proofs.quant_row.Goals as goal

pub returns : goal.returns
unfolding pad
returns c = refl
