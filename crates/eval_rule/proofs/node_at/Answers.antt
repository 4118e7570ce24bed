use mathlib.Core.Path.{refl}
use Rattle.eval_rule.specs.Lines.{node_in}
use Rattle.eval_rule.proofs.node_at.Goals as goal

pub returns : goal.returns
unfolding node_in
returns c = refl
