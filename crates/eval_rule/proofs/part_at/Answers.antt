use mathlib.Core.Path.{refl}
use Rattle.eval_rule.specs.Lines.{part_in}
use Rattle.eval_rule.proofs.part_at.Goals as goal

pub returns : goal.returns
unfolding part_in
returns c = refl
