use mathlib.Core.Path.{refl}
use Rattle.eval_rule.specs.Lines.{line_in}
use Rattle.eval_rule.proofs.line_at.Goals as goal

pub returns : goal.returns
unfolding line_in
returns c = refl
