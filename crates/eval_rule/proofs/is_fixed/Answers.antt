use Rattle.eval_rule.specs.Laws.{fixed_at}
use Rattle.eval_rule.proofs.is_fixed.Goals as goal

pub returns : goal.returns
returns c = fixed_at c.args.lines.now c.args.i c.args.level c.requires.2
