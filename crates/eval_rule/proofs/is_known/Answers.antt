use mathlib.Core.Path.{◌∙◌}
use Rattle.eval_rule.specs.Laws.{known_fixed, known_not}
use Rattle.eval_rule.proofs.is_known.Goals as goal

pub returns-then-fixed : goal.returns-then-fixed
returns-then-fixed c = known_fixed c.args.fixed c.args.i c.args.seen c.if-fixed.true

pub returns-else-fixed : goal.returns-else-fixed
returns-else-fixed c = c.if-fixed.false ∙ known_not c.args.fixed c.args.i c.args.seen c.if-fixed.false
