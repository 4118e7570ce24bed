use Rattle.eval_valuations.specs.Laws.{spread_yes, spread_not}
use Rattle.eval_valuations.proofs.spread.Goals as goal

pub returns-then-b : goal.returns-then-b
returns-then-b c = spread_yes _ c.if-b.true

pub returns : goal.returns
returns c = spread_not _ c.if-b.false
