use Rattle.eval_valuations.specs.Laws.{only_all, only_none}
use Rattle.eval_valuations.proofs.only.Goals as goal

pub returns-then-b : goal.returns-then-b
returns-then-b c = only_all _ _ c.if-b.true

pub returns : goal.returns
returns c = only_none _ _ c.if-b.false
