use Rattle.eval_valuations.specs.Laws.{skip_end, skip_next}
use Rattle.eval_valuations.proofs.skip.Goals as goal

pub returns-then-w-eq-FULL : goal.returns-then-w-eq-FULL
returns-then-w-eq-FULL c = skip_end _ _ _ c.if-w-eq-FULL.true

pub returns : goal.returns
returns c = skip_next _ _ _ c.if-w-eq-FULL.false
