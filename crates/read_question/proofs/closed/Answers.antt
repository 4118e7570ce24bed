use Rattle.read_question.proofs.Judging.{closed_every, closed_many}
use Rattle.read_question.proofs.closed.Goals as goal

pub returns-then-every-ne0 : goal.returns-then-every-ne0
returns-then-every-ne0 c = closed_every _ _ c.if-every-ne0.true

pub returns-else-every-ne0 : goal.returns-else-every-ne0
returns-else-every-ne0 c = closed_many _ _ c.if-every-ne0.false
