-- `step_truth::window` meets its contract.
use Rattle.step_truth.specs.WordLaws.{window_one, window_none}
use Rattle.step_truth.proofs.window.Goals as goal

pub returns-then-stride-eq1 : goal.returns-then-stride-eq1
returns-then-stride-eq1 c = λ x h. window_one _ _ _ _ _ x c.if-stride-eq1.true c.cut.ensures c.requires.2 h

pub returns-then-stride-eq0 : goal.returns-then-stride-eq0
returns-then-stride-eq0 c = λ x h. window_none _ _ _ _ _ x _ c.if-stride-eq0.true c.test.ensures c.turn.ensures c.requires.2 h
