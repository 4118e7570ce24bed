use native.Mathlib.Omega.{arith}
use Rattle.eval_search.specs.Lanes.{lane_open, lane_digit}
use Rattle.eval_search.proofs.lane_word.Goals as goal

pub returns-then-d-lanes : goal.returns-then-d-lanes
returns-then-d-lanes c = lane_open _ _ _ _ (omega arith)

pub returns : goal.returns
returns c = lane_digit _ _ _ _ (omega arith) _ _ c.number_word.ensures c.turned.ensures
