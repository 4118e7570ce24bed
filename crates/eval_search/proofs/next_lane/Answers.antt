use Rattle.eval_search.specs.Lanes.{next_lane}
use Rattle.eval_search.proofs.next_lane.Goals as goal

pub returns : goal.returns
returns c = next_lane _ _ c.mask.result _ c.requires c.mask.ensures c.lowest.ensures
