-- The functions of the walk meet their contracts. From call to call the text that is left falls; where a call stays at its place,
-- a part goes to the function of one form.
use Prim.Native.Nat.{◌+◌, ◌-◌, ◌*◌}
use lib.ListN.{length}
use Rattle.rule_rewrite.proofs.+arrow_further_gather_part_under.Given as goal

abbrev pub decreases-arrow : goal.decreases-arrow
decreases-arrow l = (length l.s.now - l.at) * 4 + 0

abbrev pub decreases-further : goal.decreases-further
decreases-further l = (length l.s.now - l.at) * 4 + 0

abbrev pub decreases-gather : goal.decreases-gather
decreases-gather l = (length l.s.now - l.at) * 4 + 0

abbrev pub decreases-part : goal.decreases-part
decreases-part l = (length l.s.now - l.at) * 4 + 1

abbrev pub decreases-under : goal.decreases-under
decreases-under l = (length l.s.now - l.at) * 4 + 0
