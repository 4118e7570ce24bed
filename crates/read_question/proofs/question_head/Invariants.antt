-- `read_question::question_head` meets its contract. The lines up to `at` gave the signature g, so reading the text is reading the rest from there.
use Prim.Native.Nat.{◌-◌, ◌≤◌}
use lib.ListN.{length}
use Rattle.read_question.proofs.Heading.{HeadAt}
use Rattle.read_question.proofs.question_head.Given as goal

abbrev pub invariant-loop-at : goal.invariant-loop-at
invariant-loop-at l = (l.at ≤ length l.s) × HeadAt l.s l.g l.at

abbrev pub decreases-loop-at : goal.decreases-loop-at
decreases-loop-at l = l.end - l.at
