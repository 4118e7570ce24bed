use borrow.Author.Tests.{eq-eqb}
use Prim.Native.Nat.{◌%◌}
use Rattle.step_picks.specs.Spare.{past_full, past_last}
use Rattle.step_picks.proofs.spare_past.Goals as goal

pub returns-then-used-ne0 : goal.returns-then-used-ne0
returns-then-used-ne0 c = past_last _ _ _ c.if-used-ne0.true _ c.word_at.ensures

pub returns-else-used-ne0 : goal.returns-else-used-ne0
returns-else-used-ne0 c = rw (eq-eqb (c.args.tuples % 64) 0 c.if-used-ne0.false) (past_full _ _ _ c.if-used-ne0.false)
