use native.Mathlib.Omega.{arith}
use Prim.Native.Nat.{◌+◌}
use Rattle.step_build.proofs.next_offset.Goals as goal

pub returns-then-whole : goal.returns-then-whole
returns-then-whole c = let a = c.args in let n = c.next_set.ensures in (omega (arith, n.0), omega (arith, n.1), λ i l u. (c.if-whole.true, n.2 (a.start + i) (omega arith) (omega arith)))

pub returns : goal.returns
returns c = (omega arith, omega arith, λ i l u. absurd (omega arith))
