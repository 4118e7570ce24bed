use Prim.Native.Nat.{◌+◌}
use native.Mathlib.Omega.{arith}
use Rattle.step_write.proofs.next_row.Goals as goal

pub returns-then-test : goal.returns-then-test
returns-then-test c = (omega arith, omega arith, λ i l u. absurd (omega arith))

pub returns : goal.returns
returns c = let a = c.args in let n = c.next_set.ensures in (omega (arith, n.0), omega (arith, n.1), λ i l u. n.2 (a.atoms + i) (omega arith) (omega arith))
