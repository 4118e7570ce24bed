-- `read_tuples::alike`: spans of which one byte differs are not the same. Assumes nothing.
use Prim.Native.Nat.{◌-◌}
use native.Mathlib.Omega.{arith}
use Rattle.read_tuples.proofs.Naming.{other_byte}
use Rattle.read_tuples.proofs.alike.Goals as goal

pub returns-then-site-from : goal.returns-then-site-from
returns-then-site-from c = let a = c.args in other_byte a.site.now a.from a.to a.s.now a.a a.e (a.count - 1) (omega arith) (omega arith) c.if-site-from.true
