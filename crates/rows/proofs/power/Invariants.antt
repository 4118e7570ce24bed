-- `rows::power` meets its contract.
use Prim.Native.Nat.{◌-◌, ◌≤◌, ◌^◌}
use mathlib.Core.Path.{◌≡◌}
use Rattle.rows.proofs.power.Given as goal

abbrev pub invariant-loop-i : goal.invariant-loop-i
invariant-loop-i l = (l._i ≤ l.k) × (l.r ≡ l.n ^ l._i)
