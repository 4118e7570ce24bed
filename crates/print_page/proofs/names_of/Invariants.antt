-- `print_page::names_of` meets its contract.
use Prim.Native.Nat.{◌≤◌}
use mathlib.Core.Path.{◌≡◌}
use lib.ListN.{length}
use Rattle.print_page.specs.Naming.{Named}
use Rattle.print_page.proofs.names_of.Given as goal

abbrev pub invariant-loop-i : goal.invariant-loop-i
invariant-loop-i l = (l.i ≤ l.total) × (l.total ≤ 13) × (length l.from ≡ 21) × (length l.to ≡ 21) × (length l.arity ≡ 13) × Named l.from l.to l.arity l.i l.names
