-- `run` meets its contract.
use Prim.Native.Nat.{◌≤◌, ◌+◌}
use mathlib.Core.Path.{◌≡◌}
use lib.ListN.{length, drop}
use Rattle.definitions.specs.Sheet.Parsing.{span}
use Rattle.read_rule.proofs.run.Given as goal

abbrev pub invariant-loop-i : goal.invariant-loop-i
invariant-loop-i l = (l.i ≤ length l.s) × (l.from + span l.var (drop l.from l.s) ≡ l.i + span l.var (drop l.i l.s))
