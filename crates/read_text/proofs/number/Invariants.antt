-- `read_text::number` meets its contract. What is left of the digits is read on after the value of those passed.
use Prim.Native.Nat.{◌^◌, ◌≤◌, ◌<◌}
use mathlib.Core.Path.{◌≡◌}
use lib.ListN.{length, drop}
use Rattle.definitions.specs.Sheet.Text.{number as number_of}
use Rattle.read_text.proofs.Decimals.{read_on}
use Rattle.read_text.proofs.number.Given as goal

abbrev pub invariant-loop-c : goal.invariant-loop-c
invariant-loop-c l = (l.c-index ≤ length l.digits) × (length l.digits ≤ 7) × (l.v < 10 ^ l.c-index) × (number_of l.digits ≡ read_on l.v (drop l.c-index l.digits))
