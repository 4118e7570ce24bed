-- The totalities of the chosen relations from `i` on are still to be counted.
use mathlib.Core.Path.{◌≡◌}
use mathlib.Core.List.{List}
use Prim.Native.Nat.{ℕ, ◌+◌, ◌-◌, ◌≤◌}
use Rattle.definitions.specs.Sheet.Formula.{totals}
use Rattle.read_names.specs.Signatures.{chosen_of, relations_from}
use Rattle.read_rule.proofs.totalities.Given as goal

abbrev pub invariant-loop-i : goal.invariant-loop-i
invariant-loop-i l = (l.i ≤ l.end) × (l.end ≡ l.sig.rels + l.sig.chosen) × (l.sig.rels + l.t ≤ l.i) × ((q : List ℕ) → totals (chosen_of q l.sig) ≡ l.t + totals (relations_from q l.sig l.i (l.end - l.i)))
