-- `fill` meets its contract; the text that is left falls.
use Prim.Native.Nat.{ℕ, ◌-◌}
use mathlib.Core.Path.{◌≡◌}
use mathlib.Core.Bool.{Bool}
use mathlib.Core.List.{List}
use lib.ListN.{length}
use Rattle.read_rule.specs.declared.Scope.{Scope}
use Rattle.rule_nodes.specs.declared.Row.{Row}
use Rattle.rule_nodes.specs.Postorder.{leaf_row}
use Rattle.rule_rewrite.specs.declared.Leaf.{Leaf}
use Rattle.rule_rewrite.specs.Ready.{VarsReady, Filled}
use Rattle.rule_rewrite.proofs.fill.Given as goal

-- r is the row with the levels of the variables at `at`, whatever literal the row is of
abbrev pub Fills : List ℕ → ℕ → Scope → Row → Leaf → Type 0
Fills s at sc row r = (p : Bool) (k : ℕ) (ls : List ℕ) (w : VarsReady s at sc row.width) → row ≡ leaf_row p k ls → Filled s at sc p k ls w.vs r

-- what the further variables make of the row so far is what all make of the first
abbrev pub invariant-loop-i : goal.invariant-loop-i
invariant-loop-i l = VarsReady l.s l.i l.sc l.full.width × ((r : Leaf) → Fills l.s l.i l.sc l.full r → Fills l.s l.at l.sc l.initial.full r)

abbrev pub decreases-loop-i : goal.decreases-loop-i
decreases-loop-i l = length l.s - l.i
