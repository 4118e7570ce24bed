-- `bind` meets its contract. The text that is left falls.
use Prim.Native.Nat.{ℕ, ◌-◌}
use mathlib.Core.List.{List, ◌∷◌}
use mathlib.Core.Path.{◌≡◌}
use lib.ListN.{length}
use Rattle.read_names.specs.Signatures.{types_in}
use Rattle.read_rule.specs.declared.Scope.{Scope}
use Rattle.rule_rewrite.specs.declared.Bound.{Bound}
use Rattle.rule_rewrite.specs.Ready.{ListReady, Opened}
use Rattle.rule_rewrite.proofs.bind.Given as goal

-- r is the scope with the variables of the list at `at`, and their sorts after those that were noted before
abbrev pub Opens : List ℕ → ℕ → List (List ℕ) → Scope → List ℕ → Bound → Type 0
Opens s at types sc before r = (w : ListReady s at sc) → Opened s at types sc before (w.q ∷ w.qs) r

-- what the further variables make of the scope so far is what all make of the first
abbrev pub invariant-loop-inner : goal.invariant-loop-inner
invariant-loop-inner l = ListReady l.s l.i l.inner × (length l.inner.from ≡ 4) × (length l.inner.to ≡ 4) × (length l.sorts ≡ 4)
    × ((r : Bound) → Opens l.s l.i (types_in l.s l.from l.to 8) l.inner l.sorts r → Opens l.s l.at (types_in l.s l.from l.to 8) l.initial.inner l.initial.sorts r)

abbrev pub decreases-loop-inner : goal.decreases-loop-inner
decreases-loop-inner l = length l.s - l.i
