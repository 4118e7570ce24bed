-- `typed_vars` meets its contract.
use Prim.Native.Nat.{ℕ, ◌≤◌}
use mathlib.Core.Path.{◌≡◌}
use lib.ListN.{length, drop}
use Rattle.definitions.specs.Sheet.Parsing.{read_more}
use Rattle.read_names.specs.Signatures.{types_in}
use Rattle.read_rule.specs.Seen.{seen, more_facts}
use Rattle.read_rule.specs.Seen.{Scanned}
use Rattle.read_rule.specs.Turns.{after}
use Rattle.read_rule.proofs.typed_vars.Given as goal

-- what was said of the list so far, and then what is found from `i` on, is what is found of all
abbrev pub invariant-loop-said : goal.invariant-loop-said
invariant-loop-said l = let found : ℕ → ℕ → Scanned = λ n k. seen (more_facts (types_in l.s l.from l.to 8)) (length l.s) (read_more n (drop k l.s)) in
    (l.i ≤ length l.s) × (l.said.forms ≤ l.i) × (found l.left l.at ≡ after l.said (found l.more l.i))

abbrev pub decreases-loop-said : goal.decreases-loop-said
decreases-loop-said l = l.more
