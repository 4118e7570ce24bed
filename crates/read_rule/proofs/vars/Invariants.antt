-- `vars` meets its contract.
use Prim.Native.Nat.{ℕ, ◌≤◌}
use mathlib.Core.Path.{◌≡◌}
use lib.ListN.{length, drop}
use Rattle.definitions.specs.Sheet.Parsing.{read_vars}
use Rattle.read_rule.specs.Seen.{seen, names, vars_facts}
use Rattle.read_rule.specs.Seen.{Scanned}
use Rattle.read_rule.specs.Turns.{after}
use Rattle.read_rule.proofs.vars.Given as goal

-- what was said of the variables so far, and then what is found from `i` on, is what is found of all
abbrev pub invariant-loop-sc : goal.invariant-loop-sc
invariant-loop-sc l = let found : ℕ → ℕ → Scanned = λ n k. seen (vars_facts (names l.s l.sc)) (length l.s) (read_vars n (drop k l.s)) in
    (l.i ≤ length l.s) × (l.said.forms ≤ l.i) × (found l.left l.at ≡ after l.said (found l.more l.i))

abbrev pub decreases-loop-sc : goal.decreases-loop-sc
decreases-loop-sc l = l.more
