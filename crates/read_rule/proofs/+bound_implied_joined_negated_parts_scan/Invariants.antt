-- The functions that read a formula and its parts meet their contracts; the brackets that may still be opened fall from
-- call to call, and the parts that may still follow from turn to turn.
use mathlib.Core.Path.{◌≡◌}
use Prim.Native.Nat.{◌+◌, ◌*◌, ◌≤◌, ℕ}
use lib.ListN.{length, drop}
use Rattle.definitions.specs.Sheet.Parsing.{read_parts, read}
use Rattle.read_names.specs.Signatures.{lent_of, all_of, types_in}
use Rattle.read_rule.specs.Seen.{Scanned}
use Rattle.read_rule.specs.Seen.{seen, names, facts_all}
use Rattle.read_rule.specs.Turns.{after}
use Rattle.read_rule.proofs.+bound_implied_joined_negated_parts_scan.Given as goal

abbrev pub decreases-bound : goal.decreases-bound
decreases-bound l = l.room * 3 + 2

abbrev pub decreases-implied : goal.decreases-implied
decreases-implied l = l.room * 3 + 2

abbrev pub decreases-joined : goal.decreases-joined
decreases-joined l = l.room * 3 + 2

abbrev pub decreases-negated : goal.decreases-negated
decreases-negated l = l.room * 3 + 2

abbrev pub decreases-parts : goal.decreases-parts
decreases-parts l = l.room * 3 + 1

-- what was said of the parts so far, and then what is found from `i` on, is what is found of all
abbrev pub invariant-parts-loop-sc : goal.invariant-parts-loop-sc
invariant-parts-loop-sc l = let found : ℕ → ℕ → Scanned = λ n k. seen (facts_all (all_of l.s (lent_of l.from l.to l.arity l.m)) (types_in l.s l.from l.to 8) (names l.s l.sc)) (length l.s)
    (read_parts (λ b. read l.room b) n (drop k l.s)) in
    (l.i ≤ length l.s) × (l.said.forms ≤ l.i) × (found l.left l.at ≡ after l.said (found l.more l.i))

abbrev pub decreases-parts-loop-sc : goal.decreases-parts-loop-sc
decreases-parts-loop-sc l = l.more

abbrev pub decreases-scan : goal.decreases-scan
decreases-scan l = l.room * 3
