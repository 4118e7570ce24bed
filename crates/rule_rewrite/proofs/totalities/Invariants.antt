-- `totalities` meets its contract.
use mathlib.Core.Path.{◌≡◌}
use Prim.Native.Nat.{◌+◌, ◌≤◌}
use lib.ListN.{length}
use Rattle.rule_nodes.specs.Postorder.{rows_from}
use Rattle.rule_rewrite.proofs.Root.{Left}
use Rattle.rule_rewrite.proofs.totalities.Given as goal

abbrev pub invariant-loop-i : goal.invariant-loop-i
invariant-loop-i l = (l.i ≤ l.end) × (l.end ≡ l.sig.rels + l.sig.chosen) × Left (rows_from l.initial.rows l.len l.nodes) (rows_from l.rows l.u.len l.u.nodes) l.sig l.i × (length l.rows ≡ 512)
