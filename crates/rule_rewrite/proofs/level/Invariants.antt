-- `level` meets its contract.
use Prim.Native.Nat.{◌-◌, ◌≤◌}
use mathlib.Core.Path.{◌≡◌}
use lib.Seq.{slice}
use Rattle.definitions.specs.Lists.{position, same}
use Rattle.read_rule.specs.Seen.{names, spans}
use Rattle.rule_rewrite.specs.Ready.{level_of}
use Rattle.rule_rewrite.proofs.Words.{level_from}
use Rattle.rule_rewrite.proofs.level.Given as goal

abbrev pub invariant-loop-i : goal.invariant-loop-i
invariant-loop-i l = (l.i ≤ l.sc.n) × (level_of (names l.s l.sc) (slice l.a l.e l.s) ≡ level_from l.i (position (same (slice l.a l.e l.s)) (spans l.s l.sc.from l.sc.to (l.sc.n - l.i) l.i)))
