-- `read_plan::is_word` meets its contract. Assumes nothing.
use mathlib.Core.Path.{◌≡◌}
use Prim.Native.Nat.{◌≤◌, ◌<◌}
use lib.Seq.{slice}
use Rattle.definitions.specs.Lists.{all}
use Rattle.definitions.specs.Reply.Pddl.{folded, is_word_byte}
use Rattle.read_plan.proofs.is_word.Given as goal

abbrev pub invariant-loop-i : goal.invariant-loop-i
invariant-loop-i l = (l.a ≤ l.i) × (l.i ≤ l.e) × (l.a < l.e) × (all is_word_byte (folded (slice l.a l.e l.s)) ≡ all is_word_byte (folded (slice l.i l.e l.s)))
