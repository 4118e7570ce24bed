-- `problem_table::copy` meets its contract: what is written so far is a paste, word by word.
use Rattle.std.proofs.Common.{◌≡◌, ◌<◌, length}
use Rattle.std.proofs.Math.Seq.{paste}
use Rattle.bits.specs.Table.{Words}
use Rattle.problem_table.proofs.copy.Given as goal

abbrev pub invariant-loop-i : goal.invariant-loop-i
invariant-loop-i l = (length l.dst ≡ length l.initial.dst) × (l.dst ≡ paste l.initial.dst 0 l.src l.i) × (0 < l.i → Words l.src)
