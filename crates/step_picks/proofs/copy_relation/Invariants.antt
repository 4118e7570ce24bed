-- `step_picks::copy_relation` meets its contract. The invariant: what is written and what is left to write are all words of the line. Assumes nothing.
use Prim.Native.Nat.{◌+◌, ◌-◌, ◌≤◌}
use mathlib.Core.Path.{◌≡◌}
use lib.ListN.{length}
use lib.Seq.{sets}
use Rattle.bits.specs.Table.{bit}
use Rattle.step_picks.specs.Words.{words_in}
use Rattle.step_picks.specs.Copies.{line_words}
use Rattle.step_picks.specs.CopyLaws.{words_past}
use Rattle.step_picks.proofs.copy_relation.Given as goal

abbrev pub invariant-loop-j : goal.invariant-loop-j
invariant-loop-j l = (l.j ≤ l.count) × (length l.picks ≡ length l.initial.picks)
    × (sets l.initial.picks l.word (line_words (bit l.state) l.line) ≡ sets l.picks (l.word + l.j) (words_past (bit l.state) l.line l.j (l.count - l.j)))
    × (l.tuples ≡ l.line.nots - l.line.tuples) × (l.count ≡ words_in l.line)
