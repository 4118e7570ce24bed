-- `step_picks::spare_word` meets its contract. The invariant: no relation before r has a spare bit set, so what is left is the search from r on, whose
-- words start with word `word`. Assumes nothing.
use Prim.Native.Nat.{◌*◌, ◌^◌, ◌≤◌}
use mathlib.Core.Path.{◌≡◌}
use lib.ListN.{length}
use Rattle.definitions.specs.Problem.Atoms.{Problem}
use Rattle.definitions.specs.Problem.Built.{chosen_numbers}
use Rattle.definitions.specs.Reply.Outcome.{spare_word}
use Rattle.problem_table.specs.Lines.{relations_in, table_length}
use Rattle.problem_table.specs.Of.{Is}
use Rattle.step_picks.specs.Spare.{spare_from}
use Rattle.step_picks.proofs.spare_word.Given as goal

abbrev pub invariant-loop-r : goal.invariant-loop-r
invariant-loop-r l = (l.r ≤ relations_in l.table) × (l.word ≤ l.r * 2 ^ 27) × ((p : Problem) → Is p l.table → spare_word p l.picks 0 (chosen_numbers p) ≡ spare_from p l.picks l.r l.word)
    × (relations_in l.table ≤ 18) × (length l.table ≡ table_length)
