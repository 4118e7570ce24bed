use Prim.Native.Nat.{◌-◌, ◌*◌, ◌^◌, ◌≤◌}
use mathlib.Core.Path.{◌≡◌}
use lib.ListN.{length}
use Rattle.definitions.specs.Problem.Atoms.{Problem}
use Rattle.problem_table.specs.Lines.{relations_in, table_length}
use Rattle.problem_table.specs.Of.{Is}
use Rattle.step_picks.specs.Words.{word_start, rows_in}
use Rattle.step_picks.specs.Tests.{broken_from}
use Rattle.step_picks.proofs.test_kinds.Given as goal

abbrev pub invariant-loop-r : goal.invariant-loop-r
invariant-loop-r l = (l.r ≤ relations_in l.table) × (l.i ≤ l.r) × (l.word ≤ l.r * 2 ^ 27) × ((p : Problem) → Is p l.table → (l.word ≡ word_start p l.r)
    × (broken_from p (rows_in p l.picks) 0 (length p.relations) 0 ≡ broken_from p (rows_in p l.picks) l.r (length p.relations - l.r) l.i))
    × (relations_in l.table ≤ 18) × (length l.table ≡ table_length)
