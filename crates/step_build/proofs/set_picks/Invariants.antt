use Prim.Native.Nat.{◌-◌, ◌*◌, ◌^◌, ◌≤◌}
use mathlib.Core.Path.{◌≡◌}
use lib.ListN.{length}
use Rattle.bits.specs.Table.{bit}
use Rattle.definitions.specs.Problem.Atoms.{Problem}
use Rattle.problem_table.specs.Lines.{relations_in, table_length}
use Rattle.step_picks.specs.Words.{word_start, rows_in}
use Rattle.step_prove.specs.Following.{ReadyToFollow, out}
use Rattle.step_build.specs.Setting.{set_relations}
use Rattle.step_build.proofs.set_picks.Given as goal

abbrev pub invariant-loop-r : goal.invariant-loop-r
invariant-loop-r l = (l.r ≤ relations_in l.table) × (l.k ≤ l.r * 2 ^ 32) × (l.word ≤ l.r * 2 ^ 27) × (length l.state ≡ length l.initial.state) × (length l.steps ≡ length l.initial.steps)
    × ((p : Problem) → ReadyToFollow p l.table (length l.initial.state) → (l.word ≡ word_start p l.r)
    × (set_relations p (rows_in p l.picks) (out (bit l.initial.state) l.initial.steps 0) 0 (length p.relations)
    ≡ set_relations p (rows_in p l.picks) (out (bit l.state) l.steps l.k) l.r (length p.relations - l.r)))
    × (relations_in l.table ≤ 18) × (length l.table ≡ table_length)
