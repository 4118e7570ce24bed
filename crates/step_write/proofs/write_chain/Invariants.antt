use Prim.Native.Nat.{ℕ, ◌+◌, ◌*◌, ◌≤◌}
use mathlib.Core.Path.{◌≡◌}
use mathlib.Core.List.{List, map}
use lib.ListN.{length, take}
use Rattle.definitions.specs.Sheet.Relations.{Tuple}
use Rattle.definitions.specs.Problem.Atoms.{Problem}
use Rattle.meaning.specs.Means.{Good}
use Rattle.bits.specs.Table.{bit}
use Rattle.problem_table.specs.Lines.{size_in, range_in}
use Rattle.step_write.specs.Steps.{Reading, Wrote, row_numbers}
use Rattle.step_write.proofs.write_chain.Given as goal

abbrev pub invariant-loop-i : goal.invariant-loop-i
invariant-loop-i l = (l.i ≤ l.v.count) × (l.k ≤ l.at + l.i) × (length l.steps ≡ length l.initial.steps)
    × ((p : Problem) (G : Good p) (F : List Tuple) (node width row : ℕ) → Reading p G F l.table node l.v width (bit l.state) → l.v.kind ≡ 0 → l.j ≡ row * size_in l.table → l.action ≡ l.v.acts + row * l.v.count → l.j + size_in l.table ≤ width
    → Wrote l.initial.steps l.at (row_numbers p F node (map (λ (z : ℕ). l.j + z) (take l.i (range_in l.table l.v)))) l.steps l.k)
