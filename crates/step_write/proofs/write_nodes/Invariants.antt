use Prim.Native.Nat.{◌+◌, ◌-◌, ◌*◌, ◌^◌, ◌≤◌}
use mathlib.Core.Path.{◌≡◌}
use mathlib.Core.List.{List}
use lib.ListN.{length}
use Rattle.definitions.specs.Sheet.Relations.{Tuple}
use Rattle.definitions.specs.Problem.Atoms.{Problem, node_start}
use Rattle.meaning.specs.Means.{Good}
use Rattle.bits.specs.Table.{bit}
use Rattle.problem_table.specs.Lines.{node_line}
use Rattle.step_write.specs.Steps.{Readable, PartWrote}
use Rattle.step_write.proofs.write_nodes.Given as goal

abbrev pub invariant-loop-v : goal.invariant-loop-v
invariant-loop-v l = (l.v ≤ l.past) × (l.end ≤ 2 ^ 32) × (l.k ≤ l.at + (l.past - l.v) * 2 ^ 32) × (length l.steps ≡ length l.initial.steps)
    × ((p : Problem) (G : Good p) (F : List Tuple) → Readable p G F l.table (bit l.state) → l.past ≤ length p.node_list → (node_line l.table l.past).atoms ≡ node_start p l.past → (l.end ≡ node_start p l.v) × PartWrote p F l.past l.v l.initial.steps l.at l.steps l.k)
