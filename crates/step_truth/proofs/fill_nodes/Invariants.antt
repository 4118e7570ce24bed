-- `step_truth::fill_nodes` meets its contract.
use Prim.Native.Nat.{◌^◌, ◌≤◌}
use Rattle.bits.specs.Table.{bit}
use Rattle.definitions.specs.Problem.Atoms.{Problem, node_start}
use Rattle.definitions.specs.Sheet.Relations.{Tuple}
use Rattle.meaning.specs.Deciding.{Knows}
use Rattle.meaning.specs.Means.{Good}
use Rattle.meaning.specs.Planning.{nodes_from}
use Rattle.problem_table.specs.Lines.{node_line}
use Rattle.step_truth.specs.Nodes.{Fillable, Knowing}
use lib.ListN.{length}
use mathlib.Core.List.{List}
use mathlib.Core.Path.{◌≡◌}
use Rattle.step_truth.proofs.fill_nodes.Given as goal

abbrev pub invariant-loop-v : goal.invariant-loop-v
invariant-loop-v l = (l.first ≤ l.v) × (l.v ≤ l.past) × (l.end ≤ 2 ^ 32) × (length l.state ≡ length l.initial.state)
    × ((p : Problem) (G : Good p) (F : List Tuple) → Fillable p l.table (length l.initial.state) → l.past ≤ length p.node_list → (node_line l.table l.past).atoms ≡ node_start p l.past → Knows p F (nodes_from p G F l.past) (bit l.initial.state)
    → (l.end ≡ node_start p l.v) × Knowing p G F (nodes_from p G F l.v) (bit l.initial.state) (bit l.state))
