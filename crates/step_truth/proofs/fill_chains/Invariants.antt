-- `step_truth::fill_chains` meets its contract.
use Prim.Native.Nat.{ℕ, zero, ◌*◌}
use Rattle.bits.specs.Table.{bit}
use Rattle.definitions.specs.Problem.Atoms.{Problem}
use Rattle.definitions.specs.Sheet.Relations.{Tuple}
use Rattle.meaning.specs.Deciding.{Knows}
use Rattle.meaning.specs.Means.{Good}
use Rattle.meaning.specs.Planning.{rows_to}
use Rattle.rows.specs.Values.{Within}
use Rattle.step_prove.specs.Tries.{Digits, Rest}
use Rattle.step_truth.specs.Nodes.{Filling, Knowing}
use lib.ListN.{length}
use mathlib.Core.List.{List}
use mathlib.Core.Path.{◌≡◌}
use Rattle.step_truth.proofs.fill_chains.Given as goal

abbrev pub invariant-loop-row : goal.invariant-loop-row
invariant-loop-row l = (length l.state ≡ length l.initial.state) × (length l.digits ≡ 4) × Within l.n l.digits × Rest l.v.width l.digits × Digits l.n l.v.width l.row l.digits
    × ((p : Problem) (G : Good p) (F : List Tuple) (node : ℕ) → Filling p l.fn.table (length l.initial.state) node l.v l.fn.width → Knows p F (rows_to p G F node zero) (bit l.initial.state) → Knowing p G F (rows_to p G F node (l.row * l.n)) (bit l.initial.state) (bit l.state))
