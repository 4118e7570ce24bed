-- `problem_sizes::of_nodes` meets its contract: each turn visits one node and adds its atoms and actions. Assumes nothing.
use Rattle.problem_sizes.specs.Sums.{NodesSummed}
use Rattle.problem_sizes.proofs.of_nodes.Given as goal

abbrev pub invariant-loop-row : goal.invariant-loop-row
invariant-loop-row l = NodesSummed l.n l.ranges.count l.fn.t l.row-index l.nodes l.atoms l.actions
