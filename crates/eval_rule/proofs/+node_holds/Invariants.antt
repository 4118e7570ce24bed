-- `eval_rule::node_holds` meets its contract. The invariants say what is left of the turns, and of the parts in a turn, and that the fixed
-- parts among the first `seen` decide nothing; a part that is a node has a higher number, so that 64 less the number falls.
use Prim.Native.Nat.{◌-◌, ◌≤◌}
use mathlib.Core.Path.{◌≡◌}
use mathlib.Core.Bool.{not}
use Rattle.rows.specs.Values.{value_in, Within}
use Rattle.eval_rule.specs.Lines.{leaf_at, element_in}
use Rattle.eval_rule.specs.Says.{AllTurns, AllParts, Passed}
use Rattle.eval_rule.specs.Laws.{Steady}
use Rattle.eval_rule.proofs.+node_holds.Given as goal

abbrev pub decreases-node_holds : goal.decreases-node_holds
decreases-node_holds l = 64 - l.v

abbrev pub invariant-parts : goal.invariant-parts
invariant-parts l = (l.i ≤ l.many) × (l.i ≤ l.seen) × (l.answer ≡ not l.sought) × AllParts l.n l.lines (leaf_at l.facts l.picks l.n) l.v l.kind l.level l.many l.joins l.sought (value_in l.values) l.i
    × Passed l.n l.lines (leaf_at l.facts l.picks l.n) l.v l.level l.first l.many l.joins (value_in l.values) l.seen

abbrev pub invariant-elements : goal.invariant-elements
invariant-elements l = (l.turn ≤ l.turns) × (l.answer ≡ not l.sought) × Steady l.initial.values l.level l.values × Within l.n l.values
    × AllTurns l.n l.lines (leaf_at l.facts l.picks l.n) l.v l.kind l.level l.many l.joins l.sought (value_in l.initial.values) (element_in l.lines l.range) l.turns l.turn
    × Passed l.n l.lines (leaf_at l.facts l.picks l.n) l.v l.level l.first l.many l.joins (value_in l.initial.values) l.seen
