-- `eval_valuations::node_words` meets its contract. The invariants say what is left of the turns, and of the parts in a turn, beside what the
-- words have gathered; a part that is a node has a higher number, so that 64 less the number falls.
use Prim.Native.Nat.{◌-◌, ◌≤◌}
use Rattle.rows.specs.Values.{value_in, Within}
use Rattle.eval_rule.specs.Lines.{element_in}
use Rattle.eval_rule.specs.Laws.{Steady}
use Rattle.eval_valuations.specs.Laws.{PartsLeft, TurnsLeft, Settled}
use Rattle.eval_valuations.proofs.+node_words.Given as goal

abbrev pub decreases-node_words : goal.decreases-node_words
decreases-node_words l = 64 - l.v

abbrev pub invariant-parts : goal.invariant-parts
invariant-parts l = (l.i ≤ l.many) × PartsLeft l.n l.lines l.facts l.pos l.neg l.v l.kind l.level l.many l.joins l.sought (value_in l.values) l.i l.hit × Settled l.n l.lines l.facts l.pos l.neg l.v l.kind l.level l.many l.joins l.sought (value_in l.values) l.still

abbrev pub decreases-parts : goal.decreases-parts
decreases-parts l = l.many - l.i

abbrev pub invariant-elements : goal.invariant-elements
invariant-elements l = (l.turn ≤ l.turns) × Steady l.initial.values l.level l.values × Within l.n l.values
    × TurnsLeft l.n l.lines l.facts l.pos l.neg l.v l.kind l.level l.many l.joins l.sought (value_in l.initial.values) (element_in l.lines l.range) l.turns l.turn l.found

abbrev pub decreases-elements : goal.decreases-elements
decreases-elements l = l.turns - l.turn
