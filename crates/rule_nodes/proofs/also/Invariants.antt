-- `also` meets its contract.
use Rattle.rule_nodes.proofs.Laws.{Marked}
use Rattle.rule_nodes.proofs.also.Given as goal

abbrev pub invariant-loop-i : goal.invariant-loop-i
invariant-loop-i l = Marked l.initial.r.at l.r.at l.p.width l.p.levels l.i
