-- `tabulate` meets its contract.
use Rattle.rule_nodes.specs.Postorder.{rows_from}
use Rattle.rule_nodes.proofs.Turns.{Outer, Inner}
use Rattle.rule_nodes.proofs.tabulate.Given as goal

abbrev pub invariant-loop-j : goal.invariant-loop-j
invariant-loop-j l = Inner l.stack l.initial.parts l.height l.initial.placed l.base l.parts l.placed l.marks.at l.j

abbrev pub invariant-loop-i : goal.invariant-loop-i
invariant-loop-i l = Outer (rows_from l.from l.len l.count) l.stack l.parts l.rows l.height l.placed l.i
