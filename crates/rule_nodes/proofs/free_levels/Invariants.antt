-- `free_levels` meets its contract.
use mathlib.Core.Bool.{not, false, ◌&&◌}
use lib.ListN.{get_or}
use Rattle.rule_nodes.specs.Pass.{is_own}
use Rattle.rule_nodes.proofs.Laws.{Listed}
use Rattle.rule_nodes.proofs.free_levels.Given as goal

abbrev pub invariant-loop-l : goal.invariant-loop-l
invariant-loop-l l = Listed (λ k. not (is_own l.row k) && get_or l.fn.m.at k false) l.r l.l
