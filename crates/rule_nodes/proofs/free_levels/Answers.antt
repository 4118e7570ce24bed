use native.Mathlib.Omega.{arith}
use Rattle.rule_nodes.proofs.Laws.{list_start, list_width, list_again, list_end}
use Rattle.rule_nodes.proofs.free_levels.Goals as goal

pub loop-l-init : goal.loop-l-init
loop-l-init c = list_start _

pub listed-r-requires : goal.listed-r-requires
listed-r-requires c = omega (arith, list_width _ _ _ c.loop-l.invariant)

pub loop-l-preserved : goal.loop-l-preserved
loop-l-preserved c = let l = c.loop-l in list_again _ _ _ l.l _ (omega arith) (rw c.is_own.ensures) c.listed-r.ensures l.invariant

pub returns : goal.returns
returns c = list_end _ _ _ (omega arith) c.loop-l.invariant
