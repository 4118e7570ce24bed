use mathlib.Core.Path.{refl, ◌∙◌}
use native.Mathlib.Omega.{arith}
use lib.ListN.{length-set}
use lib.Seq.{paste-zero}
use Rattle.definitions.specs.Lists.{below}
use Rattle.problem_layout.specs.TurnLaws.{range_turn, range_end}
use Rattle.problem_layout.proofs.fill_range.Goals as goal

pub loop-i-init : goal.loop-i-init
loop-i-init c = (omega arith, refl, paste-zero _ c.args.at (below c.args.n))

pub loop-i-preserved : goal.loop-i-preserved
loop-i-preserved c = let l = c.loop-i in (omega arith, length-set l.table _ _ ∙ l.invariant.1, range_turn _ _ _ _ _ c.requires (omega arith) l.invariant.2)

pub shape_of-table : goal.shape_of-table
shape_of-table c = c.loop-i.invariant.1

pub returns : goal.returns
returns c = let l = c.loop-i in range_end _ _ _ _ _ l.invariant.0 (omega arith) l.invariant.2
