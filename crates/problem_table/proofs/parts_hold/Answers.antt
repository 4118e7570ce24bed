use mathlib.Core.Path.{sym, ◌∙◌}
use mathlib.Core.Bool.{true, false}
use native.Mathlib.Omega.{arith}
use Rattle.problem_table.specs.NeedLaws.{parts_next, parts_none, parts_start}
use Rattle.problem_table.proofs.parts_hold.Goals as goal

pub loop-k-init : goal.loop-k-init
loop-k-init c = (omega arith, parts_start _ _ _ _)

pub part_holds-requires : goal.part_holds-requires
part_holds-requires c = (c.requires.0, omega arith, c.requires.2)

pub loop-k-preserved : goal.loop-k-preserved
loop-k-preserved c = (omega arith, c.loop-k.invariant.1 ∙ parts_next _ _ _ _ _ true (omega arith) (sym c.part_holds.ensures ∙ c.if-not-part_holds.false))

pub returns-then-not-part_holds : goal.returns-then-not-part_holds
returns-then-not-part_holds c = sym (c.loop-k.invariant.1 ∙ parts_next _ _ _ _ _ false (omega arith) (sym c.part_holds.ensures ∙ c.if-not-part_holds.true))

pub returns : goal.returns
returns c = sym (c.loop-k.invariant.1 ∙ parts_none _ _ _ _ _ (omega arith))
