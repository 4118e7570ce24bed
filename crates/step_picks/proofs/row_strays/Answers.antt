use mathlib.Core.Path.{sym, ◌∙◌}
use native.Mathlib.Omega.{arith}
use Rattle.laws.specs.Lists.{any_start, any_yes, any_no, any_end}
use Rattle.step_picks.proofs.row_strays.Goals as goal

pub loop-y-init : goal.loop-y-init
loop-y-init c = (omega arith, any_start _ _)

pub overflow_add-start : goal.overflow_add-start
overflow_add-start c = omega arith

pub stray-requires : goal.stray-requires
stray-requires c = (c.requires.0, c.requires.1)

pub returns-then-stray : goal.returns-then-stray
returns-then-stray c = sym (c.loop-y.invariant.1 ∙ any_yes _ _ _ (omega arith) (sym c.stray.ensures ∙ c.if-stray.true))

pub loop-y-preserved : goal.loop-y-preserved
loop-y-preserved c = (omega arith, c.loop-y.invariant.1 ∙ any_no _ _ _ (omega arith) (sym c.stray.ensures ∙ c.if-stray.false))

pub returns : goal.returns
returns c = sym (c.loop-y.invariant.1 ∙ any_end _ _ _ (omega arith))
