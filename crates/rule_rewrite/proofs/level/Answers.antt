use mathlib.Core.Path.{sym, ◌∙◌}
use native.Mathlib.Omega.{arith}
use Rattle.rule_rewrite.proofs.Words.{level_start, level_yes, level_no, level_end}
use Rattle.rule_rewrite.proofs.level.Goals as goal

pub loop-i-init : goal.loop-i-init
loop-i-init c = (omega arith, level_start _ _ _)

pub offset_bounds-sc-i : goal.offset_bounds-sc-i
offset_bounds-sc-i c = omega arith

pub bounds-sc-i : goal.bounds-sc-i
bounds-sc-i c = omega arith

pub offset_bounds-sc-i-in-loop-i : goal.offset_bounds-sc-i-in-loop-i
offset_bounds-sc-i-in-loop-i c = omega arith

pub bounds-sc-i-in-loop-i : goal.bounds-sc-i-in-loop-i
bounds-sc-i-in-loop-i c = omega arith

pub overflow_cast-result : goal.overflow_cast-result
overflow_cast-result c = omega (arith, c.requires)

pub returns-then-same_span : goal.returns-then-same_span
returns-then-same_span c = sym (c.loop-i.invariant.1 ∙ level_yes _ _ _ _ _ _ c.loop-i-test.true (sym c.same_span.ensures ∙ c.if-same_span.true))

pub loop-i-preserved : goal.loop-i-preserved
loop-i-preserved c = (omega arith, c.loop-i.invariant.1 ∙ level_no _ _ _ _ _ _ c.loop-i-test.true (sym c.same_span.ensures ∙ c.if-same_span.false))

pub returns : goal.returns
returns c = sym (c.loop-i.invariant.1 ∙ level_end _ _ _ _ _ _ (omega arith))
