use mathlib.Core.Path.{sym, ap, ◌∙◌}
use native.Mathlib.Omega.{arith}
use lib.Seq.{slice}
use Rattle.definitions.specs.Sheet.Formula.{is_bound}
use Rattle.read_rule.specs.Spans.{names_are, bound_yes, bound_no, bound_end}
use Rattle.read_rule.proofs.is_bound.Goals as goal

pub loop-i-init : goal.loop-i-init
loop-i-init c = let a = c.args in (omega arith, ap (λ l. is_bound l (slice a.a a.e a.s.now)) (names_are a.s.now a.sc))

pub offset_bounds-sc-i : goal.offset_bounds-sc-i
offset_bounds-sc-i c = omega arith

pub bounds-sc-i : goal.bounds-sc-i
bounds-sc-i c = omega arith

pub offset_bounds-sc-i-in-loop-i : goal.offset_bounds-sc-i-in-loop-i
offset_bounds-sc-i-in-loop-i c = omega arith

pub bounds-sc-i-in-loop-i : goal.bounds-sc-i-in-loop-i
bounds-sc-i-in-loop-i c = omega arith

pub returns-then-same_span : goal.returns-then-same_span
returns-then-same_span c = let l = c.loop-i in sym (l.invariant.1 ∙ bound_yes _ _ _ _ c.args.sc.n l.i (omega arith) (sym c.same_span.ensures ∙ c.if-same_span.true))

pub loop-i-preserved : goal.loop-i-preserved
loop-i-preserved c = let l = c.loop-i in let n = c.args.sc.n in (omega arith, l.invariant.1 ∙ bound_no _ _ _ _ n l.i (omega arith) (sym c.same_span.ensures ∙ c.if-same_span.false))

pub returns : goal.returns
returns c = let l = c.loop-i in sym (l.invariant.1 ∙ bound_end _ _ _ _ c.args.sc.n l.i (omega arith))
