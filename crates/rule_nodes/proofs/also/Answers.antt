use mathlib.Core.Path.{ap}
use mathlib.Core.Logic.{inl, inr}
use native.Mathlib.Omega.{arith}
use borrow.Author.Rules.{rules}
use Rattle.rule_nodes.proofs.Laws.{mark_start, mark_end, mark_yes, mark_no}
use Rattle.rule_nodes.proofs.also.Goals as goal
use Rattle.rule_nodes.proofs.also.Goals.{then-l-lt4, else-l-lt4}

pub loop-i-init : goal.loop-i-init
loop-i-init c = mark_start _ _ _ (search rules)

pub returns-then-i-width : goal.returns-then-i-width
returns-then-i-width c = mark_end _ _ _ _ (search rules) _ c.loop-i.invariant (inl (omega (arith, c.if-i-width.true, c.wide-width.ensures.0)))

pub bounds-r-l : goal.bounds-r-l
bounds-r-l c = omega (arith, c.loop-i.invariant.marks_length)

pub loop-i-preserved : goal.loop-i-preserved
loop-i-preserved c =
    let w = c.wide-l in elim c.if-l-lt4.branch [
      | then-l-lt4 x ↦ mark_yes _ _ _ _ (search rules) _ c.loop-i.invariant (omega arith) (λ e. c.if-i-width.false (omega (arith, c.wide-width.ensures.0))) _
          w.ensures.0 _ x.if-l-lt4.true (ap (λ m. m.at) x.r-is)
      | else-l-lt4 x ↦ mark_no _ _ _ _ (search rules) _ c.loop-i.invariant (omega arith) (λ e. c.if-i-width.false (omega (arith, c.wide-width.ensures.0))) _
          w.ensures.0 _ (omega (arith, x.if-l-lt4.false)) (ap (λ m. m.at) x.r-is)
    ]

pub returns : goal.returns
returns c = mark_end _ _ _ _ (search rules) _ c.loop-i.invariant (inr (omega arith))
