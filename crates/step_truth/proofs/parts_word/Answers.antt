use Rattle.bits.specs.Table.{bit, turned}
use Rattle.step_truth.specs.WordLaws.{some_none, some_next, some_all}
use mathlib.Core.Path.{sym, ap, ◌∙◌}
use native.Mathlib.Omega.{arith}
use Rattle.step_truth.proofs.parts_word.Goals as goal

pub loop-i-init : goal.loop-i-init
loop-i-init c = (omega arith, λ x h. some_none _ x _)

pub along-a-requires : goal.along-a-requires
along-a-requires c = let q = c.requires in (q.0, omega (arith, q.1), q.3, q.2)

pub window-w-requires : goal.window-w-requires
window-w-requires c = let a = c.along-a.ensures in (a.0, a.1, c.requires.4)

pub loop-i-preserved : goal.loop-i-preserved
loop-i-preserved c = (omega arith, λ x h. some_next _ _ _ _ _ x _ (omega arith) (c.turn-acc.ensures x (omega (arith, c.requires.4)) ∙ ap (turned c.args.flip) (c.window-w.ensures x h ∙ ap (bit _) (sym (c.along-a.ensures.2 x)))) (c.loop-i.invariant.1 x h))

pub returns : goal.returns
returns c = λ x h. c.turn.ensures x (omega (arith, c.requires.4)) ∙ ap (turned c.args.flip) (some_all _ _ _ _ x _ (omega arith) (c.loop-i.invariant.1 x h))
