use Rattle.std.proofs.Common.{arith, sym, ◌∙◌}
use Rattle.call_tries.specs.Each.{answer, rest_start, rest_answered, rest_end}
use Rattle.call_tries.proofs.try_each.Goals as goal

pub loop-t-init : goal.loop-t-init
loop-t-init c = λ p serves. rest_start _ _

pub loop-t-preserved : goal.loop-t-preserved
loop-t-preserved c =
    λ p serves. rest_answered p _ _ _ _ _ _ c.answer.ensures (c.try_list-reply.ensures p serves) (omega (arith, c.loop-t.auto.tries, c.loop-t-test.true)) ∙ c.loop-t.invariant p serves

pub returns : goal.returns
returns c = λ p serves. sym (rest_end (answer p c.args.steps.now) c.loop-t.t-index c.loop-t.tries (omega (arith, c.loop-t.auto.tries, c.loop-t-test.false))) ∙ c.loop-t.invariant p serves
