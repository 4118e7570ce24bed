use native.Mathlib.Omega.{arith}
use mathlib.Core.Path.{refl, sym, ◌∙◌}
use Rattle.read_plan.specs.Spans.{letters_hit, letters_miss, letters_end}
use Rattle.read_plan.proofs.same_letters.Goals as goal

pub loop-i-init : goal.loop-i-init
loop-i-init c = (omega arith, refl)

pub bounds-t-i : goal.bounds-t-i
bounds-t-i c = omega (arith, c.requires.0)

pub overflow_add-a : goal.overflow_add-a
overflow_add-a c = omega (arith, c.requires.1)

pub bounds-s-a : goal.bounds-s-a
bounds-s-a c = omega (arith, c.requires.1)

pub returns-then-small : goal.returns-then-small
returns-then-small c = sym (c.loop-i.invariant.1 ∙ letters_miss c.args.t.now c.args.n c.args.s.now c.args.a c.requires.0 c.requires.1 c.loop-i.i (omega arith) (λ w. c.if-small.true (c.small.ensures ∙ w ∙ sym c.small-in-loop-i.ensures)))

pub loop-i-preserved : goal.loop-i-preserved
loop-i-preserved c = (omega arith, c.loop-i.invariant.1 ∙ letters_hit c.args.t.now c.args.n c.args.s.now c.args.a c.requires.0 c.requires.1 c.loop-i.i (omega arith) (sym c.small.ensures ∙ c.if-small.false ∙ c.small-in-loop-i.ensures))

pub returns : goal.returns
returns c = sym (c.loop-i.invariant.1 ∙ letters_end c.args.t.now c.args.n c.args.s.now c.args.a c.requires.0 c.requires.1 c.loop-i.i (omega arith))
