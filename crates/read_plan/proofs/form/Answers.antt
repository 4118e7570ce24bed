use native.Mathlib.Omega.{arith}
use mathlib.Core.Path.{refl, sym, ◌∙◌}
use lib.ListN.{length}
use Rattle.read_text.proofs.Laws.{end_within}
use Rattle.read_plan.specs.Lines.{formed_refused, read_over, going_first, going_on, going_wrong, going_open, going_end}
use Rattle.refusal.specs.declared.Cause.TheVariants.{TooLong}
use Rattle.read_plan.proofs.form.Goals as goal

pub returns-then-n-gt-LIMIT : goal.returns-then-n-gt-LIMIT
returns-then-n-gt-LIMIT c = rw c.at.ensures (formed_refused _ TooLong 0 (read_over _ (omega arith)))

pub loop-at-init : goal.loop-at-init
loop-at-init c = (omega arith, omega arith, refl, going_first _ (omega arith))

pub find-e-requires : goal.find-e-requires
find-e-requires c = (omega arith, omega arith)

pub returns-then-e-n : goal.returns-then-e-n
returns-then-e-n c = rw c.at-then-e-n.ensures (going_open c.args.s.now c.loop-at.at c.find-e.result c.loop-at.count (omega arith) c.find-e.ensures c.loop-at.invariant.3 (omega arith))

pub is_formed-requires : goal.is_formed-requires
is_formed-requires c = (omega (arith, c.find-e.ensures), omega (arith, c.find-e.ensures, end_within 10 c.loop-at.at (length c.args.s.now) c.args.s.now (omega arith) (omega arith)))

pub overflow_add-at : goal.overflow_add-at
overflow_add-at c = omega (arith, c.find-e.ensures, end_within 10 c.loop-at.at (length c.args.s.now) c.args.s.now (omega arith) (omega arith))

pub overflow_add-count : goal.overflow_add-count
overflow_add-count c = omega (arith, c.loop-at.invariant.1)

pub loop-at-smaller : goal.loop-at-smaller
loop-at-smaller c = omega (arith, c.find-e.ensures)

pub loop-at-preserved : goal.loop-at-preserved
loop-at-preserved c = (
  omega (arith, c.find-e.ensures, end_within 10 c.loop-at.at (length c.args.s.now) c.args.s.now (omega arith) (omega arith)),
  omega (arith, c.find-e.ensures, c.loop-at.invariant.1),
  c.loop-at.invariant.2,
  going_on c.args.s.now c.loop-at.at c.find-e.result c.loop-at.count (omega arith) c.find-e.ensures c.loop-at.invariant.3 (omega (arith, c.find-e.ensures, end_within 10 c.loop-at.at (length c.args.s.now) c.args.s.now (omega arith) (omega arith))) (sym c.is_formed.ensures ∙ c.if-not-is_formed.false),
)

pub returns-then-not-is_formed : goal.returns-then-not-is_formed
returns-then-not-is_formed c = rw c.at-then-not-is_formed.ensures (going_wrong c.args.s.now c.loop-at.at c.find-e.result c.loop-at.count (omega arith) c.find-e.ensures c.loop-at.invariant.3 (omega (arith, c.find-e.ensures, end_within 10 c.loop-at.at (length c.args.s.now) c.args.s.now (omega arith) (omega arith))) (sym c.is_formed.ensures ∙ c.if-not-is_formed.true))

pub returns : goal.returns
returns c = going_end c.args.s.now c.loop-at.at c.loop-at.count (omega (arith, c.loop-at.invariant.0)) c.loop-at.invariant.3
