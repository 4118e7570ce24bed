use Prim.Native.Nat.{◌≤◌}
use lib.ListN.{length}
use native.Mathlib.Omega.{arith}
use Rattle.read_rule.specs.Spans.{grow_none, listed_none, listed_end}
use Rattle.read_rule.specs.Bound.{ends_in, past_in, grow_step}
use Rattle.read_rule.proofs.grow.Goals as goal

pub loop-more-init : goal.loop-more-init
loop-more-init c = (c.requires, λ r h. h)

pub returns-then-i-s : goal.returns-then-i-s
returns-then-i-s c = let l = c.loop-more in l.invariant.1 _ (rw (listed_end c.args.s.now l.i l.more c.if-i-s.true) (grow_none _ _ l.invariant.0))

pub overflow_add-i : goal.overflow_add-i
overflow_add-i c = omega arith

pub run-e-requires : goal.run-e-requires
run-e-requires c = omega arith

pub push-grown-requires : goal.push-grown-requires
push-grown-requires c = c.loop-more.invariant.0

-- the variable ends in the text
pub past_type-i-requires : goal.past_type-i-requires
past_type-i-requires c = omega (arith, c.run-e.ensures, ends_in c.args.s.now c.loop-more.i (omega arith))

pub overflow_add-i-in-loop-more : goal.overflow_add-i-in-loop-more
overflow_add-i-in-loop-more c = let ends : c.run-e.result ≤ length c.args.s.now = omega (arith, c.run-e.ensures, ends_in c.args.s.now c.loop-more.i (omega arith)) in
    omega (arith, c.past_type-i.ensures, past_in c.args.s.now _ ends)

pub overflow_sub-more : goal.overflow_sub-more
overflow_sub-more c = omega arith

pub loop-more-smaller : goal.loop-more-smaller
loop-more-smaller c = omega arith

pub loop-more-preserved : goal.loop-more-preserved
loop-more-preserved c = (
  c.push-grown.ensures.small,
  λ r h. c.loop-more.invariant.1 r
      (grow_step _ _ c.loop-more.more _ _ _ _ _ (λ e. omega arith) (omega arith) c.run-e.ensures c.past_type-i.ensures
      c.push-grown.ensures h),
)

pub returns : goal.returns
returns c = let l = c.loop-more in l.invariant.1 _ (rw (listed_none c.args.s.now l.i l.more (omega arith)) (grow_none _ _ l.invariant.0))
