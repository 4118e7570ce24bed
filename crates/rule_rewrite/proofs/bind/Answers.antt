use mathlib.Core.Path.{refl}
use native.Mathlib.Omega.{arith}
use lib.ListN.{length-set}
use Rattle.read_rule.specs.Bound.{ends_in}
use Rattle.rule_rewrite.specs.Ready.{ListReady}
use Rattle.rule_rewrite.proofs.Words.{Front, list_in, list_front, list_next, bind_last, bind_again}
use borrow.Author.Rules.{rules}
use Rattle.rule_rewrite.proofs.bind.Goals as goal
use Rattle.rule_rewrite.proofs.bind.Goals.{After-past_type-end}

-- the variable that is found, in any list that stands there, and in the invariant's
front : (c : After-past_type-end) → (w : ListReady c.args.s.now c.loop-inner.i c.loop-inner.inner) → Front _ _ _ w c.run-e.result c.past_type-end.result
front c w = list_front _ _ _ w _ _ c.run-e.ensures c.past_type-end.ensures

found : (c : After-past_type-end) → Front _ _ _ c.loop-inner.invariant.0 c.run-e.result c.past_type-end.result
found c = front c c.loop-inner.invariant.0

pub loop-inner-init : goal.loop-inner-init
loop-inner-init c = (c.requires.list_ready, search rules, search rules, search rules, λ r h. h)

pub overflow_add-i : goal.overflow_add-i
overflow_add-i c = omega (arith, list_in _ _ _ c.loop-inner.invariant.0, c.well_formed.0.0)

pub run-e-requires : goal.run-e-requires
run-e-requires c = omega (arith, list_in _ _ _ c.loop-inner.invariant.0)

pub past_type-end-requires : goal.past_type-end-requires
past_type-end-requires c = omega (arith, c.run-e.ensures, ends_in c.args.s.now c.loop-inner.i (list_in _ _ _ c.loop-inner.invariant.0))

pub sort_at-sort-requires : goal.sort_at-sort-requires
sort_at-sort-requires c = let e = ends_in c.args.s.now c.loop-inner.i (list_in _ _ _ c.loop-inner.invariant.0) in (omega (arith, c.run-e.ensures, e), c.requires.in_bounds.0, c.requires.in_bounds.1)

pub offset_bounds-inner-n : goal.offset_bounds-inner-n
offset_bounds-inner-n c = omega (arith, c.loop-inner.invariant.0.fits)

pub bounds-inner-n : goal.bounds-inner-n
bounds-inner-n c = omega (arith, c.loop-inner.invariant.0.fits)

pub offset_bounds-inner-n-in-loop-inner : goal.offset_bounds-inner-n-in-loop-inner
offset_bounds-inner-n-in-loop-inner c = omega (arith, c.loop-inner.invariant.0.fits)

pub bounds-inner-n-in-loop-inner : goal.bounds-inner-n-in-loop-inner
bounds-inner-n-in-loop-inner c = omega (arith, c.loop-inner.invariant.0.fits)

pub overflow_add-inner : goal.overflow_add-inner
overflow_add-inner c = omega (arith, c.loop-inner.invariant.0.fits)

pub bounds-sorts-n : goal.bounds-sorts-n
bounds-sorts-n c = omega (arith, c.loop-inner.invariant.0.fits, c.loop-inner.invariant.3)

pub bounds-s-end : goal.bounds-s-end
bounds-s-end c = omega (arith, (found (goal.at.bounds-s-end c).After-past_type-end).within)

pub overflow_add-result : goal.overflow_add-result
overflow_add-result c = omega (arith, (found (goal.at.overflow_add-result c).After-past_type-end).within, c.well_formed.0.0)

pub returns-then-s-end-ne32 : goal.returns-then-s-end-ne32
returns-then-s-end-ne32 c = let h = c.loop-inner.invariant in h.4 _ (λ w. bind_last _ _ _ w _ _ (front (goal.at.returns-then-s-end-ne32 c).After-past_type-end w) _ _ _ c.sort_at-sort.ensures h.1 h.2 h.3 c.if-s-end-ne32.true)

pub overflow_add-i-in-loop-inner : goal.overflow_add-i-in-loop-inner
overflow_add-i-in-loop-inner c = omega (arith, (found (goal.at.overflow_add-i-in-loop-inner c).After-past_type-end).within, c.well_formed.0.0)

pub loop-inner-smaller : goal.loop-inner-smaller
loop-inner-smaller c = let f = found (goal.at.loop-inner-smaller c).After-past_type-end in omega (arith, f.within, f.place, list_in _ _ _ c.loop-inner.invariant.0)

pub loop-inner-preserved : goal.loop-inner-preserved
loop-inner-preserved c =
    let h = c.loop-inner.invariant in (
      (list_next _ _ _ h.0 _ _ (found (goal.at.loop-inner-preserved c).After-past_type-end) _ refl c.if-s-end-ne32.false).ready,
      simp length-set h.1,
      simp length-set h.2,
      simp length-set h.3,
      λ r o. h.4 r (λ w. bind_again _ _ _ w _ _ (front (goal.at.loop-inner-preserved c).After-past_type-end w) _ _ _ c.sort_at-sort.ensures h.1 h.2 h.3 c.if-s-end-ne32.false o),
    )
