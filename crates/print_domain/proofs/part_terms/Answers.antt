use borrow.Author.Rules.{rules}
use native.Mathlib.Omega.{arith}
use mathlib.Core.Path.{◌≡◌}
use lib.ListN.{length}
use Rattle.print_domain.specs.Nodes.{terms_none, terms_next, terms_more, terms_all}
use Rattle.print_domain.proofs.part_terms.Goals as goal
use Rattle.print_domain.proofs.part_terms.Goals.{Start}

long : (c : Start) → length c.args.q.levels ≡ 4
long c = search rules

pub parameters-t-requires : goal.parameters-t-requires
parameters-t-requires c = omega arith

pub loop-i-init : goal.loop-i-init
loop-i-init c = (omega arith, c.parameters-t.ensures.0, c.parameters-t.ensures.1, terms_none c.args.q.levels c.args.e.at _ c.parameters-t.ensures.2)

pub bounds-levels-i : goal.bounds-levels-i
bounds-levels-i c = omega (arith, c.wide-width.ensures.0, c.requires.width)

pub offset_bounds-env-l : goal.offset_bounds-env-l
offset_bounds-env-l c = omega (arith, c.wide-l.ensures.0, c.requires.levels c.loop-i.i)

pub bounds-env-l : goal.bounds-env-l
bounds-env-l c = omega (arith, c.wide-l.ensures.0, c.requires.levels c.loop-i.i)

pub with_term-t-requires : goal.with_term-t-requires
with_term-t-requires c = (omega (arith, c.loop-i.invariant.2, c.wide-width.ensures.0, c.requires.width), c.loop-i.invariant.1)

pub loop-i-preserved : goal.loop-i-preserved
loop-i-preserved c = (
  omega arith,
  c.with_term-t.ensures.0,
  omega (arith, c.with_term-t.ensures.1, c.loop-i.invariant.2),
  terms_next c.args.q.levels c.args.e.at c.loop-i.i _ _ _ (omega (arith, long (goal.at.loop-i-preserved c).Start, c.wide-width.ensures.0, c.requires.width)) c.wide-l.ensures.0 c.loop-i.invariant.3 c.with_term-t.ensures.2,
)

pub with_term-requires : goal.with_term-requires
with_term-requires c = (omega (arith, c.loop-i.invariant.0, c.loop-i.invariant.2, c.wide-width.ensures.0, c.requires.width), c.loop-i.invariant.1)

pub returns-then-q-eq2 : goal.returns-then-q-eq2
returns-then-q-eq2 c = (c.with_term.ensures.0, terms_more c.args.q c.args.e.at c.args.e.end c.loop-i.i _ _ _ c.if-q-eq2.true (omega arith) c.wide-width.ensures.0 c.loop-i.invariant.3 c.with_term.ensures.2)

pub returns : goal.returns
returns c = (c.loop-i.invariant.1, terms_all c.args.q c.args.e.at c.args.e.end c.loop-i.i _ _ c.if-q-eq2.false (omega arith) c.wide-width.ensures.0 c.loop-i.invariant.3)
