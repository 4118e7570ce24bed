-- `print_instance::places` meets its contract. Assumes nothing.
use native.Mathlib.Omega.{arith}
use mathlib.Core.Path.{sym, ◌∙◌}
use Rattle.print_instance.specs.Texts.{no_places, one_place, two_places, row_most, pair_small}
use Rattle.print_instance.proofs.places.Goals as goal

pub returns-then-count-eq0 : goal.returns-then-count-eq0
returns-then-count-eq0 c = (c.parameters-none.ensures.0, c.parameters-none.ensures.1 ∙ sym c.if-count-eq0.true, c.parameters-none.ensures.2 ∙ no_places _ _ _ c.if-count-eq0.true)

pub overflow_add-row : goal.overflow_add-row
overflow_add-row c = omega (arith, row_most c.args.n c.args.count c.args.row c.requires.1 c.requires.2 c.requires.3)

pub with_term-requires : goal.with_term-requires
with_term-requires c = (omega (arith, c.parameters-none.ensures.1), c.parameters-none.ensures.0)

pub returns-then-count-eq1 : goal.returns-then-count-eq1
returns-then-count-eq1 c = (c.with_term.ensures.0, omega (arith, c.with_term.ensures.1, c.parameters-none.ensures.1, c.if-count-eq1.true), one_place _ _ _ _ _ c.if-count-eq1.true c.requires.3 c.parameters-none.ensures.2 c.with_term.ensures.2)

pub overflow_add-row-2 : goal.overflow_add-row-2
overflow_add-row-2 c = omega (arith, (pair_small c.args.n c.args.count c.args.row c.requires.0 (omega (arith, c.if-count-eq0.false, c.if-count-eq1.false, c.requires.2)) c.requires.3).0, c.requires.1)

pub with_term-one-requires : goal.with_term-one-requires
with_term-one-requires c = (omega (arith, c.parameters-none.ensures.1), c.parameters-none.ensures.0)

pub overflow_add-row-3 : goal.overflow_add-row-3
overflow_add-row-3 c = omega (arith, (pair_small c.args.n c.args.count c.args.row c.requires.0 (omega (arith, c.if-count-eq0.false, c.if-count-eq1.false, c.requires.2)) c.requires.3).1, c.requires.1)

pub with_term-requires-2 : goal.with_term-requires-2
with_term-requires-2 c = (omega (arith, c.with_term-one.ensures.1, c.parameters-none.ensures.1), c.with_term-one.ensures.0)

pub returns : goal.returns
returns c = (c.with_term-2.ensures.0, omega (arith, c.with_term-2.ensures.1, c.with_term-one.ensures.1, c.parameters-none.ensures.1, c.if-count-eq0.false, c.if-count-eq1.false, c.requires.2), two_places c.args.n c.args.count c.args.row _ _ _ c.requires.0 (omega (arith, c.if-count-eq0.false, c.if-count-eq1.false, c.requires.2)) c.requires.3 c.parameters-none.ensures.2 c.with_term-one.ensures.2 c.with_term-2.ensures.2)
