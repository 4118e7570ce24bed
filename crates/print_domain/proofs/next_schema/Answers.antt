-- `print_domain::next_schema` meets its contract. Assumes nothing.
use native.Mathlib.Omega.{arith}
use Rattle.print_instance.specs.Texts.{relation_fits}
use Rattle.print_domain.specs.Texts.{proved_fits, emits_size}
use Rattle.print_domain.specs.Nodes.{small_next, next_parts}
use Rattle.print_bytes.specs.Emitted.{begin, next as then, finish}
use Rattle.print_domain.proofs.next_schema.Goals as goal

pub offset_bounds-t-v : goal.offset_bounds-t-v
offset_bounds-t-v c = omega (arith, c.requires.2)

pub bounds-t-v : goal.bounds-t-v
bounds-t-v c = omega (arith, c.requires.2)

pub overflow_add-width : goal.overflow_add-width
overflow_add-width c = omega (arith, c.wide-width.ensures.1)

pub head-headed-requires : goal.head-headed-requires
head-headed-requires c = (c.requires.0, small_next _, omega (arith, c.wide-width.ensures.0, (c.requires.1.nodes.node c.args.v).width))

pub overflow_add-width-2 : goal.overflow_add-width-2
overflow_add-width-2 c = omega (arith, c.wide-width.ensures.1)

pub with_term-both-requires : goal.with_term-both-requires
with_term-both-requires c = (omega (arith, c.only.ensures.1), c.only.ensures.0)

pub also-followed-requires : goal.also-followed-requires
also-followed-requires c = (c.requires.0, relation_fits 0 2 (omega arith), c.with_term-both.ensures.0)

pub parameters-own-requires : goal.parameters-own-requires
parameters-own-requires c = omega (arith, c.wide-width.ensures.0, (c.requires.1.nodes.node c.args.v).width)

pub with_term-before-requires : goal.with_term-before-requires
with_term-before-requires c = (omega (arith, c.parameters-own.ensures.1, c.wide-width.ensures.0, (c.requires.1.nodes.node c.args.v).width), c.parameters-own.ensures.0)

pub also-owned-requires : goal.also-owned-requires
also-owned-requires c = (c.requires.0, proved_fits _ _, c.with_term-before.ensures.0)

pub overflow_add-width-3 : goal.overflow_add-width-3
overflow_add-width-3 c = omega (arith, c.wide-width.ensures.1)

pub under-needed-requires : goal.under-needed-requires
under-needed-requires c = (c.requires.0, c.requires.1, c.requires.2, c.requires.3)

pub overflow_add-width-4 : goal.overflow_add-width-4
overflow_add-width-4 c = omega (arith, c.wide-width.ensures.1)

pub with_term-after-requires : goal.with_term-after-requires
with_term-after-requires c = (omega (arith, c.parameters-own.ensures.1, c.wide-width.ensures.0, (c.requires.1.nodes.node c.args.v).width), c.parameters-own.ensures.0)

pub proof_end-requires : goal.proof_end-requires
proof_end-requires c = (c.requires.0, proved_fits _ _, c.with_term-after.ensures.0)

pub shape_of-out : goal.shape_of-out
shape_of-out c =
    emits_size (
    finish _ (then _ _ (then _ _ (then _ _ (then _ _ (then _ _ (begin _ (next_parts _ _ c.args.t c.args.v c.args.end _ c.wide-width.ensures.0 _ c.parameters-own.ensures.2 _ _ _ _ c.only.ensures.2 c.with_term-both.ensures.2 c.with_term-before.ensures.2 c.with_term-after.ensures.2) (omega arith) (omega arith)) c.head-headed.ensures) c.text-opened.ensures) c.also-followed.ensures) c.also-owned.ensures) c.under-needed.ensures) c.proof_end.ensures
    )

pub returns : goal.returns
returns c = finish _ (then _ _ (then _ _ (then _ _ (then _ _ (then _ _ (begin _ (next_parts _ _ c.args.t c.args.v _ _ c.wide-width.ensures.0 _ c.parameters-own.ensures.2 _ _ _ _ c.only.ensures.2 c.with_term-both.ensures.2 c.with_term-before.ensures.2 c.with_term-after.ensures.2) (omega arith) (omega arith)) c.head-headed.ensures) c.text-opened.ensures) c.also-followed.ensures) c.also-owned.ensures) c.under-needed.ensures) c.proof_end.ensures
