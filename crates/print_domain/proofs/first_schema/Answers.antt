-- `print_domain::first_schema` meets its contract. Assumes nothing.
use native.Mathlib.Omega.{arith}
use Rattle.print_domain.specs.Texts.{proved_fits}
use Rattle.print_domain.specs.Nodes.{small_first, first_parts}
use Rattle.print_bytes.specs.Emitted.{begin, next as then, finish}
use Rattle.print_domain.proofs.first_schema.Goals as goal

pub offset_bounds-t-v : goal.offset_bounds-t-v
offset_bounds-t-v c = omega (arith, c.requires.2)

pub bounds-t-v : goal.bounds-t-v
bounds-t-v c = omega (arith, c.requires.2)

pub head-headed-requires : goal.head-headed-requires
head-headed-requires c = (c.requires.0, small_first _, omega (arith, c.wide-width.ensures.0, (c.requires.1.nodes.node c.args.v).width))

pub under-needed-requires : goal.under-needed-requires
under-needed-requires c = (c.requires.0, c.requires.1, c.requires.2, c.requires.3)

pub parameters-requires : goal.parameters-requires
parameters-requires c = omega (arith, c.wide-width.ensures.0, (c.requires.1.nodes.node c.args.v).width)

pub with_term-own-requires : goal.with_term-own-requires
with_term-own-requires c = (omega (arith, c.parameters.ensures.1, c.wide-width.ensures.0, (c.requires.1.nodes.node c.args.v).width), c.parameters.ensures.0)

pub proof_end-requires : goal.proof_end-requires
proof_end-requires c = (c.requires.0, proved_fits _ _, c.with_term-own.ensures.0)

pub returns : goal.returns
returns c = finish _ (then _ _ (then _ _ (then _ _ (begin _ (first_parts _ _ c.args.t c.args.v _ _ c.wide-width.ensures.0 _ c.parameters.ensures.2 _ c.with_term-own.ensures.2) (omega arith) (omega arith)) c.head-headed.ensures) c.text-opened.ensures) c.under-needed.ensures) c.proof_end.ensures
