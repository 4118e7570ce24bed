-- `print_domain::and_schema` meets its contract. Assumes nothing.
use native.Mathlib.Omega.{arith}
use Rattle.print_domain.specs.Texts.{proved_fits}
use Rattle.print_domain.specs.Nodes.{small_and, and_parts}
use Rattle.print_bytes.specs.Emitted.{begin, next as then, finish}
use Rattle.print_domain.proofs.and_schema.Goals as goal

pub offset_bounds-t-v : goal.offset_bounds-t-v
offset_bounds-t-v c = omega (arith, c.requires.2)

pub bounds-t-v : goal.bounds-t-v
bounds-t-v c = omega (arith, c.requires.2)

pub head-headed-requires : goal.head-headed-requires
head-headed-requires c = (c.requires.0, small_and _, omega (arith, c.wide-width.ensures.0, (c.requires.1.nodes.node c.args.v).width))

pub kids-needed-requires : goal.kids-needed-requires
kids-needed-requires c = (c.requires.0, c.requires.1, c.requires.2)

pub parameters-own-requires : goal.parameters-own-requires
parameters-own-requires c = omega (arith, c.wide-width.ensures.0, (c.requires.1.nodes.node c.args.v).width)

pub proof_end-requires : goal.proof_end-requires
proof_end-requires c = (c.requires.0, proved_fits _ _, c.parameters-own.ensures.0)

pub returns : goal.returns
returns c = finish _ (then _ _ (then _ _ (then _ _ (begin _ (and_parts _ _ c.args.t c.args.v _ _ c.wide-width.ensures.0 _ c.parameters-own.ensures.2) (omega arith) (omega arith)) c.head-headed.ensures) c.text-opened.ensures) c.kids-needed.ensures) c.proof_end.ensures
