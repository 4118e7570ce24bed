-- `print_domain::exists_schema` meets its contract. Assumes nothing.
use native.Mathlib.Omega.{arith}
use Rattle.print_domain.specs.Texts.{proved_fits}
use Rattle.print_domain.specs.Nodes.{small_exists, exists_parts}
use Rattle.print_bytes.specs.Emitted.{begin, next as then, finish}
use Rattle.print_domain.proofs.exists_schema.Goals as goal

pub offset_bounds-t-v : goal.offset_bounds-t-v
offset_bounds-t-v c = omega (arith, c.requires.2)

pub bounds-t-v : goal.bounds-t-v
bounds-t-v c = omega (arith, c.requires.2)

pub overflow_add-width : goal.overflow_add-width
overflow_add-width c = omega (arith, c.wide-width.ensures.1)

pub head-headed-requires : goal.head-headed-requires
head-headed-requires c = (c.requires.0, small_exists _, omega (arith, c.wide-width.ensures.0, (c.requires.1.nodes.node c.args.v).width))

pub under-needed-requires : goal.under-needed-requires
under-needed-requires c = (c.requires.0, c.requires.1, c.requires.2, c.requires.3)

pub parameters-own-requires : goal.parameters-own-requires
parameters-own-requires c = omega (arith, c.wide-width.ensures.0, (c.requires.1.nodes.node c.args.v).width)

pub proof_end-requires : goal.proof_end-requires
proof_end-requires c = (c.requires.0, proved_fits _ _, c.parameters-own.ensures.0)

pub returns : goal.returns
returns c = finish _ (then _ _ (then _ _ (then _ _ (begin _ (exists_parts _ _ c.args.t c.args.v _ _ c.wide-width.ensures.0 _ c.parameters-own.ensures.2) (omega arith) (omega arith)) c.head-headed.ensures) c.text-opened.ensures) c.under-needed.ensures) c.proof_end.ensures
