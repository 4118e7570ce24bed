-- `print_domain::kid` meets its contract. Assumes nothing.
use native.Mathlib.Omega.{arith}
use Rattle.print_bytes.specs.Emitted.{emits_as}
use Rattle.print_domain.specs.Nodes.{kid_part}
use Rattle.print_domain.proofs.kid.Goals as goal

pub offset_bounds-t-v : goal.offset_bounds-t-v
offset_bounds-t-v c = omega (arith, c.requires.2)

pub bounds-t-v : goal.bounds-t-v
bounds-t-v c = omega (arith, c.requires.2)

pub env_of-e-requires : goal.env_of-e-requires
env_of-e-requires c = ((c.requires.1.nodes.node c.args.v).width, (c.requires.1.nodes.node c.args.v).levels)

pub overflow_add-q : goal.overflow_add-q
overflow_add-q c = omega (arith, c.requires.3, c.wide-first.ensures.0)

pub offset_bounds-t-first : goal.offset_bounds-t-first
offset_bounds-t-first c = omega (arith, c.requires.3, c.wide-first.ensures.0)

pub bounds-t-first : goal.bounds-t-first
bounds-t-first c = omega (arith, c.requires.3, c.wide-first.ensures.0)

pub part-requires : goal.part-requires
part-requires c = (c.requires.0, c.requires.1, c.requires.1.parts.part _)

pub returns : goal.returns
returns c = emits_as (kid_part _ _ c.args.t c.args.v _ _ _ _ _ c.wide-first.ensures.0 c.env_of-e.ensures.0 c.env_of-e.ensures.1) c.part.ensures
