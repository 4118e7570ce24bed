-- `print_domain::part` meets its contract. Assumes nothing.
use Rattle.print_bytes.specs.Emitted.{emits_as}
use Rattle.print_domain.specs.Nodes.{part_parts}
use Rattle.print_domain.proofs.part.Goals as goal

pub part_word-w-requires : goal.part_word-w-requires
part_word-w-requires c = (c.requires.1, c.requires.2)

pub part_terms-terms-requires : goal.part_terms-terms-requires
part_terms-terms-requires c = c.requires.2

pub also-requires : goal.also-requires
also-requires c = (c.requires.0, c.part_word-w.ensures.1, c.part_terms-terms.ensures.0)

pub returns : goal.returns
returns c = emits_as (part_parts _ _ _ _ _ _ _ _ c.part_word-w.ensures.0 c.part_terms-terms.ensures.1) c.also.ensures
