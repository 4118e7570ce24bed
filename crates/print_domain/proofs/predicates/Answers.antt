-- `print_domain::predicates` meets its contract. Assumes nothing.
use mathlib.Core.Path.{refl}
use Rattle.print_domain.specs.Nodes.{predicates_in}
use native.Mathlib.Omega.{arith}
use Rattle.print_bytes.specs.Emitted.{begin, next as then, finish}
use Rattle.print_domain.proofs.predicates.Goals as goal

pub constants-listed-requires : goal.constants-listed-requires
constants-listed-requires c = c.requires.3

pub relations_lines-related-requires : goal.relations_lines-related-requires
relations_lines-related-requires c = (c.requires.0, c.requires.1)

pub nodes_lines-noded-requires : goal.nodes_lines-noded-requires
nodes_lines-noded-requires c = (c.requires.0, c.requires.2)

pub returns : goal.returns
unfolding predicates_in
returns c = finish _ (then _ _ (then _ _ (then _ _ (then _ _ (then _ _ (begin _ refl (omega arith) (omega arith)) c.text-titled.ensures) c.constants-listed.ensures) c.text-begun.ensures) c.relations_lines-related.ensures) c.nodes_lines-noded.ensures) c.text.ensures
