-- `print_domain::domain` meets its contract. Assumes nothing.
use native.Mathlib.Omega.{arith}
use Rattle.print_domain.specs.Nodes.{domain_parts}
use Rattle.print_bytes.specs.Emitted.{begin, next as then, finish}
use Rattle.print_domain.proofs.domain.Goals as goal

pub predicates-stated-requires : goal.predicates-stated-requires
predicates-stated-requires c = (c.requires.0, c.requires.1, c.requires.2, c.requires.4)

pub guesses-guessed-requires : goal.guesses-guessed-requires
guesses-guessed-requires c = (c.requires.0, c.requires.1)

pub overflow_add-end : goal.overflow_add-end
overflow_add-end c = omega (arith, c.requires.5)

pub nodes_schemas-proved-requires : goal.nodes_schemas-proved-requires
nodes_schemas-proved-requires c = (c.requires.0, c.requires.2, c.requires.3)

pub goal_schema-ended-requires : goal.goal_schema-ended-requires
goal_schema-ended-requires c = (c.requires.0, c.requires.2)

pub returns : goal.returns
returns c = finish _ (then _ _ (then _ _ (then _ _ (then _ _ (begin _ (domain_parts _ _ _ _ _) (omega arith) (omega arith)) c.predicates-stated.ensures) c.guesses-guessed.ensures) c.nodes_schemas-proved.ensures) c.goal_schema-ended.ensures) c.text.ensures
