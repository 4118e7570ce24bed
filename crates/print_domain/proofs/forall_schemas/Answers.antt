-- `print_domain::forall_schemas` meets its contract. Assumes nothing.
use Rattle.print_domain.specs.Nodes.{forall_parts}
use native.Mathlib.Omega.{arith}
use Rattle.print_bytes.specs.Emitted.{begin, next as then, finish}
use Rattle.print_domain.proofs.forall_schemas.Goals as goal

pub first_schema-one-requires : goal.first_schema-one-requires
first_schema-one-requires c = (c.requires.0, c.requires.1, c.requires.2, c.requires.3)

pub next_schema-requires : goal.next_schema-requires
next_schema-requires c = (c.requires.0, c.requires.1, c.requires.2, c.requires.3)

pub returns : goal.returns
returns c = finish _ (then _ _ (begin _ (forall_parts _ _ _ _ _) (omega arith) (omega arith)) c.first_schema-one.ensures) c.next_schema.ensures
