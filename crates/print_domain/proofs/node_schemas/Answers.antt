-- `print_domain::node_schemas` meets its contract. Assumes nothing.
use native.Mathlib.Omega.{arith}
use Rattle.print_bytes.specs.Emitted.{emits_as}
use Rattle.print_domain.specs.Nodes.{node_forall, node_exists, node_and, node_or}
use Rattle.print_domain.proofs.node_schemas.Goals as goal

pub offset_bounds-t-v : goal.offset_bounds-t-v
offset_bounds-t-v c = omega (arith, c.requires.3, c.requires.1.few)

pub bounds-t-v : goal.bounds-t-v
bounds-t-v c = omega (arith, c.requires.3, c.requires.1.few)

pub forall_schemas-requires : goal.forall_schemas-requires
forall_schemas-requires c = (c.requires.0, c.requires.1, omega (arith, c.requires.3, c.requires.1.few), c.requires.2 c.args.v c.requires.3 (omega (arith, c.if-row-eq0.true)))

pub returns-then-row-eq0 : goal.returns-then-row-eq0
returns-then-row-eq0 c = emits_as (node_forall _ _ c.args.t c.args.v _ c.if-row-eq0.true) c.forall_schemas.ensures

pub exists_schema-requires : goal.exists_schema-requires
exists_schema-requires c = (c.requires.0, c.requires.1, omega (arith, c.requires.3, c.requires.1.few), c.requires.2 c.args.v c.requires.3 (omega (arith, c.if-row-eq1.true)))

pub returns-then-row-eq1 : goal.returns-then-row-eq1
returns-then-row-eq1 c = emits_as (node_exists _ _ c.args.t c.args.v _ c.if-row-eq1.true) c.exists_schema.ensures

pub and_schema-requires : goal.and_schema-requires
and_schema-requires c = (c.requires.0, c.requires.1, omega (arith, c.requires.3, c.requires.1.few))

pub returns-then-row-eq2 : goal.returns-then-row-eq2
returns-then-row-eq2 c = emits_as (node_and _ _ c.args.t c.args.v _ c.if-row-eq2.true) c.and_schema.ensures

pub or_schemas-requires : goal.or_schemas-requires
or_schemas-requires c = (c.requires.0, c.requires.1, omega (arith, c.requires.3, c.requires.1.few))

pub returns : goal.returns
returns c = emits_as (node_or _ _ c.args.t c.args.v _ c.if-row-eq0.false c.if-row-eq1.false c.if-row-eq2.false) c.or_schemas.ensures
