-- `problem_layout::fill` meets its contract.
use mathlib.Core.Path.{◌≡◌, sym, ◌∙◌}
use native.Mathlib.Omega.{arith}
use lib.ListN.{length}
use Rattle.problem_table.specs.Lines.{table_length}
use Rattle.problem_layout.specs.FilledLaws.{three_set, all_filled, filled}
use Rattle.problem_layout.proofs.fill.Goals as goal
use Rattle.problem_layout.proofs.fill.Goals.{After-fill_nodes, After-fill_parts, After-fill_relations}

-- the table keeps its length
with-relations : (c : After-fill_relations) → length c.fill_relations.new.table ≡ table_length
with-relations c =
    c.fill_relations.auto.table ∙ three_set c.args.table.now c.args.n c.args.g.count c.args.t.count ∙ c.requires.0

with-nodes : (c : After-fill_nodes) → length c.fill_relations.new.table ≡ table_length → length c.fill_nodes.new.table ≡ table_length
with-nodes c e = c.fill_nodes.auto.table ∙ e

with-parts : (c : After-fill_parts) → length c.fill_nodes.new.table ≡ table_length → length c.fill_parts.new.table ≡ table_length
with-parts c e = c.fill_parts.auto.table ∙ e

pub fill_relations-requires : goal.fill_relations-requires
fill_relations-requires c = (three_set c.args.table.now c.args.n c.args.g.count c.args.t.count ∙ c.requires.0, c.requires.4)

pub fill_nodes-requires : goal.fill_nodes-requires
fill_nodes-requires c = (with-relations (goal.at.fill_nodes-requires c).After-fill_relations, c.requires.9, c.requires.5, c.requires.6)

pub fill_parts-requires : goal.fill_parts-requires
fill_parts-requires c = (with-nodes (goal.at.fill_parts-requires c).After-fill_nodes (with-relations (goal.at.fill_parts-requires c).After-fill_relations), c.requires.2, c.requires.3, c.requires.5, c.requires.6, c.requires.9)

pub fill_ranges-requires : goal.fill_ranges-requires
fill_ranges-requires c = (omega (arith, with-parts (goal.at.fill_ranges-requires c).After-fill_parts (with-nodes (goal.at.fill_ranges-requires c).After-fill_nodes (with-relations (goal.at.fill_ranges-requires c).After-fill_relations)), c.requires.7), c.requires.3, c.requires.7, c.requires.8)

pub shape_of-table : goal.shape_of-table
shape_of-table c = c.fill_ranges.auto.table ∙ with-parts (goal.at.shape_of-table c).After-fill_parts (with-nodes (goal.at.shape_of-table c).After-fill_nodes (with-relations (goal.at.shape_of-table c).After-fill_relations)) ∙ sym c.requires.0

pub returns : goal.returns
returns c =
    let e = all_filled _ _ _ _ _ _ _ c.args.table.now _ _ _ _ c.fill_relations.ensures c.fill_nodes.ensures.0 c.fill_parts.ensures.0
    c.fill_ranges.ensures in (
      e,
      filled _ _ _ _ _ _ _ _ _ c.requires.0 c.requires.1 c.requires.2 c.requires.3 c.requires.4 c.requires.5 c.requires.6 c.requires.7 c.requires.9 c.requires.10 e c.fill_nodes.ensures.1
          c.fill_parts.ensures.1 c.fill_parts.ensures.2,
    )
