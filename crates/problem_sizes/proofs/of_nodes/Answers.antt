use Prim.Native.Nat.{ℕ, ◌*◌, ◌≤◌, ◌<◌, ◌^◌}
use mathlib.Core.Path.{◌≡◌, ap, ◌∙◌}
use native.Mathlib.Omega.{arith}
use lib.ListN.{get_or, length, take, length-take}
use Rattle.std.proofs.lemmas.List.{get_or-take}
use Rattle.rule_nodes.specs.declared.NodeRow.{NodeRow}
use Rattle.rule_nodes.specs.declared.Nodes.{Nodes}
use Rattle.rule_nodes.specs.Tables.{no_node}
use Rattle.problem_layout.specs.Laid.{node_width, choices_at}
use Rattle.problem_layout.specs.LaidLaws.{choices_at_lem, acts_le, node_width_le, pow_fits, size_most}
use Rattle.problem_sizes.specs.SumLaws.{nodes_first, nodes_next, node_counts}
use Rattle.problem_sizes.proofs.of_nodes.Goals as goal
use Rattle.problem_sizes.proofs.of_nodes.Goals.{After-choices, After-node_width-atoms, After-power-rows, After-wide-in-loop-row, At-loop-row}

-- a row of the lent part is that of the table
row_is : (t : Nodes) (i : ℕ) → i < length (take t.count t.rows) → get_or (take t.count t.rows) i no_node ≡ get_or t.rows i no_node
row_is t i h = get_or-take t.count t.rows i no_node (omega (arith, length-take t.count t.rows))

-- the counts so far
counts-small : (c : At-loop-row) → (c.loop-row.atoms ≤ 2 ^ 36) × (c.loop-row.actions ≤ 2 ^ 36)
counts-small c = node_counts c.args.n c.requires.1 c.args.ranges.count c.args.t c.requires.3.count c.requires.2
    c.loop-row.row-index c.loop-row.nodes c.loop-row.atoms c.loop-row.actions (omega arith) c.loop-row.invariant

-- how many values its free variables have
rows_are : (c : After-power-rows) → c.power-rows.result ≡ c.args.n ^ (get_or c.args.t.rows c.loop-row.row-index no_node).width
rows_are c = c.power-rows.ensures ∙ ap (λ (k : ℕ). c.args.n ^ k) (c.wide.ensures.0 ∙ ap (λ (r : NodeRow). r.width) (row_is c.args.t _ c.loop-row-test.true))

rows-small : (c : After-power-rows) → c.power-rows.result ≤ 64 ^ 4
rows-small c =
    let v = c.loop-row.row-index in size_most c.args.n (get_or c.args.t.rows c.loop-row.row-index no_node).width c.power-rows.result (rows_are c) c.requires.1 (c.requires.2.nodes.node v).width

-- how many atoms it has
row-width : (c : After-node_width-atoms)
    → c.node_width-atoms.result ≡ node_width c.args.n c.power-rows.result (get_or c.args.t.rows c.loop-row.row-index no_node).kind
row-width c = c.node_width-atoms.ensures ∙ ap (node_width c.args.n c.power-rows.result) (c.wide-kind.ensures.0 ∙ ap (λ (r : NodeRow). r.kind) (row_is c.args.t _ c.loop-row-test.true))

width_small : (c : After-node_width-atoms) → c.power-rows.result ≤ 64 ^ 4 → c.node_width-atoms.result ≤ 64 ^ 4 * 64
width_small c small =
    let w = node_width_le c.args.n c.power-rows.result (get_or c.args.t.rows c.loop-row.row-index no_node).kind c.requires.1 small in
    omega (arith, row-width c)

-- its sort is one of nine
sort-small : (c : After-wide-in-loop-row) → c.wide-in-loop-row.result < 9
sort-small c = omega (arith, c.wide-in-loop-row.ensures.0 ∙ ap (λ (r : NodeRow). r.sort) (row_is c.args.t _ c.loop-row-test.true), (c.requires.2.nodes.node c.loop-row.row-index).sort)

-- how many actions it has at each of these, and in all
row-choices : (c : After-choices) → c.choices.result
    ≡ choices_at c.args.ranges.count
    c.args.t
    c.loop-row.row-index
row-choices c =
    c.choices.ensures ∙ choices_at_lem c.args.ranges.count (c.wide-in-loop-row.ensures.0 ∙ ap (λ (r : NodeRow). r.sort) (row_is c.args.t _ c.loop-row-test.true))
    (c.wide-kind.ensures.0 ∙ ap (λ (r : NodeRow). r.kind) (row_is c.args.t _ c.loop-row-test.true))
    (c.wide-in-loop-row-2.ensures.0 ∙ ap (λ (r : NodeRow). r.many) (row_is c.args.t _ c.loop-row-test.true))

acts_small : (c : After-choices) → c.power-rows.result ≡ c.args.n ^ (get_or c.args.t.rows c.loop-row.row-index no_node).width → c.power-rows.result * c.choices.result ≤ 64 ^ 4 * 64
acts_small c rows =
    acts_le c.args.n c.args.ranges.count c.args.t 0 0 c.requires.1 c.requires.3.count c.requires.2 c.loop-row.row-index c.power-rows.result c.choices.result rows (row-choices c)

pub loop-row-init : goal.loop-row-init
loop-row-init c = nodes_first c.args.n c.args.ranges.count c.args.t

pub power-rows-requires : goal.power-rows-requires
power-rows-requires c = let w = c.wide.ensures.0 ∙ ap (λ (r : NodeRow). r.width) (row_is c.args.t _ c.loop-row-test.true) in (c.requires.0, pow_fits c.args.n c.wide.result c.requires.1 (omega (arith, w, (c.requires.2.nodes.node c.loop-row.row-index).width)))

pub node_width-atoms-requires : goal.node_width-atoms-requires
node_width-atoms-requires c = (c.requires.1, rows-small c)

pub overflow_add-atoms : goal.overflow_add-atoms
overflow_add-atoms c = omega (arith, (counts-small (goal.at.overflow_add-atoms c).At-loop-row).0, width_small (goal.at.overflow_add-atoms c).After-node_width-atoms (rows-small (goal.at.overflow_add-atoms c).After-power-rows))

pub offset_bounds-ranges-wide : goal.offset_bounds-ranges-wide
offset_bounds-ranges-wide c = omega (arith, sort-small c)

pub bounds-ranges-wide : goal.bounds-ranges-wide
bounds-ranges-wide c = omega (arith, sort-small c)

pub overflow_mul-actions : goal.overflow_mul-actions
overflow_mul-actions c = omega (arith, acts_small (goal.at.overflow_mul-actions c).After-choices (rows_are (goal.at.overflow_mul-actions c).After-power-rows))

pub overflow_add-actions : goal.overflow_add-actions
overflow_add-actions c = omega (arith, (counts-small (goal.at.overflow_add-actions c).At-loop-row).1, acts_small (goal.at.overflow_add-actions c).After-choices (rows_are (goal.at.overflow_add-actions c).After-power-rows))

-- as many as came before, and there are at most 64
pub overflow_add-nodes : goal.overflow_add-nodes
overflow_add-nodes c = omega (arith, c.loop-row.invariant.visited, c.loop-row-test.true, length-take c.args.t.count c.args.t.rows, c.requires.2.few)

pub loop-row-preserved : goal.loop-row-preserved
loop-row-preserved c =
    let at = goal.at.loop-row-preserved c in
    let s = nodes_next c.args.n c.args.ranges.count c.args.t c.loop-row.row-index c.loop-row.nodes c.loop-row.atoms c.loop-row.actions c.power-rows.result c.node_width-atoms.result c.choices.result
    (rows_are at.After-power-rows) (row-width at.After-node_width-atoms) (row-choices c) c.loop-row.invariant in
    record { visited = s.visited; atoms_are = omega (arith, s.atoms_are); actions_are = s.actions_are }

pub returns : goal.returns
returns c =
    let e : c.loop-row.row-index ≡ c.args.t.count = omega arith in
    rw e at c.loop-row.invariant
