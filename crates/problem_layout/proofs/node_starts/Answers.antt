use Prim.Native.Nat.{ℕ, ◌*◌, ◌≤◌, ◌<◌, ◌^◌}
use mathlib.Core.Path.{◌≡◌, refl, ap, ◌∙◌}
use native.Mathlib.Omega.{arith}
use borrow.Author.Rules.{rules}
use lib.ListN.{get_or, length-set}
use Rattle.rule_nodes.specs.Tables.{no_node}
use Rattle.rule_nodes.specs.declared.NodeRow.{NodeRow}
use Rattle.problem_layout.specs.Laid.{node_width, choices_at}
use Rattle.problem_layout.specs.LaidLaws.{choices_at_lem, nodes_first, nodes_next, node_bound, act_bound, acts_le, node_width_le, pow_fits, size_most}
use Rattle.problem_layout.proofs.node_starts.Goals as goal
use Rattle.problem_layout.proofs.node_starts.Goals.{After-choices, After-node_width-at, After-power-rows, After-wide-in-loop-v, In-loop-v}

-- the row of the node where the loop stands
abbrev row : In-loop-v → NodeRow
row c = get_or c.args.t.rows c.loop-v.v no_node

-- what is known of the sums so far
low : (c : In-loop-v) → let l = c.loop-v in (l.at ≤ 2 ^ 40) × (l.acts ≤ 2 ^ 40)
low c =
    let l = c.loop-v in let a = node_bound _ c.args.ranges.count _ c.args.from c.args.first c.requires.1 c.requires.5.count c.requires.2 l.v in
    let b = act_bound _ c.args.ranges.count _ c.args.from c.args.first c.requires.1 c.requires.5.count c.requires.2 l.v in
    (omega (arith, l.invariant.3.at_is), omega (arith, l.invariant.3.act_is))

-- how many values its free variables have
rows_are : (c : After-power-rows)
    → c.power-rows.result ≡ c.args.n ^ (get_or c.args.t.rows c.loop-v.v no_node).width
rows_are c = c.power-rows.ensures ∙ ap (λ (k : ℕ). c.args.n ^ k) c.wide.ensures.0

rows-small : (c : After-power-rows) → c.power-rows.result ≤ 64 ^ 4
rows-small c =
    size_most _ _ _ (rows_are c) c.requires.1 (c.requires.2.nodes.node c.loop-v.v).width

-- its sort is one of nine
sort-small : (c : After-wide-in-loop-v) → c.wide-in-loop-v.result < 9
sort-small c =
    omega (arith, c.wide-in-loop-v.ensures.0, (c.requires.2.nodes.node c.loop-v.v).sort)

-- how many actions it has at each of these, and in all
row-choices : (c : After-choices)
    → c.choices.result ≡ choices_at c.args.ranges.count c.args.t c.loop-v.v
row-choices c =
    c.choices.ensures ∙ choices_at_lem c.args.ranges.count c.wide-in-loop-v.ensures.0
    c.wide-kind.ensures.0 c.wide-in-loop-v-2.ensures.0

acts_small : (c : After-choices) → c.power-rows.result ≡ c.args.n ^ (get_or c.args.t.rows c.loop-v.v no_node).width → c.power-rows.result * c.choices.result ≤ 64 ^ 4 * 64
acts_small c p =
    acts_le _ c.args.ranges.count _ c.args.from c.args.first c.requires.1 c.requires.5.count c.requires.2 _ _ _ p (row-choices c)

-- how many atoms it has
row-width : (c : After-node_width-at)
    → c.node_width-at.result ≡ node_width c.args.n c.power-rows.result (get_or c.args.t.rows c.loop-v.v no_node).kind
row-width c = c.node_width-at.ensures ∙ ap (node_width _ _) c.wide-kind.ensures.0

pub bounds-node-0 : goal.bounds-node-0
bounds-node-0 c = omega arith

pub bounds-act-0 : goal.bounds-act-0
bounds-act-0 c = omega arith

pub loop-v-init : goal.loop-v-init
loop-v-init c = (omega arith, refl, refl, nodes_first _ _ _ _ _, search rules)

pub power-rows-requires : goal.power-rows-requires
power-rows-requires c = let w = c.wide.ensures.0 in (c.requires.0, pow_fits _ _ c.requires.1 (omega (arith, w, (c.requires.2.nodes.node c.loop-v.v).width)))

pub node_width-at-requires : goal.node_width-at-requires
node_width-at-requires c = (c.requires.1, rows-small c)

pub overflow_add-at : goal.overflow_add-at
overflow_add-at c = omega (arith, low (goal.at.overflow_add-at c).In-loop-v, row-width c, node_width_le _ _ (row (goal.at.overflow_add-at c).In-loop-v).kind c.requires.1 (rows-small (goal.at.overflow_add-at c).After-power-rows))

pub offset_bounds-ranges-wide : goal.offset_bounds-ranges-wide
offset_bounds-ranges-wide c = omega (arith, sort-small c)

pub bounds-ranges-wide : goal.bounds-ranges-wide
bounds-ranges-wide c = omega (arith, sort-small c)

pub overflow_mul-acts : goal.overflow_mul-acts
overflow_mul-acts c = omega (arith, acts_small (goal.at.overflow_mul-acts c).After-choices (rows_are (goal.at.overflow_mul-acts c).After-power-rows))

pub overflow_add-acts : goal.overflow_add-acts
overflow_add-acts c = omega (arith, low (goal.at.overflow_add-acts c).In-loop-v, acts_small (goal.at.overflow_add-acts c).After-choices (rows_are (goal.at.overflow_add-acts c).After-power-rows))

pub loop-v-preserved : goal.loop-v-preserved
loop-v-preserved c =
    let l = c.loop-v in (
      omega arith,
      length-set l.node _ _ ∙ l.invariant.1,
      length-set l.act _ _ ∙ l.invariant.2,
      nodes_next _ _ _ _ _ c.requires.1 c.requires.5.count c.requires.2 _ _ _ _ _ _ _ _ (omega arith) l.invariant.1 l.invariant.2 (rows_are ((goal.at.loop-v-preserved c).After-power-rows)) (row-width ((goal.at.loop-v-preserved c).After-node_width-at))
          (row-choices c) l.invariant.3,
      l.invariant.4,
    )

pub returns : goal.returns
returns c = let k = c.loop-v in let e : k.v ≡ c.args.t.count = omega arith in rw e at k.invariant.3
