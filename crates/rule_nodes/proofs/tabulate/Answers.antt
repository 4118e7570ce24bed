use Prim.Native.Nat.{◌+◌, ◌-◌, ◌≤◌, ◌<◌}
use mathlib.Core.Path.{refl, ap}
use native.Mathlib.Omega.{arith}
use Rattle.rule_nodes.proofs.Turns.{outer_start, inner_start, inner_again, free_width, leaf_room, outer_leaf, node_fits, outer_node, outer_end, table_of_lem}
use Rattle.rule_nodes.proofs.tabulate.Goals as goal
use Rattle.rule_nodes.proofs.tabulate.Goals.{Else-row-ge4, In-loop-j, Then-row-ge4}

-- a literal: there is space on the stack
leaf : (c : Then-row-ge4) → c.loop-i.height < 64
leaf c =
    leaf_room _ _ _ c.requires.1 _ _ _ _ _ _ c.loop-i.invariant c.loop-i-test.true _ c.row_at-row.ensures
    (omega (arith, c.if-row-ge4.true))

-- a node: its parts are on the stack, and there is space for them and for its row
node : (c : Else-row-ge4) → let r = c.row_at-row.result in
    let l = c.loop-i in
    (r.many ≤ l.height) × (l.placed + r.many ≤ 64) × (r.which < 64) × (l.height - r.many < 64)
node c =
    node_fits _ _ _ c.requires.1 _ _ _ _ _ _ c.loop-i.invariant c.loop-i-test.true _ c.row_at-row.ensures
    (omega (arith, c.if-row-ge4.false))

-- ... for one part more
space : (c : In-loop-j)
    → let r = c.row_at-row.result in
    let l = c.loop-i in
    (r.many ≤ l.height) × (l.placed + r.many ≤ 64) × (r.which < 64) × (l.height - r.many < 64) → c.loop-j.placed < 64
space c n =
    omega (arith, n.0, n.1, c.loop-j.invariant.count, c.loop-j.invariant.low, c.loop-j-test.true, c.wide.ensures.0)

pub loop-i-init : goal.loop-i-init
loop-i-init c = outer_start _ _ _ c.no_part-blank.ensures c.no_row-blank_row.ensures c.requires.2

pub row_at-row-requires : goal.row_at-row-requires
row_at-row-requires c = (c.requires.0, omega (arith, c.loop-i-test.true, c.requires.1))

pub leaf_part-requires : goal.leaf_part-requires
leaf_part-requires c = omega (arith, c.if-row-ge4.true)

pub offset_bounds-stack-height : goal.offset_bounds-stack-height
offset_bounds-stack-height c = omega (arith, leaf (goal.at.offset_bounds-stack-height c).Then-row-ge4)

pub bounds-stack-height : goal.bounds-stack-height
bounds-stack-height c = omega (arith, leaf (goal.at.bounds-stack-height c).Then-row-ge4)

pub overflow_add-height : goal.overflow_add-height
overflow_add-height c = omega (arith, leaf (goal.at.overflow_add-height c).Then-row-ge4)

pub loop-i-preserved-then-row-ge4 : goal.loop-i-preserved-then-row-ge4
loop-i-preserved-then-row-ge4 c =
    outer_leaf _ _ _ c.requires.1 _ _ _ _ _ _ c.loop-i.invariant c.loop-i-test.true _ c.row_at-row.ensures
    (omega (arith, c.if-row-ge4.true)) _ c.leaf_part.ensures

pub overflow_sub-base : goal.overflow_sub-base
overflow_sub-base c = omega (arith, c.wide.ensures.0, (node (goal.at.overflow_sub-base c).Else-row-ge4).0)

pub loop-j-init : goal.loop-j-init
loop-j-init c = inner_start _ _ _ _ _ (omega arith)

pub offset_bounds-stack-j : goal.offset_bounds-stack-j
offset_bounds-stack-j c = omega (arith, c.loop-j-test.true, c.loop-i.invariant.tall)

pub bounds-stack-j : goal.bounds-stack-j
bounds-stack-j c = omega (arith, c.loop-j-test.true, c.loop-i.invariant.tall)

pub offset_bounds-parts-placed : goal.offset_bounds-parts-placed
offset_bounds-parts-placed c = omega (arith, space (goal.at.offset_bounds-parts-placed c).In-loop-j (node (goal.at.offset_bounds-parts-placed c).Else-row-ge4))

pub bounds-parts-placed : goal.bounds-parts-placed
bounds-parts-placed c = omega (arith, space (goal.at.bounds-parts-placed c).In-loop-j (node (goal.at.bounds-parts-placed c).Else-row-ge4))

pub overflow_add-placed : goal.overflow_add-placed
overflow_add-placed c = omega (arith, space (goal.at.overflow_add-placed c).In-loop-j (node (goal.at.overflow_add-placed c).Else-row-ge4))

pub loop-j-preserved : goal.loop-j-preserved
loop-j-preserved c =
    inner_again _ _ _ _ _ _ _ _ _ c.loop-j.invariant _ _ c.loop-j-test.true
    (omega (arith, c.loop-i.invariant.tall, c.loop-i.invariant.stack_length)) refl c.also-marks.ensures

pub node_row-requires : goal.node_row-requires
node_row-requires c = (free_width _ _ c.free_levels-free.ensures, omega (arith, (node (goal.at.node_row-requires c).Else-row-ge4).1))

pub offset_bounds-rows-v : goal.offset_bounds-rows-v
offset_bounds-rows-v c = omega (arith, c.wide-v.ensures.0, (node (goal.at.offset_bounds-rows-v c).Else-row-ge4).2)

pub bounds-rows-v : goal.bounds-rows-v
bounds-rows-v c = omega (arith, c.wide-v.ensures.0, (node (goal.at.bounds-rows-v c).Else-row-ge4).2)

pub node_part-requires : goal.node_part-requires
node_part-requires c = free_width _ _ c.free_levels-free.ensures

pub offset_bounds-stack-base : goal.offset_bounds-stack-base
offset_bounds-stack-base c = omega (arith, c.wide.ensures.0, (node (goal.at.offset_bounds-stack-base c).Else-row-ge4).3)

pub bounds-stack-base : goal.bounds-stack-base
bounds-stack-base c = omega (arith, c.wide.ensures.0, (node (goal.at.bounds-stack-base c).Else-row-ge4).3)

pub overflow_add-height-in-loop-i : goal.overflow_add-height-in-loop-i
overflow_add-height-in-loop-i c = omega (arith, c.wide.ensures.0, (node (goal.at.overflow_add-height-in-loop-i c).Else-row-ge4).3)

pub loop-i-preserved : goal.loop-i-preserved
loop-i-preserved c =
    outer_node _ _ _ c.requires.1 _ _ _ _ _ _ c.loop-i.invariant c.loop-i-test.true _ c.row_at-row.ensures
    (omega (arith, c.if-row-ge4.false)) _
    (ap (λ m. c.loop-i.height - m) c.wide.ensures.0) _ _ _ _ c.loop-j.invariant (omega (arith, c.loop-j-test.false)) _ _ _ _
    c.free_levels-free.ensures c.wide-v.ensures.0 c.node_row.ensures c.node_part.ensures

pub returns : goal.returns
returns c = table_of_lem _ c.loop-i.stack _ _ c.loop-i.height _ (outer_end _ _ _ c.requires.1 _ _ _ _ _ _ c.loop-i.invariant (omega (arith, c.loop-i-test.false)))
