use Prim.Native.Nat.{ℕ, ◌^◌, ◌<◌}
use mathlib.Core.Path.{◌≡◌, refl, ap, ◌∙◌, subst}
use mathlib.Core.List.{List}
use native.Mathlib.Omega.{arith}
use lib.ListN.{get_or}
use Rattle.rule_nodes.specs.Tables.{no_node}
use Rattle.rows.specs.Values.{Most}
use Rattle.problem_layout.specs.SpliceLaws.{tab_none}
use Rattle.problem_layout.specs.TurnLaws.{one_more}
use Rattle.eval_table.specs.Lined.{node_of}
use Rattle.eval_table.specs.Numbers.{node_numbers, node_lines, node_turn}
use Rattle.eval_table.proofs.fill_nodes.Goals as goal
use Rattle.eval_table.proofs.fill_nodes.Goals.{After-wide, In-loop-v}

-- the loop stands at one of 64 nodes
few : (c : In-loop-v) → c.loop-v.v < 64
few c = omega (arith, c.loop-v-test.true, c.requires.2.few)

-- its sort is one of nine
sort-small : (c : After-wide) → c.wide.result < 9
sort-small c = omega (arith, c.wide.ensures.0, (c.requires.2.nodes.node c.loop-v.v).sort)

pub loop-v-init : goal.loop-v-init
loop-v-init c = (omega arith, refl, tab_none (node_lines c.args.ranges.count c.args.t) 0 c.args.lines.now, λ u h. absurd (omega arith))

pub offset_bounds-t-v : goal.offset_bounds-t-v
offset_bounds-t-v c = omega (arith, few c)

pub bounds-t-v : goal.bounds-t-v
bounds-t-v c = omega (arith, few c)

pub offset_bounds-ranges-wide : goal.offset_bounds-ranges-wide
offset_bounds-ranges-wide c = omega (arith, sort-small c)

pub bounds-ranges-wide : goal.bounds-ranges-wide
bounds-ranges-wide c = omega (arith, sort-small c)

pub node_line-line-requires : goal.node_line-line-requires
node_line-line-requires c = (c.requires.1.count _, c.requires.2)

pub overflow_mul-v : goal.overflow_mul-v
overflow_mul-v c = omega (arith, few (goal.at.overflow_mul-v c).In-loop-v)

pub store-requires : goal.store-requires
store-requires c = omega (arith, few (goal.at.store-requires c).In-loop-v, c.requires.0, c.loop-v.invariant.1)

pub loop-v-preserved : goal.loop-v-preserved
loop-v-preserved c =
    let l = c.loop-v in let e = c.node_line-line.ensures in let q = e.0 ∙ ap (λ (σ : ℕ). node_numbers (node_of (get_or c.args.ranges.count σ 0) c.args.t (get_or c.args.t.rows l.v no_node))) c.wide.ensures.0 in (
      omega (arith, c.loop-v-test.true),
      c.store.auto.table ∙ l.invariant.1,
      node_turn c.args.ranges.count c.args.t l.lines c.args.lines.now c.store.new.table l.v _ c.requires.0 (few ((goal.at.loop-v-preserved c).In-loop-v)) q l.invariant.2 c.store.ensures,
      one_more (λ (u : ℕ). Most (node_lines c.args.ranges.count c.args.t u) (2 ^ 32)) l.v l.invariant.3 (subst (λ (xs : List ℕ). Most xs (2 ^ 32)) q e.1),
    )

pub returns : goal.returns
returns c = let e : c.loop-v.v ≡ c.args.t.count = omega arith in (rw e at c.loop-v.invariant.2, λ u h. c.loop-v.invariant.3 u (omega arith))
