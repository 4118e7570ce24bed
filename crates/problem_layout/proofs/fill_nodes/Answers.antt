use Prim.Native.Nat.{◌<◌}
use mathlib.Core.Path.{◌≡◌, refl, ◌∙◌}
use native.Mathlib.Omega.{arith}
use borrow.Author.Rules.{rules}
use Rattle.problem_layout.specs.Filled.{nodes_place}
use Rattle.problem_layout.specs.SpliceLaws.{tab_none}
use Rattle.problem_layout.specs.TurnLaws.{node_turn, node_last, one_more}
use Rattle.problem_layout.proofs.fill_nodes.Goals as goal
use Rattle.problem_layout.proofs.fill_nodes.Goals.{After-wide}

-- its sort is one of nine
sort-small : (c : After-wide) → c.wide.result < 9
sort-small c =
    omega (arith, c.wide.ensures.0, (c.requires.2.nodes.node c.loop-v.v).sort)

pub loop-v-init : goal.loop-v-init
loop-v-init c = (omega arith, refl, tab_none _ nodes_place _, λ u h. absurd (omega arith), search rules, search rules)

pub offset_bounds-ranges-wide : goal.offset_bounds-ranges-wide
offset_bounds-ranges-wide c = omega (arith, sort-small c)

pub bounds-ranges-wide : goal.bounds-ranges-wide
bounds-ranges-wide c = omega (arith, sort-small c)

pub node_numbers-line-requires : goal.node_numbers-line-requires
node_numbers-line-requires c = (c.requires.1.count _, c.requires.3.act _, c.requires.3.node _)

pub loop-v-preserved : goal.loop-v-preserved
loop-v-preserved c =
    let line = c.node_numbers-line in let l = c.loop-v in let q = rw c.wide.ensures.0 at line.ensures.0 in (
      omega arith,
      c.store.auto.table ∙ l.invariant.1,
      node_turn c.args.ranges.count c.args.t c.args.l _ c.args.table.now _ l.invariant.5 _ _ (omega arith) q l.invariant.2 c.store.ensures,
      one_more _ _ l.invariant.3 (rw q at line.ensures.1),
      l.invariant.4,
      l.invariant.5,
    )

pub returns : goal.returns
returns c =
    let l = c.loop-v in let e : l.v ≡ c.args.t.count = omega arith in
    (node_last _ _ _ _ _ _ l.invariant.5 _ (omega arith) (omega arith) (rw e at l.invariant.2) c.store-2.ensures, λ u h. l.invariant.3 u (omega arith))
