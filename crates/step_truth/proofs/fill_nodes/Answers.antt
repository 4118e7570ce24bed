use Prim.Native.Nat.{ℕ}
use Rattle.bits.specs.Table.{bit}
use Rattle.meaning.specs.Deciding.{Knows}
use Rattle.meaning.specs.Planning.{nodes_from}
use Rattle.problem_table.specs.declared.NodeLine.{NodeLine}
use Rattle.step_truth.specs.TurnLaws.{atoms_few, node_turn}
use mathlib.Core.Path.{◌≡◌, refl, ap, subst, ◌∙◌}
use native.Mathlib.Omega.{arith}
use Rattle.step_truth.proofs.fill_nodes.Goals as goal

pub loop-v-init : goal.loop-v-init
loop-v-init c = (c.requires.1, omega arith, atoms_few _ _ _ c.requires.0 c.node_line-last.ensures, refl, λ p G F R h e K. (ap (λ (x : NodeLine). x.atoms) c.node_line-last.ensures ∙ e, (K, λ i o. refl)))

pub fill_node-requires : goal.fill_node-requires
fill_node-requires c = (c.requires.0, omega (arith, c.requires.2), omega (arith, c.saturating_sub-width.ensures))

pub loop-v-preserved : goal.loop-v-preserved
loop-v-preserved c =
    let l = c.loop-v in let q = c.requires in (
      omega arith,
      omega arith,
      atoms_few _ _ _ q.0 c.node_line-line.ensures,
      c.fill_node.auto.state ∙ l.invariant.3,
      λ p G F R h e K.
          let I = l.invariant.4 p G F R h e K in
          let M = node_turn p G F _ l.v _ _ _ _ _ c.node_line-line.ensures (omega arith) (omega arith) (record { is = R.is; room = omega (arith, R.room, l.invariant.3) }) I.0 c.saturating_sub-width.ensures c.fill_node.ensures I.1.0 in (M.0, (M.1.0, λ i o. M.1.1 i o ∙ I.1.1 i o)),
    )

pub shape_of-state : goal.shape_of-state
shape_of-state c = c.loop-v.invariant.3

pub returns : goal.returns
returns c = let l = c.loop-v in λ p G F R h e K. let d : l.v ≡ c.args.first = omega arith in let I = (l.invariant.4 p G F R h e K).1 in (subst (λ (i : ℕ). Knows p F (nodes_from p G F i) (bit l.state)) d I.0, I.1)
