use mathlib.Core.Path.{refl, ap, ◌∙◌}
use native.Mathlib.Omega.{arith}
use Rattle.problem_table.specs.declared.NodeLine.{NodeLine}
use Rattle.step_truth.specs.TurnLaws.{atoms_few}
use Rattle.step_write.specs.StepLaws.{rows_whole, part_none, part_more, part_all}
use Rattle.step_write.specs.RowLaws.{chain_whole, read_before}
use Rattle.step_write.proofs.write_nodes.Goals as goal

pub loop-v-init : goal.loop-v-init
loop-v-init c = (omega arith, atoms_few _ _ _ c.requires.0 c.node_line-last.ensures, omega arith, refl, λ p G F R h e. (ap (λ (x : NodeLine). x.atoms) c.node_line-last.ensures ∙ e, part_none p G F _ _ _))

pub write_node-k-requires : goal.write_node-k-requires
write_node-k-requires c = let q = c.requires in (q.0, omega (arith, q.1), omega arith, omega (arith, c.saturating_sub-width.ensures), omega (arith, q.1, q.2))

pub loop-v-preserved : goal.loop-v-preserved
loop-v-preserved c =
    let l = c.loop-v in let q = c.requires in let w = c.write_node-k in (
      omega arith,
      atoms_few _ _ _ q.0 c.node_line-line.ensures,
      omega (arith, w.ensures.0, c.saturating_sub-width.ensures),
      w.auto.steps ∙ l.invariant.3,
      λ p G F R h e.
          let I = l.invariant.4 p G F R h e in
          let B = read_before p G F _ l.v _ _ _ _ R c.node_line-line.ensures (omega arith) (omega arith) I.0 c.saturating_sub-width.ensures in
          (B.0, part_more p G F _ l.v (omega arith) (omega arith) _ B.1.wide _ _ _ _ _ _ I.1 (rows_whole p F _ _ _ _ _ _ (w.ensures.1 p G F _ B.1 (omega arith) (chain_whole p G F _ _ _ _ _ B.1)))),
    )

pub shape_of-steps : goal.shape_of-steps
shape_of-steps c = c.loop-v.invariant.3

pub returns : goal.returns
returns c = let l = c.loop-v in (omega (arith, c.requires.1), λ p G F R h e. part_all p G F _ l.v (omega arith) _ _ _ _ (l.invariant.4 p G F R h e).1)
