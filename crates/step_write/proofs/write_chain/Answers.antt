use mathlib.Core.Path.{refl, ◌∙◌}
use native.Mathlib.Omega.{arith}
use Rattle.step_write.specs.RowLaws.{links_none, links_more, links_all}
use Rattle.step_write.proofs.write_chain.Goals as goal

pub loop-i-init : goal.loop-i-init
loop-i-init c = (omega arith, omega arith, refl, λ p G F node width row R e ej ea h. links_none p G F _ node _ width _ R e row _ _ _ refl ej ea h _ _)

pub bounds-table-v : goal.bounds-table-v
bounds-table-v c = let q = c.requires in omega (arith, q.1.inside, q.0.whole)

pub overflow_add-j : goal.overflow_add-j
overflow_add-j c = let q = c.requires in omega (arith, q.1.member c.loop-i.i (omega arith), q.0.size, q.4)

pub overflow_add-v : goal.overflow_add-v
overflow_add-v c = let q = c.requires in omega (arith, q.1.member c.loop-i.i (omega arith), q.0.size, q.4, q.3)

pub overflow_add-action : goal.overflow_add-action
overflow_add-action c = let q = c.requires in omega (arith, q.5, q.2)

pub write_link-k-requires : goal.write_link-k-requires
write_link-k-requires c = let q = c.requires in omega (arith, q.6, q.2)

pub loop-i-preserved : goal.loop-i-preserved
loop-i-preserved c =
    let l = c.loop-i in let q = c.write_link-k in (
      omega arith,
      omega (arith, q.ensures.0),
      q.auto.steps ∙ l.invariant.2,
      λ p G F node width row R e ej ea h. links_more p G F _ node _ width _ R e row _ _ _ refl ej ea h l.i (omega arith) _ _ _ _ _ _ (l.invariant.3 p G F node width row R e ej ea h) q.ensures.1,
    )

pub shape_of-steps : goal.shape_of-steps
shape_of-steps c = c.loop-i.invariant.2

pub returns : goal.returns
returns c = let l = c.loop-i in (omega arith, λ p G F node width row R e ej ea h. links_all p G F _ node _ width _ R e row _ _ _ refl ej ea h l.i (omega arith) _ _ _ _ (l.invariant.3 p G F node width row R e ej ea h))
