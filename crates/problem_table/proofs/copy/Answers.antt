use Rattle.std.proofs.Common.{◌≡◌, refl, ◌∙◌, arith, get_or, length-set}
use Rattle.std.proofs.Math.Seq.{paste-zero}
use Rattle.laws.specs.Copies.{copy_next, copy_end}
use Rattle.problem_table.proofs.copy.Goals as goal

pub loop-i-init : goal.loop-i-init
loop-i-init c = (refl, paste-zero _ 0 c.args.src.now, λ h. absurd (omega arith))

pub loop-i-preserved : goal.loop-i-preserved
loop-i-preserved c = (
  length-set c.loop-i.dst c.loop-i.i (get_or c.args.src.now c.loop-i.i 0) ∙ c.loop-i.invariant.0,
  copy_next _ _ _ _ (omega arith) (omega arith) c.loop-i.invariant.1,
  λ h j. omega (arith, c.type_inv.src j),
)

pub returns : goal.returns
returns c =
    let e : c.loop-i.i ≡ c.args.k = omega arith in
    (copy_end _ _ _ c.args.k (omega arith) (rw e at c.loop-i.invariant.1), λ h. c.loop-i.invariant.2 (omega arith))
