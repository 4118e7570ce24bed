use Prim.Native.Nat.{◌*◌, ◌<◌}
use mathlib.Core.Path.{refl, sym, ◌∙◌}
use native.Mathlib.Omega.{arith}
use lib.ListN.{length-set}
use Rattle.bits.specs.Table.{bit}
use Rattle.step_picks.specs.CopyLaws.{line_start, line_tuples, line_next, line_end}
use Rattle.step_picks.proofs.copy_relation.Goals as goal
use Rattle.step_picks.proofs.copy_relation.Goals.{In-loop-j}

-- words are left while tuples are
left : (c : In-loop-j) → 64 * c.loop-j.j < c.tuples_in-tuples.result
left c =
    line_tuples (bit c.args.state.now) _ _ _ _ c.loop-j.invariant.4
    c.loop-j.invariant.3 (omega arith)

pub loop-j-init : goal.loop-j-init
loop-j-init c = (omega arith, refl, line_start _ _ _ _ _ c.words_in-count.ensures, c.tuples_in-tuples.ensures, c.words_in-count.ensures)

pub overflow_mul-j : goal.overflow_mul-j
overflow_mul-j c = omega (arith, left c)

pub overflow_add-line : goal.overflow_add-line
overflow_add-line c = omega (arith, left (goal.at.overflow_add-line c).In-loop-j)

pub overflow_mul-j-in-loop-j : goal.overflow_mul-j-in-loop-j
overflow_mul-j-in-loop-j c = omega (arith, left (goal.at.overflow_mul-j-in-loop-j c).In-loop-j)

pub overflow_sub-tuples : goal.overflow_sub-tuples
overflow_sub-tuples c = omega (arith, left (goal.at.overflow_sub-tuples c).In-loop-j)

pub loop-j-preserved : goal.loop-j-preserved
loop-j-preserved c =
    let k = c.loop-j in (
      omega arith,
      length-set k.picks _ _ ∙ k.invariant.1,
      k.invariant.2 ∙ line_next _ _ _ _ _ _ _ _ k.invariant.3 (left (goal.at.loop-j-preserved c).In-loop-j) (omega arith) c.cut.ensures,
      k.invariant.3,
      k.invariant.4,
    )

pub returns : goal.returns
returns c = sym (c.loop-j.invariant.2 ∙ line_end _ _ _ _ _ _ (omega arith))
