use Prim.Native.Nat.{◌≤◌}
use mathlib.Core.Path.{sym, ◌∙◌}
use mathlib.Core.Bool.{true, false}
use native.Mathlib.Omega.{arith}
use native.Mathlib.Nat.{mul-le-mul}
use Rattle.laws.specs.Lists.{any_yes, any_no, any_end}
use borrow.Author.Tests.{lt-ltb, le-ltb}
use Rattle.step_picks.specs.TestLaws.{crowd_start, row_two_lem}
use Rattle.step_picks.proofs.crowded.Goals as goal

pub loop-x-init : goal.loop-x-init
loop-x-init c = (omega arith, crowd_start _ _ _ _ _)

pub overflow_mul-x : goal.overflow_mul-x
overflow_mul-x c = let i : c.loop-x.x ≤ 64 = omega arith in omega (arith, mul-le-mul i c.requires.2)

pub overflow_add-start : goal.overflow_add-start
overflow_add-start c = let i : c.loop-x.x ≤ 64 = omega arith in omega (arith, mul-le-mul i c.requires.2)

pub tally-requires : goal.tally-requires
tally-requires c =
    let i : c.loop-x.x ≤ 64 = omega arith in
    (omega (arith, mul-le-mul i c.requires.2), c.requires.3, c.requires.1)

pub returns-then-tally-gt1 : goal.returns-then-tally-gt1
returns-then-tally-gt1 c = sym (c.loop-x.invariant.1 ∙ any_yes _ _ _ (omega arith) (row_two_lem _ _ _ _ _ _ _ true c.tally.ensures (lt-ltb 1 c.tally.result (omega arith))))

pub loop-x-preserved : goal.loop-x-preserved
loop-x-preserved c = (omega arith, c.loop-x.invariant.1 ∙ any_no _ _ _ (omega arith) (row_two_lem _ _ _ _ _ _ _ false c.tally.ensures (le-ltb 1 c.tally.result (omega arith))))

pub returns : goal.returns
returns c = sym (c.loop-x.invariant.1 ∙ any_end _ _ _ (omega arith))
