use Prim.Native.Nat.{ℕ, ◌*◌, ◌≤◌}
use mathlib.Core.Path.{sym, ◌∙◌}
use mathlib.Core.Bool.{true, false}
use native.Mathlib.Omega.{arith}
use native.Mathlib.Nat.{mul-le-mul}
use Rattle.laws.specs.Lists.{any_yes, any_no, any_end}
use Rattle.step_picks.specs.TestLaws.{strays_start, row_strays_lem}
use Rattle.step_picks.proofs.some_strays.Goals as goal

row_few : (x n : ℕ) → x ≤ 64 → n ≤ 64 → x * n ≤ 64 * 64
row_few x n h k = mul-le-mul h k

pub loop-x-init : goal.loop-x-init
loop-x-init c = let a = c.args in (omega arith, strays_start _ _ _ _ a.line)

pub overflow_mul-x : goal.overflow_mul-x
overflow_mul-x c = omega (arith, row_few c.loop-x.x _ (omega arith) c.requires.3)

pub overflow_add-start : goal.overflow_add-start
overflow_add-start c = omega (arith, row_few c.loop-x.x _ (omega arith) c.requires.3)

pub row_strays-requires : goal.row_strays-requires
row_strays-requires c = (c.requires.0, c.requires.1, omega (arith, row_few c.loop-x.x _ (omega arith) c.requires.3), c.requires.3)

pub returns-then-row_strays : goal.returns-then-row_strays
returns-then-row_strays c = let a = c.args in sym (c.loop-x.invariant.1 ∙ any_yes _ _ _ (omega arith) (row_strays_lem _ _ _ _ a.line _ _ true c.row_strays.ensures c.if-row_strays.true))

pub loop-x-preserved : goal.loop-x-preserved
loop-x-preserved c = let a = c.args in (omega arith, c.loop-x.invariant.1 ∙ any_no _ _ _ (omega arith) (row_strays_lem _ _ _ _ a.line _ _ false c.row_strays.ensures c.if-row_strays.false))

pub returns : goal.returns
returns c = sym (c.loop-x.invariant.1 ∙ any_end _ _ _ (omega arith))
