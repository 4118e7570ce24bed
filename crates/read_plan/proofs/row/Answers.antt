use native.Mathlib.Omega.{arith}
use mathlib.Core.Path.{◌≡◌, subst, sym}
use Prim.Native.Nat.{ℕ, ◌+◌, ◌^◌, ◌<◌}
use lib.ListN.{take}
use Rattle.definitions.specs.Problem.Atoms.{row_of}
use Rattle.read_plan.specs.Objects.{row_none, row_next, row_few, small_product}
use Rattle.read_plan.proofs.row.Goals as goal

pub loop-i-init : goal.loop-i-init
loop-i-init c = (omega arith, row_none _ c.args.values.now, omega arith)

pub overflow_mul-sum : goal.overflow_mul-sum
overflow_mul-sum c = omega (arith, small_product c.loop-i.sum c.args.n c.loop-i.invariant.2 c.requires.0)

pub offset_bounds-values-i : goal.offset_bounds-values-i
offset_bounds-values-i c = omega (arith, small_product c.loop-i.sum c.args.n c.loop-i.invariant.2 c.requires.0)

pub bounds-values-i : goal.bounds-values-i
bounds-values-i c = omega (arith, c.requires.2)

pub overflow_add-sum : goal.overflow_add-sum
overflow_add-sum c = omega (arith, small_product c.loop-i.sum c.args.n c.loop-i.invariant.2 c.requires.0, c.requires.3 c.loop-i.i, c.requires.0)

pub loop-i-preserved : goal.loop-i-preserved
loop-i-preserved c = (omega arith, row_next c.args.n c.args.values.now c.loop-i.i c.loop-i.sum (omega (arith, c.requires.2)) c.loop-i.invariant.1, subst (λ (x : ℕ). x < 2 ^ 36) (sym (row_next c.args.n c.args.values.now c.loop-i.i c.loop-i.sum (omega (arith, c.requires.2)) c.loop-i.invariant.1)) (row_few c.args.n c.args.values.now (c.loop-i.i + 1) c.requires.0 (omega (arith, c.requires.1)) (omega (arith, c.requires.2)) c.requires.3))

pub returns : goal.returns
returns c = (let e : c.loop-i.i ≡ c.args.count = omega (arith, c.loop-i.invariant.0) in subst (λ (k : ℕ). c.loop-i.sum ≡ row_of c.args.n (take k c.args.values.now)) e c.loop-i.invariant.1, c.loop-i.invariant.2)
