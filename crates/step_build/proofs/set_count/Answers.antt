-- `set_count` meets its contract.
use Prim.Native.Nat.{ℕ, ◌*◌, ◌^◌, ◌≤◌}
use mathlib.Core.Path.{refl, sym, ◌∙◌}
use mathlib.Core.Bool.{false≢true}
use native.Mathlib.Omega.{arith}
use native.Mathlib.Nat.{mul-le-mul}
use Rattle.step_build.specs.SetLaws.{count_whole, count_typed}
use Rattle.step_build.proofs.set_count.Goals as goal

product : (a b : ℕ) → a ≤ 2 ^ 16 → b ≤ 2 ^ 16 → a * b ≤ 2 ^ 16 * 2 ^ 16
product a b h k = mul-le-mul h k

pub returns-then-whole : goal.returns-then-whole
returns-then-whole c = (
  count_whole _ _ c.requires.3 _ c.if-whole.true c.tuples_in.ensures,
  omega (arith, c.tuples_in.ensures, c.requires.0),
  λ e. absurd (false≢true (sym e ∙ c.if-whole.true)),
)

pub overflow_mul-result : goal.overflow_mul-result
overflow_mul-result c = omega (arith, product _ _ c.requires.1 c.requires.2)

pub returns : goal.returns
returns c = (count_typed _ _ c.requires.3 c.if-whole.false, omega (arith, product _ _ c.requires.1 c.requires.2), λ e. refl)
