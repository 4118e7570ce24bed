-- A line's tests in order: the first that fails gives the cause.
use Rattle.read_rule.specs.Seen.{fault_in}
use Rattle.std.specs.Prelude.{if◌then◌else◌, Ok, Err}
use Rattle.std.specs.Prelude as P
use Prim.Native.Nat.{ℕ}
use mathlib.Core.Path.{◌≡◌, refl, ap}
use native.Mathlib.Omega.{arith}
use mathlib.Core.Bool.{Bool, true, false}
use Rattle.definitions.specs.Refusal.{Result, refused, ◌>>=◌, refuse_if}
use Rattle.refusal.specs.declared.Cause.{Cause}
use Rattle.refusal.specs.Numbers.{number_of, some_number}

-- the result, unless a cause refuses the line
unfoldable pub unless : {A : Type 0} → P.Result (Unit {0}) Cause → ℕ → Result A → Result A
unless (Ok u) at r = r
unless (Err c) at r = refused (number_of c) at

module _ {A : Type 0} (at : ℕ) where
  pub untested : (r : Result A) → r ≡ unless (Ok tt) at r
  unfolding unless
  untested r = refl

  pub test : (b : Bool) (c : Cause) (n : P.Result (Unit {0}) Cause) (x r : Result A) → x ≡ unless n at r → (refuse_if b (number_of c) at >>= λ _. x) ≡ unless (if b then Err c else n) at r
  unfolding unless refuse_if ◌>>=◌
  test true c n x r e = refl
  test false c n x r e = e

  pub unless_ext : (n : P.Result (Unit {0}) Cause) (r t : Result A) → (n ≡ Ok tt → r ≡ t) → unless n at r ≡ unless n at t
  unfolding unless
  unless_ext (Ok u) r t e = e refl
  unless_ext (Err c) r t e = refl

  pub unless_good : (n : P.Result (Unit {0}) Cause) (r : Result A) → n ≡ Ok tt → unless n at r ≡ r
  unfolding unless
  unless_good n r p = ap (λ (k : P.Result (Unit {0}) Cause). unless k at r) p

  pub unless_bad : (n : P.Result (Unit {0}) Cause) (c : Cause) (r : Result A) → n ≡ Err c → unless n at r ≡ refused (number_of c) at
  unfolding unless
  unless_bad n c r p = ap (λ (k : P.Result (Unit {0}) Cause). unless k at r) p

  -- the same by numbers
  pub unless_none : (n : P.Result (Unit {0}) Cause) (r : Result A) → fault_in n ≡ 0 → unless n at r ≡ r
  unfolding unless
  unless_none (Ok u) r p = refl
  unless_none (Err c) r p = absurd (omega (arith, some_number c))

  pub unless_numbered : (n : P.Result (Unit {0}) Cause) (c : Cause) (r : Result A) → fault_in n ≡ number_of c → unless n at r ≡ refused (number_of c) at
  unfolding unless
  unless_numbered (Ok u) c r p = absurd (omega (arith, some_number c))
  unless_numbered (Err d) c r p = ap (λ (k : ℕ). refused k at) p
