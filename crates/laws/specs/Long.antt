-- How long the lines of steps are: each has at least 7 bytes.
use Rattle.std.specs.Prelude.{ℕ, suc, ◌+◌, ◌*◌, ◌/◌, ◌%◌, ◌≤◌, Bool, true, false, List, [], ◌∷◌, ◌++◌, leb, length, if◌then◌else◌}
use Rattle.std.proofs.Common.{arith, length-append}
use Rattle.definitions.specs.Lists.{flat_map}
use Rattle.definitions.specs.Sheet.Text.{bytes, decimal_in, decimal}
use Rattle.definitions.specs.Reply.Desk.{print_line, step_line}

some_digit : (k n : ℕ) → 1 ≤ length (decimal_in (suc k) n)
unfolding decimal_in
some_digit k n = by_test (leb n 9)
  where
    by_test : (b : Bool) → 1 ≤ length (if b then (n + 48) ∷ [] else decimal_in k (n / 10) ++ ((n % 10 + 48) ∷ []))
    by_test true = omega arith
    by_test false = let a = length-append (decimal_in k (n / 10)) ((n % 10 + 48) ∷ []) in omega arith

step_long : (k : ℕ) → 7 ≤ length (step_line k)
unfolding step_line print_line decimal
step_long k = let a = some_digit 19 k in let b = length-append (bytes "step") (9 ∷ (decimal_in 20 k ++ (10 ∷ []))) in let c = length-append (decimal_in 20 k) (10 ∷ []) in omega arith

pub steps_long : (ks : List ℕ) → 7 * length ks ≤ length (flat_map step_line ks)
unfolding flat_map
steps_long [] = omega arith
steps_long (k ∷ ks) = omega (arith, steps_long ks, step_long k, length-append (step_line k) (flat_map step_line ks))
