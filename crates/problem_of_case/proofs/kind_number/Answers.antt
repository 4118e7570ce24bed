-- `problem_of_case::kind_number` meets its contract.
use Prim.Native.Nat.{ℕ, ◌<◌, min}
use mathlib.Core.Path.{◌≡◌, ◌∙◌}
use native.Mathlib.Decide.{dec_lt}
use native.Mathlib.Omega.{arith}
use Rattle.read_text.specs.Spans.{kind_of}
use Rattle.problem_table.specs.Of as Of
use Rattle.problem_of_case.specs.NumberedLaws.{kind_small, kind_last}
use Rattle.problem_of_case.proofs.kind_number.Goals as goal

least : (k : ℕ) → min k 6 ≡ Of.kind_number (kind_of k)
least k = by_number (dec_lt k 6)
  where
    by_number : Dec (k < 6) → min k 6 ≡ Of.kind_number (kind_of k)
    by_number (yes h) = let e : min k 6 ≡ k = omega arith in e ∙ kind_small k h
    by_number (no h) = let e : min k 6 ≡ 6 = omega arith in e ∙ kind_last k (omega arith)

pub returns : goal.returns
returns c =
    let e : c.min.result ≡ min c.args.k 6 = omega (arith, c.min.ensures) in
    (e ∙ least c.args.k, omega (arith, c.min.ensures))
