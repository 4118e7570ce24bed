-- `problem_layout::part_numbers` meets its contract.
use Prim.Native.Nat.{ℕ, ◌*◌, ◌^◌, ◌≤◌}
use mathlib.Core.Path.{◌≡◌}
use native.Mathlib.Omega.{arith}
use borrow.Author.Rules.{rules}
use lib.ListN.{take, get_or}
use Rattle.rows.specs.Values.{value_in, weight_of}
use Rattle.problem_layout.specs.PartLaws.{line_last, line_plain, last_most, plain_most, weight_times}
use Rattle.problem_layout.proofs.part_numbers.Goals as goal
use Rattle.problem_layout.proofs.part_numbers.Goals.{After-weights-w}

-- the weights are those of the levels that count, and a weight times n is small
module _ (c : After-weights-w) where
  weights-are : let q = c.args.q in value_in c.weights-w.result ≡ weight_of c.args.n (take q.width q.levels)
  weights-are = rw c.wide.ensures.0 at c.weights-w.ensures.0

  times : (i : ℕ) → get_or c.weights-w.result i 0 * c.args.n ≤ 65 ^ 4 * 64
  times i = weight_times _ _ (c.weights-w.ensures.1 i) c.requires.1

pub weights-w-requires : goal.weights-w-requires
weights-w-requires c = record { n_nonzero = search rules; levels = search rules }

pub overflow_add-result : goal.overflow_add-result
overflow_add-result c = let q = c.requires in omega (arith, q.1, q.3, q.4)

pub overflow_mul-result : goal.overflow_mul-result
overflow_mul-result c = omega (arith, times (goal.at.overflow_mul-result c).After-weights-w 0)

pub overflow_mul-result-then-q-eq2 : goal.overflow_mul-result-then-q-eq2
overflow_mul-result-then-q-eq2 c = omega (arith, times (goal.at.overflow_mul-result-then-q-eq2 c).After-weights-w 1)

pub overflow_mul-result-then-q-eq2-2 : goal.overflow_mul-result-then-q-eq2-2
overflow_mul-result-then-q-eq2-2 c = omega (arith, times (goal.at.overflow_mul-result-then-q-eq2-2 c).After-weights-w 2)

pub overflow_mul-result-then-q-eq2-3 : goal.overflow_mul-result-then-q-eq2-3
overflow_mul-result-then-q-eq2-3 c = omega (arith, times (goal.at.overflow_mul-result-then-q-eq2-3 c).After-weights-w 3)

pub returns-then-q-eq2 : goal.returns-then-q-eq2
returns-then-q-eq2 c = (line_last _ _ _ _ _ (weights-are (goal.at.returns-then-q-eq2 c).After-weights-w) (omega arith), last_most _ _ c.weights-w.result c.requires.1 c.requires.3 c.weights-w.ensures.1 _ c.requires.4)

pub returns : goal.returns
returns c = (line_plain _ _ _ _ _ (weights-are (goal.at.returns c).After-weights-w) (λ e. omega arith), plain_most _ _ c.weights-w.result c.requires.1 c.requires.3 c.weights-w.ensures.1)
