-- `problem_layout::range_start` meets its contract.
use mathlib.Core.Path.{refl}
use native.Mathlib.Omega.{arith}
use borrow.Author.Tests.{lt-ltb, le-ltb}
use Rattle.problem_layout.specs.Filled.{range_start}
use Rattle.problem_layout.proofs.range_start.Goals as goal

pub overflow_mul-result : goal.overflow_mul-result
overflow_mul-result c = omega (arith, c.requires)

pub overflow_add-result : goal.overflow_add-result
overflow_add-result c = omega (arith, c.requires)

pub returns-then-kind-lt2 : goal.returns-then-kind-lt2
unfolding range_start
returns-then-kind-lt2 c = (rw (lt-ltb c.args.kind 2 (omega arith)) refl, omega (arith, c.requires))

pub returns : goal.returns
unfolding range_start
returns c = (rw (le-ltb c.args.kind 2 (omega arith)) refl, omega arith)
