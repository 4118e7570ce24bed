-- `problem_layout::range_count` meets its contract.
use mathlib.Core.Path.{refl}
use native.Mathlib.Omega.{arith}
use borrow.Author.Tests.{lt-ltb, le-ltb}
use Rattle.problem_layout.specs.Filled.{range_count}
use Rattle.problem_layout.proofs.range_count.Goals as goal

pub returns-then-kind-lt2 : goal.returns-then-kind-lt2
unfolding range_count
returns-then-kind-lt2 c = (rw (lt-ltb c.args.kind 2 (omega arith)) refl, c.requires)

pub returns : goal.returns
unfolding range_count
returns c = (rw (le-ltb c.args.kind 2 (omega arith)) refl, omega arith)
