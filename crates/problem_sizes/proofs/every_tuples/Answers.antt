-- `problem_sizes::every_tuples` meets its contract.
use native.Mathlib.Omega.{arith}
use mathlib.Core.Path.{sym, ◌∙◌}
use Rattle.problem_layout.specs.LaidLaws.{pow_fits}
use Rattle.problem_layout.specs.StartsAre.{counted}
use Rattle.problem_sizes.specs.SumLaws.{size_some, size_none}
use Rattle.problem_sizes.proofs.every_tuples.Goals as goal

pub overflow_sub-g : goal.overflow_sub-g
overflow_sub-g c = omega (arith, counted _ (sym c.has_last.ensures ∙ c.if-has_last.true))

pub power-requires : goal.power-requires
power-requires c = (c.requires.0, pow_fits _ _ c.requires.1 (c.requires.2.arity _))

pub returns-then-has_last : goal.returns-then-has_last
returns-then-has_last c = size_some _ _ _ (sym c.has_last.ensures ∙ c.if-has_last.true) c.power.ensures

pub returns : goal.returns
returns c = size_none _ _ (sym c.has_last.ensures ∙ c.if-has_last.false)
