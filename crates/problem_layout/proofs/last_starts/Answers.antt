-- `problem_layout::last_starts` meets its contract.
use mathlib.Core.Path.{refl, sym, ◌∙◌}
use native.Mathlib.Omega.{arith}
use Rattle.problem_layout.specs.LaidLaws.{pow_fits, size_most}
use Rattle.problem_layout.specs.StartsAre.{counted, last_laid, last_kept}
use Rattle.problem_layout.proofs.last_starts.Goals as goal

pub overflow_sub-e : goal.overflow_sub-e
overflow_sub-e c = omega (arith, counted _ (sym c.has_last.ensures ∙ c.if-has_last.true))

pub power-size-requires : goal.power-size-requires
power-size-requires c = (c.requires.0, pow_fits _ _ c.requires.1 (c.requires.2.arity _))

pub overflow_add-neg : goal.overflow_add-neg
overflow_add-neg c =
    omega (
      arith,
      size_most _ _ c.power-size.result c.power-size.ensures
          c.requires.1 (c.requires.2.arity _),
    )

pub overflow_add-dom : goal.overflow_add-dom
overflow_add-dom c =
    omega (
      arith,
      size_most _ _ c.power-size.result c.power-size.ensures
          c.requires.1 (c.requires.2.arity _),
    )

pub overflow_add-dom-then-has_last : goal.overflow_add-dom-then-has_last
overflow_add-dom-then-has_last c =
    omega (
      arith,
      size_most _ _ c.power-size.result c.power-size.ensures
          c.requires.1 (c.requires.2.arity _),
    )

pub returns-then-has_last : goal.returns-then-has_last
returns-then-has_last c = (last_laid _ _ _ _ _ _ _ (sym c.has_last.ensures ∙ c.if-has_last.true) c.power-size.ensures, refl)

pub returns : goal.returns
returns c = (last_kept _ _ _ _ _ _ (sym c.has_last.ensures ∙ c.if-has_last.false), refl)
