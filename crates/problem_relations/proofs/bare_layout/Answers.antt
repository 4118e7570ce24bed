-- `problem_relations::bare_layout` meets its contract.
use native.Mathlib.Omega.{arith}
use mathlib.Core.Path.{sym, ◌∙◌}
use Rattle.problem_layout.specs.LaidLaws.{pow_fits, size_most}
use Rattle.problem_layout.specs.StartsAre.{counted}
use Rattle.problem_relations.specs.Bare.{bare_none, bare_here}
use borrow.Author.Rules.{rules}
use Rattle.problem_relations.proofs.bare_layout.Goals as goal

pub overflow_sub-e : goal.overflow_sub-e
overflow_sub-e c = omega (arith, counted _ (sym c.has_last.ensures ∙ c.if-has_last.true))

pub power-size-requires : goal.power-size-requires
power-size-requires c = (c.requires.0, pow_fits _ _ c.requires.1 (c.requires.2.arity _))

pub overflow_add-end : goal.overflow_add-end
overflow_add-end c =
    omega (
      arith,
      size_most _ _ c.power-size.result
          c.power-size.ensures c.requires.1
          (c.requires.2.arity _),
      c.requires.3.rel
          c.args.g.count,
    )

pub overflow_add-size : goal.overflow_add-size
overflow_add-size c =
    omega (
      arith,
      size_most _ _ c.power-size.result
          c.power-size.ensures
          c.requires.1
          (c.requires.2.arity _),
    )

pub overflow_add-end-then-has_last : goal.overflow_add-end-then-has_last
overflow_add-end-then-has_last c =
    omega (
      arith,
      size_most _ _ c.power-size.result
          c.power-size.ensures
          c.requires.1
          (c.requires.2.arity _),
      c.requires.3.rel
          c.args.g.count,
    )

pub returns-then-has_last : goal.returns-then-has_last
returns-then-has_last c = (
  bare_here _ _ _ (sym c.has_last.ensures
      ∙ c.if-has_last.true) _ _ _
      c.power-size.ensures c.min.ensures
      c.min-then-has_last.ensures,
  search rules,
  search rules,
  search rules,
)

pub returns : goal.returns
returns c = (bare_none _ _ _ (sym c.has_last.ensures ∙ c.if-has_last.false), search rules, search rules, search rules)
