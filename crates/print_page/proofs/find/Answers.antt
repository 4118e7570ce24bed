use native.Mathlib.Omega.{arith}
use mathlib.Core.Path.{◌≡◌, refl, subst}
use lib.ListN.{length}
use Rattle.print_page.specs.Bodies.{Finds, before_none, before_next, finds_here, finds_none}
use Rattle.print_page.proofs.find.Goals as goal

pub loop-index-init : goal.loop-index-init
loop-index-init c = (omega arith, omega arith, λ p ls q is N s. before_none ls p _)

pub step_lines-many-requires : goal.step_lines-many-requires
step_lines-many-requires c = c.requires.grounded

pub overflow_add-line : goal.overflow_add-line
overflow_add-line c = omega (arith, c.loop-index.invariant.1, c.step_lines-many.ensures.1, c.requires.first_bound)

pub returns-then-first-line : goal.returns-then-first-line
returns-then-first-line c = (
  omega arith,
  c.loop-index.invariant.1,
  λ h. omega (arith, c.step_lines-many.ensures.1),
  λ p ls q is N s. finds_here ls p _ c.loop-index.index
      c.loop-index.line c.step_lines-many.result _ c.args.first (omega arith) refl
      (c.step_lines-many.ensures.0 p ls q c.loop-index.index is N s) (c.loop-index.invariant.2 p ls q is N s) (omega arith),
)

pub overflow_add-line-in-loop-index : goal.overflow_add-line-in-loop-index
overflow_add-line-in-loop-index c = omega (arith, c.loop-index.invariant.1, c.step_lines-many.ensures.1, c.requires.first_bound)

pub loop-index-preserved : goal.loop-index-preserved
loop-index-preserved c = (
  omega arith,
  omega arith,
  λ p ls q is N s. before_next ls p _ c.loop-index.index c.loop-index.line c.step_lines-many.result _
      (omega arith) refl (c.step_lines-many.ensures.0 p ls q c.loop-index.index is N s) (c.loop-index.invariant.2 p ls q is N s),
)

pub returns : goal.returns
returns c =
    let e : c.loop-index.index ≡ length c.args.steps.now = omega arith in (
      omega arith,
      c.loop-index.invariant.1,
      λ h. absurd (omega arith),
      λ p ls q is N s. subst (λ k. Finds ls p c.args.steps.now c.args.first k c.loop-index.line) e
          (finds_none ls p _ c.loop-index.index c.loop-index.line c.args.first (omega arith) (c.loop-index.invariant.2 p ls q is N s) c.loop-index.invariant.1),
    )
