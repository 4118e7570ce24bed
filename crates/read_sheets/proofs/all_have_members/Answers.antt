use mathlib.Core.Path.{refl, sym, ◌∙◌}
use native.Mathlib.Omega.{arith}
use Rattle.definitions.specs.Lists.{all, from, below}
use Rattle.read_sheets.proofs.Loops.{no_member, a_member, each_next, each_fails}
use Rattle.read_sheets.proofs.all_have_members.Goals as goal

pub loop-k-init : goal.loop-k-init
unfolding all from below
loop-k-init c = (omega arith, λ n ms few M. refl)

pub returns-then-ones-eq0 : goal.returns-then-ones-eq0
returns-then-ones-eq0 c =
    λ n ms few M.
    let none = no_member _ _ n ms few M c.loop-k.k (sym c.ones.ensures ∙ c.if-ones-eq0.true) in sym
    (each_fails _ _ _ (omega arith) none)

pub loop-k-preserved : goal.loop-k-preserved
loop-k-preserved c =
    let l = c.loop-k in (
      omega arith,
      λ n ms few M.
          each_next _ _ (l.invariant.1 n ms few M) (a_member _ _ n ms few M l.k (λ e. c.if-ones-eq0.false (c.ones.ensures ∙ e))),
    )
