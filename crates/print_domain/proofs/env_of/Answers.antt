use native.Mathlib.Omega.{arith}
use Prim.Native.Nat.{◌-◌}
use mathlib.Core.Path.{refl, sym, ◌∙◌}
use lib.ListN.{length-set}
use Rattle.print_domain.specs.Nodes.{env_first, env_next, env_end}
use Rattle.print_domain.proofs.env_of.Goals as goal

pub loop-i-init : goal.loop-i-init
loop-i-init c = (omega (arith, c.wide-i.ensures.0, c.requires.0), refl, refl)

pub bounds-levels-i : goal.bounds-levels-i
bounds-levels-i c = omega (arith, c.loop-i.invariant.0)

pub offset_bounds-terms-l : goal.offset_bounds-terms-l
offset_bounds-terms-l c = omega (arith, c.wide-l.ensures.0, c.requires.1 (c.loop-i.i - 1))

pub bounds-terms-l : goal.bounds-terms-l
bounds-terms-l c = omega (arith, c.wide-l.ensures.0, c.requires.1 (c.loop-i.i - 1))

pub loop-i-preserved : goal.loop-i-preserved
loop-i-preserved c = (omega (arith, c.loop-i.invariant.0), length-set c.loop-i.terms _ (c.loop-i.i - 1) ∙ c.loop-i.invariant.1, c.loop-i.invariant.2 ∙ env_next c.args.row.levels c.loop-i.i (c.loop-i.i - 1) _ c.loop-i.terms (omega arith) c.wide-l.ensures.0)

pub returns : goal.returns
returns c = (sym (env_first c.args.row _ c.wide-i.ensures.0 ∙ c.loop-i.invariant.2 ∙ env_end _ c.loop-i.i _ (omega arith)), refl)
