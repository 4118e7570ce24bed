use native.Mathlib.Omega.{arith}
use Prim.Native.Nat.{◌-◌}
use mathlib.Core.Path.{◌≡◌, refl, subst}
use Rattle.laws.specs.Booleans.{T_of}
use Rattle.call_page.specs.Narrow.{Narrow, narrow_none, narrow_next}
use Rattle.call_page.proofs.is_narrow.Goals as goal

pub loop-x-init : goal.loop-x-init
loop-x-init c = (omega arith, narrow_none _)

pub label_length-requires : goal.label_length-requires
label_length-requires c = (omega (arith, c.requires.1.spans.room), (c.requires.1.spans.in_text c.loop-x.x (omega arith)).0)

pub returns-then-label_length-gt2 : goal.returns-then-label_length-gt2
returns-then-label_length-gt2 c = λ e. absurd (T_of e)

pub loop-x-preserved : goal.loop-x-preserved
loop-x-preserved c = (omega arith, narrow_next _ c.loop-x.x _ _ c.loop-x.invariant.1 refl refl (omega (arith, c.label_length.ensures)))

pub returns : goal.returns
returns c = λ _. let e : c.loop-x.x ≡ c.args.n = omega arith in subst (Narrow _) e c.loop-x.invariant.1
