use native.Mathlib.Omega.{arith}
use mathlib.Core.Path.{refl, subst}
use mathlib.Core.Bool.{Bool}
use lib.Seq.{slice}
use Rattle.read_plan.specs.Domain.{IsSet, none_first, none_next, set_here, set_nowhere}
use Rattle.read_plan.proofs.set_name.Goals as goal

pub bounds-table-1 : goal.bounds-table-1
bounds-table-1 c = omega (arith, c.requires.fits.0.whole)

pub loop-r-init : goal.loop-r-init
loop-r-init c = (omega arith, refl, none_first _ _ _ _)

pub is_set-requires : goal.is_set-requires
is_set-requires c = record { fits = (c.requires.fits.0, c.requires.fits.1, omega (arith, c.loop-r.invariant.1, c.requires.fits.0.relations)); a_le_e = c.requires.a_le_e }

pub returns-then-is_set : goal.returns-then-is_set
returns-then-is_set c = set_here _ _ _ _ c.loop-r.r (omega (arith, c.loop-r.invariant.1)) (subst (λ (x : Bool). IsSet c.args.question.now c.args.names.now c.args.table.now (slice c.args.a c.args.e c.args.s.now) c.loop-r.r x) c.if-is_set.true c.is_set.ensures)

pub loop-r-preserved : goal.loop-r-preserved
loop-r-preserved c = (omega arith, c.loop-r.invariant.1, none_next _ _ _ _ c.loop-r.r c.loop-r.invariant.2 (subst (λ (x : Bool). IsSet c.args.question.now c.args.names.now c.args.table.now (slice c.args.a c.args.e c.args.s.now) c.loop-r.r x) c.if-is_set.false c.is_set.ensures))

pub returns : goal.returns
returns c = set_nowhere _ _ _ _ c.loop-r.r (omega (arith, c.loop-r.invariant.1, c.loop-r.invariant.0)) c.loop-r.invariant.2
