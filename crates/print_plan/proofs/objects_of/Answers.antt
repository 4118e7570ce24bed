-- `print_plan::objects_of` meets its contract. Assumes nothing.
use native.Mathlib.Omega.{arith}
use mathlib.Core.Path.{refl, subst}
use Rattle.problem_table.specs.Numbers.{ActFits}
use Rattle.print_page.specs.Elements.{relation_small}
use Rattle.print_plan.specs.Lines.{objects_in, objects_as}
use Rattle.print_plan.proofs.objects_of.Goals as goal

pub tuple_places-requires : goal.tuple_places-requires
tuple_places-requires c = record { fits = (c.requires.fits.0, relation_small c.args.table.now c.args.a _ c.requires.fits.1 c.in-Set.is, omega (arith, c.requires.fits.2), c.requires.fits.3); by_index = c.requires.by_index }

pub free-requires : goal.free-requires
free-requires c = (c.requires.fits.0, (subst (ActFits c.args.table.now) c.in-And.is c.requires.fits.1).0, omega (arith, c.requires.fits.2), c.requires.fits.3)

pub free-requires-in-Or : goal.free-requires-in-Or
free-requires-in-Or c = (c.requires.fits.0, (subst (ActFits c.args.table.now) c.in-Or.is c.requires.fits.1).0, omega (arith, c.requires.fits.2), c.requires.fits.3)

pub free_and-requires : goal.free_and-requires
free_and-requires c = (c.requires.fits.0, (subst (ActFits c.args.table.now) c.in-Exists.is c.requires.fits.1).0, omega (arith, c.requires.fits.2), c.requires.fits.3, (subst (ActFits c.args.table.now) c.in-Exists.is c.requires.fits.1).2)

pub along-requires : goal.along-requires
along-requires c = (c.requires.fits.0, (subst (ActFits c.args.table.now) c.in-Forall.is c.requires.fits.1).0, c.requires.fits.2, c.requires.fits.3, (subst (ActFits c.args.table.now) c.in-Forall.is c.requires.fits.1).2)

pub returns-in-Set : goal.returns-in-Set
unfolding objects_in
returns-in-Set c = (omega (arith, c.tuple_places.ensures.0), objects_as _ _ c.args.a _ _ c.in-Set.is c.tuple_places.ensures.1)

pub returns-in-Begin : goal.returns-in-Begin
unfolding objects_in
returns-in-Begin c = (omega arith, objects_as _ _ c.args.a _ _ c.in-Begin.is refl)

pub returns-in-And : goal.returns-in-And
unfolding objects_in
returns-in-And c = (omega (arith, c.free.ensures.0), objects_as _ _ c.args.a _ _ c.in-And.is c.free.ensures.1)

pub returns-in-Or : goal.returns-in-Or
unfolding objects_in
returns-in-Or c = (omega (arith, c.free-in-Or.ensures.0), objects_as _ _ c.args.a _ _ c.in-Or.is c.free-in-Or.ensures.1)

pub returns-in-Exists : goal.returns-in-Exists
unfolding objects_in
returns-in-Exists c = (omega (arith, c.free_and.ensures.0), objects_as _ _ c.args.a _ _ c.in-Exists.is c.free_and.ensures.1)

pub returns-in-Forall : goal.returns-in-Forall
unfolding objects_in
returns-in-Forall c = (omega (arith, c.along.ensures.0), objects_as _ _ c.args.a _ _ c.in-Forall.is c.along.ensures.1)

pub returns-in-Goal : goal.returns-in-Goal
unfolding objects_in
returns-in-Goal c = (omega arith, objects_as _ _ c.args.a _ _ c.in-Goal.is refl)

pub returns-in-RoundEnd : goal.returns-in-RoundEnd
unfolding objects_in
returns-in-RoundEnd c = (omega arith, objects_as _ _ c.args.a _ _ c.in-RoundEnd.is refl)

pub returns-in-MarkIn : goal.returns-in-MarkIn
unfolding objects_in
returns-in-MarkIn c = (omega arith, objects_as _ _ c.args.a _ _ c.in-MarkIn.is refl)

pub returns-in-MarkOut : goal.returns-in-MarkOut
unfolding objects_in
returns-in-MarkOut c = (omega arith, objects_as _ _ c.args.a _ _ c.in-MarkOut.is refl)

pub returns-in-Nothing : goal.returns-in-Nothing
unfolding objects_in
returns-in-Nothing c = (omega arith, objects_as _ _ c.args.a _ _ c.in-Nothing.is refl)
