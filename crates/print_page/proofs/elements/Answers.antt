-- `print_page::elements` meets its contract.
use Rattle.print_page.specs.Elements.{elements_in, elements_as, relation_small, in_small, out_small}
use Rattle.problem_table.specs.Numbers.{ActFits}
use mathlib.Core.Path.{refl, subst}
use native.Mathlib.Omega.{arith}
use Rattle.print_page.proofs.elements.Goals as goal

pub tuple_places-requires : goal.tuple_places-requires
tuple_places-requires c = record { fits = (c.requires.fits.0, relation_small c.args.table.now c.args.a _ c.requires.fits.1 c.in-Set.is, c.requires.fits.2, c.requires.fits.3); by_index = c.requires.by_index }

pub free-requires : goal.free-requires
free-requires c = (c.requires.fits.0, (subst (ActFits c.args.table.now) c.in-And.is c.requires.fits.1).0, c.requires.fits.2, c.requires.fits.3)

pub free-requires-in-Or : goal.free-requires-in-Or
free-requires-in-Or c = (c.requires.fits.0, (subst (ActFits c.args.table.now) c.in-Or.is c.requires.fits.1).0, c.requires.fits.2, c.requires.fits.3)

pub free_and-requires : goal.free_and-requires
free_and-requires c = (c.requires.fits.0, (subst (ActFits c.args.table.now) c.in-Exists.is c.requires.fits.1).0, c.requires.fits.2, c.requires.fits.3, (subst (ActFits c.args.table.now) c.in-Exists.is c.requires.fits.1).2)

pub free_and-requires-in-Forall : goal.free_and-requires-in-Forall
free_and-requires-in-Forall c = (c.requires.fits.0, (subst (ActFits c.args.table.now) c.in-Forall.is c.requires.fits.1).0, c.requires.fits.2, c.requires.fits.3, (subst (ActFits c.args.table.now) c.in-Forall.is c.requires.fits.1).2)

pub tuple_places-requires-in-MarkIn : goal.tuple_places-requires-in-MarkIn
tuple_places-requires-in-MarkIn c = record { fits = (c.requires.fits.0, in_small c.args.table.now c.args.a _ c.requires.fits.1 c.in-MarkIn.is, c.requires.fits.2, c.requires.fits.3); by_index = c.requires.by_index }

pub tuple_places-requires-in-MarkOut : goal.tuple_places-requires-in-MarkOut
tuple_places-requires-in-MarkOut c = record { fits = (c.requires.fits.0, out_small c.args.table.now c.args.a _ c.requires.fits.1 c.in-MarkOut.is, c.requires.fits.2, c.requires.fits.3); by_index = c.requires.by_index }

pub returns-in-Set : goal.returns-in-Set
unfolding elements_in
returns-in-Set c = (c.tuple_places.ensures.0, elements_as c.args.table.now c.args.names.now c.args.a _ _ c.in-Set.is c.tuple_places.ensures.1, c.tuple_places.ensures.2)

pub returns-in-Begin : goal.returns-in-Begin
unfolding elements_in
returns-in-Begin c = (omega arith, elements_as c.args.table.now c.args.names.now c.args.a _ _ c.in-Begin.is refl, c.requires.fits.3)

pub returns-in-And : goal.returns-in-And
unfolding elements_in
returns-in-And c = (omega (arith, c.free.ensures.0), elements_as c.args.table.now c.args.names.now c.args.a _ _ c.in-And.is c.free.ensures.1, c.free.ensures.2)

pub returns-in-Or : goal.returns-in-Or
unfolding elements_in
returns-in-Or c = (omega (arith, c.free-in-Or.ensures.0), elements_as c.args.table.now c.args.names.now c.args.a _ _ c.in-Or.is c.free-in-Or.ensures.1, c.free-in-Or.ensures.2)

pub returns-in-Exists : goal.returns-in-Exists
unfolding elements_in
returns-in-Exists c = (c.free_and.ensures.0, elements_as c.args.table.now c.args.names.now c.args.a _ _ c.in-Exists.is c.free_and.ensures.1, c.free_and.ensures.2)

pub returns-in-Forall : goal.returns-in-Forall
unfolding elements_in
returns-in-Forall c = (c.free_and-in-Forall.ensures.0, elements_as c.args.table.now c.args.names.now c.args.a _ _ c.in-Forall.is c.free_and-in-Forall.ensures.1, c.free_and-in-Forall.ensures.2)

pub returns-in-Goal : goal.returns-in-Goal
unfolding elements_in
returns-in-Goal c = (omega arith, elements_as c.args.table.now c.args.names.now c.args.a _ _ c.in-Goal.is refl, c.requires.fits.3)

pub returns-in-RoundEnd : goal.returns-in-RoundEnd
unfolding elements_in
returns-in-RoundEnd c = (omega arith, elements_as c.args.table.now c.args.names.now c.args.a _ _ c.in-RoundEnd.is refl, c.requires.fits.3)

pub returns-in-MarkIn : goal.returns-in-MarkIn
unfolding elements_in
returns-in-MarkIn c = (c.tuple_places-in-MarkIn.ensures.0, elements_as c.args.table.now c.args.names.now c.args.a _ _ c.in-MarkIn.is c.tuple_places-in-MarkIn.ensures.1, c.tuple_places-in-MarkIn.ensures.2)

pub returns-in-MarkOut : goal.returns-in-MarkOut
unfolding elements_in
returns-in-MarkOut c = (c.tuple_places-in-MarkOut.ensures.0, elements_as c.args.table.now c.args.names.now c.args.a _ _ c.in-MarkOut.is c.tuple_places-in-MarkOut.ensures.1, c.tuple_places-in-MarkOut.ensures.2)

pub returns-in-Nothing : goal.returns-in-Nothing
unfolding elements_in
returns-in-Nothing c = (omega arith, elements_as c.args.table.now c.args.names.now c.args.a _ _ c.in-Nothing.is refl, c.requires.fits.3)
