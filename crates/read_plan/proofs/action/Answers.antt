-- `read_plan::action` meets its contract. Assumes nothing.
use mathlib.Core.Path.{subst, refl}
use Rattle.read_plan.specs.Numbers.{told, number_by, NameFits, number_as}
use Rattle.read_plan.proofs.action.Goals as goal

pub set_step-requires : goal.set_step-requires
unfolding NameFits
set_step-requires c = record { fits = (c.requires.fits.0, subst NameFits c.in-Set.is c.requires.fits.1, c.requires.fits.2, c.requires.fits.3); by_index = c.requires.by_index }

pub and_step-requires : goal.and_step-requires
unfolding NameFits
and_step-requires c = (c.requires.fits.0, subst NameFits c.in-And.is c.requires.fits.1, c.requires.fits.2, c.requires.fits.3)

pub exists_step-requires : goal.exists_step-requires
unfolding NameFits
exists_step-requires c = (c.requires.fits.0, subst NameFits c.in-Exists.is c.requires.fits.1, c.requires.fits.2, c.requires.fits.3)

pub first_step-requires : goal.first_step-requires
unfolding NameFits
first_step-requires c = (c.requires.fits.0, subst NameFits c.in-First.is c.requires.fits.1, c.requires.fits.2, c.requires.fits.3)

pub next_step-requires : goal.next_step-requires
unfolding NameFits
next_step-requires c = (c.requires.fits.0, subst NameFits c.in-Next.is c.requires.fits.1, c.requires.fits.2, c.requires.fits.3)

pub or_step-requires : goal.or_step-requires
unfolding NameFits
or_step-requires c = record { fits = (c.requires.fits.0, (subst NameFits c.in-Or.is c.requires.fits.1).0, c.requires.fits.2, c.requires.fits.3); i_bound = (subst NameFits c.in-Or.is c.requires.fits.1).1 }

pub returns-in-Set : goal.returns-in-Set
unfolding number_by
returns-in-Set c = number_as _ _ _ _ c.args.k _ _ c.in-Set.is c.set_step.ensures

pub returns-in-Begin : goal.returns-in-Begin
unfolding number_by
returns-in-Begin c = number_as _ _ _ _ c.args.k _ _ c.in-Begin.is c.begin_step.ensures

pub returns-in-Goal : goal.returns-in-Goal
unfolding number_by
returns-in-Goal c = number_as _ _ _ _ c.args.k _ _ c.in-Goal.is c.goal_step.ensures

pub returns-in-And : goal.returns-in-And
unfolding number_by
returns-in-And c = number_as _ _ _ _ c.args.k _ _ c.in-And.is c.and_step.ensures

pub returns-in-Exists : goal.returns-in-Exists
unfolding number_by
returns-in-Exists c = number_as _ _ _ _ c.args.k _ _ c.in-Exists.is c.exists_step.ensures

pub returns-in-First : goal.returns-in-First
unfolding number_by
returns-in-First c = number_as _ _ _ _ c.args.k _ _ c.in-First.is c.first_step.ensures

pub returns-in-Next : goal.returns-in-Next
unfolding number_by
returns-in-Next c = number_as _ _ _ _ c.args.k _ _ c.in-Next.is c.next_step.ensures

pub returns-in-Or : goal.returns-in-Or
unfolding number_by
returns-in-Or c = number_as _ _ _ _ c.args.k _ _ c.in-Or.is c.or_step.ensures

pub returns-in-Nobody : goal.returns-in-Nobody
unfolding number_by told
returns-in-Nobody c = number_as _ _ _ _ c.args.k _ _ c.in-Nobody.is refl
