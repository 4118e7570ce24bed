-- `problem_table::take` meets its contract.
use mathlib.Core.Path.{refl}
use native.Mathlib.Omega.{arith}
use Rattle.rows.specs.Laws.{times_most}
use Rattle.problem_table.specs.Numbers.{add_numbers, remove_numbers}
use Rattle.problem_table.specs.NeedLaws.{fits_of, relation_small}
use Rattle.problem_table.specs.ChangeLaws.{take_set, take_one, take_begin, take_round, take_in, take_out_next, take_nothing}
use borrow.Author.Rules.{rules}
use Rattle.problem_table.proofs.take.Goals as goal

pub relation_line-requires : goal.relation_line-requires
relation_line-requires c =
    let f = fits_of _ _ _ c.in-Set.is c.requires.act_fits in
    search rules

pub take_set-requires : goal.take_set-requires
take_set-requires c =
    let f = fits_of _ _ _ c.in-Set.is c.requires.act_fits in
    let q = relation_small _ c.requires.fits _ _ c.relation_line.ensures in
    search rules

pub raise_node-requires : goal.raise_node-requires
raise_node-requires c =
    let f = fits_of _ _ _ c.in-And.is c.requires.act_fits in
    search rules

pub raise_node-requires-in-Or : goal.raise_node-requires-in-Or
raise_node-requires-in-Or c =
    let f = fits_of _ _ _ c.in-Or.is c.requires.act_fits in
    search rules

pub raise_node-requires-in-Exists : goal.raise_node-requires-in-Exists
raise_node-requires-in-Exists c =
    let f = fits_of _ _ _ c.in-Exists.is c.requires.act_fits in
    search rules

pub overflow_mul-x : goal.overflow_mul-x
overflow_mul-x c =
    let f = fits_of _ _ _ c.in-Forall.is c.requires.act_fits in
    omega (arith, times_most _ _ f.1 c.requires.fits.size)

pub overflow_add-x : goal.overflow_add-x
overflow_add-x c =
    let f = fits_of _ _ _ c.in-Forall.is c.requires.act_fits in
    omega (
      arith,
      times_most _ _ f.1 c.requires.fits.size,
      f.2,
      c.requires.fits.size,
    )

pub raise_node-requires-in-Forall : goal.raise_node-requires-in-Forall
raise_node-requires-in-Forall c =
    let f = fits_of _ _ _ c.in-Forall.is c.requires.act_fits in (
      c.requires.fits,
      f.0,
      omega (
        arith,
        times_most _ _ f.1 c.requires.fits.size,
        f.2,
        c.requires.fits.size,
      ),
    )

pub relation_line-requires-in-MarkIn : goal.relation_line-requires-in-MarkIn
relation_line-requires-in-MarkIn c =
    let f = fits_of _ _ _ c.in-MarkIn.is c.requires.act_fits in
    search rules

pub mark_in-requires : goal.mark_in-requires
mark_in-requires c =
    let f = fits_of _ _ _ c.in-MarkIn.is c.requires.act_fits in
    let q = relation_small _ c.requires.fits _ _ c.relation_line-in-MarkIn.ensures in
    search rules

pub relation_line-requires-in-MarkOut : goal.relation_line-requires-in-MarkOut
relation_line-requires-in-MarkOut c =
    let f = fits_of _ _ _ c.in-MarkOut.is c.requires.act_fits in
    search rules

pub mark_out-requires : goal.mark_out-requires
mark_out-requires c =
    let f = fits_of _ _ _ c.in-MarkOut.is c.requires.act_fits in
    let q = relation_small _ c.requires.fits _ _ c.relation_line-in-MarkOut.ensures in
    search rules

pub returns-in-Set : goal.returns-in-Set
returns-in-Set c =
    take_set _ _ _ _ _ _ _ c.in-Set.is c.relation_line.ensures
    c.take_set.ensures

pub returns-in-Begin : goal.returns-in-Begin
returns-in-Begin c = take_begin _ _ _ _ _ c.in-Begin.is c.begin.ensures

pub returns-in-And : goal.returns-in-And
unfolding add_numbers remove_numbers
returns-in-And c = take_one _ _ _ _ _ _ _ c.in-And.is refl refl c.raise_node.ensures

pub returns-in-Or : goal.returns-in-Or
unfolding add_numbers remove_numbers
returns-in-Or c = take_one _ _ _ _ _ _ _ c.in-Or.is refl refl c.raise_node-in-Or.ensures

pub returns-in-Exists : goal.returns-in-Exists
unfolding add_numbers remove_numbers
returns-in-Exists c = take_one _ _ _ _ _ _ _ c.in-Exists.is refl refl c.raise_node-in-Exists.ensures

pub returns-in-Forall : goal.returns-in-Forall
unfolding add_numbers remove_numbers
returns-in-Forall c = take_one _ _ _ _ _ _ _ c.in-Forall.is refl refl c.raise_node-in-Forall.ensures

pub returns-in-Goal : goal.returns-in-Goal
unfolding add_numbers remove_numbers
returns-in-Goal c = take_one _ _ _ _ _ _ _ c.in-Goal.is refl refl c.raise.ensures

pub returns-in-RoundEnd : goal.returns-in-RoundEnd
returns-in-RoundEnd c = take_round _ _ _ _ _ c.in-RoundEnd.is c.end_round.ensures

pub returns-in-MarkIn : goal.returns-in-MarkIn
returns-in-MarkIn c =
    take_in _ _ _ _ _ _ _ c.in-MarkIn.is c.relation_line-in-MarkIn.ensures
    c.mark_in.ensures

pub returns-in-MarkOut : goal.returns-in-MarkOut
returns-in-MarkOut c =
    take_out_next _ _ _ _ _ _ _ c.in-MarkOut.is c.relation_line-in-MarkOut.ensures
    c.mark_out.ensures

pub returns-in-Nothing : goal.returns-in-Nothing
returns-in-Nothing c = take_nothing _ _ _ _ c.in-Nothing.is
