-- `nendokwe::in_numbers` meets its contract: an action in numbers, kind by kind. Assumes nothing.
use mathlib.Core.Path.{sym, ap, ◌∙◌}
use Rattle.nendokwe.specs.Told.{details_of}
use Rattle.nendokwe.proofs.in_numbers.Goals as goal

pub returns-in-Set : goal.returns-in-Set
unfolding details_of
returns-in-Set c = c.on_tuple.ensures ∙ sym (ap details_of c.in-Set.is)

pub returns-in-And : goal.returns-in-And
unfolding details_of
returns-in-And c = sym (ap details_of c.in-And.is)

pub returns-in-Or : goal.returns-in-Or
unfolding details_of
returns-in-Or c = c.chosen.ensures ∙ sym (ap details_of c.in-Or.is)

pub returns-in-Exists : goal.returns-in-Exists
unfolding details_of
returns-in-Exists c = c.chosen-in-Exists.ensures ∙ sym (ap details_of c.in-Exists.is)

pub returns-in-Forall : goal.returns-in-Forall
unfolding details_of
returns-in-Forall c = c.chosen-in-Forall.ensures ∙ sym (ap details_of c.in-Forall.is)

pub returns-in-MarkIn : goal.returns-in-MarkIn
unfolding details_of
returns-in-MarkIn c = c.on_tuple-in-MarkIn.ensures ∙ sym (ap details_of c.in-MarkIn.is)

pub returns-in-MarkOut : goal.returns-in-MarkOut
unfolding details_of
returns-in-MarkOut c = c.on_tuple-in-MarkOut.ensures ∙ sym (ap details_of c.in-MarkOut.is)

pub returns-in-Begin : goal.returns-in-Begin
unfolding details_of
returns-in-Begin c = c.bare.ensures ∙ sym (ap details_of c.in-Begin.is)

pub returns-in-Goal : goal.returns-in-Goal
unfolding details_of
returns-in-Goal c = c.bare-in-Goal.ensures ∙ sym (ap details_of c.in-Goal.is)

pub returns-in-RoundEnd : goal.returns-in-RoundEnd
unfolding details_of
returns-in-RoundEnd c = c.bare-in-RoundEnd.ensures ∙ sym (ap details_of c.in-RoundEnd.is)

pub returns-in-Nothing : goal.returns-in-Nothing
unfolding details_of
returns-in-Nothing c = c.bare-in-Nothing.ensures ∙ sym (ap details_of c.in-Nothing.is)
