-- `print_plan::name_of` meets its contract. Assumes nothing.
use mathlib.Core.Path.{sym, ap}
use Rattle.print_plan.specs.Lines.{name_in, first_name, next_name}
use Rattle.print_plan.proofs.name_of.Goals as goal

pub returns-then-t-eq0 : goal.returns-then-t-eq0
returns-then-t-eq0 c = first_name _ _ c.in-Forall.is c.if-t-eq0.true

pub returns-in-Set : goal.returns-in-Set
unfolding name_in
returns-in-Set c = sym (ap name_in c.in-Set.is)

pub returns-in-Begin : goal.returns-in-Begin
unfolding name_in
returns-in-Begin c = sym (ap name_in c.in-Begin.is)

pub returns-in-And : goal.returns-in-And
unfolding name_in
returns-in-And c = sym (ap name_in c.in-And.is)

pub returns-in-Or : goal.returns-in-Or
unfolding name_in
returns-in-Or c = sym (ap name_in c.in-Or.is)

pub returns-in-Exists : goal.returns-in-Exists
unfolding name_in
returns-in-Exists c = sym (ap name_in c.in-Exists.is)

pub returns-else-t-eq0 : goal.returns-else-t-eq0
returns-else-t-eq0 c = next_name _ _ c.in-Forall.is c.if-t-eq0.false

pub returns-in-Goal : goal.returns-in-Goal
unfolding name_in
returns-in-Goal c = sym (ap name_in c.in-Goal.is)

pub returns-in-RoundEnd : goal.returns-in-RoundEnd
unfolding name_in
returns-in-RoundEnd c = sym (ap name_in c.in-RoundEnd.is)

pub returns-in-MarkIn : goal.returns-in-MarkIn
unfolding name_in
returns-in-MarkIn c = sym (ap name_in c.in-MarkIn.is)

pub returns-in-MarkOut : goal.returns-in-MarkOut
unfolding name_in
returns-in-MarkOut c = sym (ap name_in c.in-MarkOut.is)

pub returns-in-Nothing : goal.returns-in-Nothing
unfolding name_in
returns-in-Nothing c = sym (ap name_in c.in-Nothing.is)
