-- `print_page::subject` meets its contract.
use Rattle.definitions.specs.Reply.Page.{left}
use Rattle.print_bytes.specs.Emitted.{emits_as}
use Rattle.print_page.specs.Elements.{subject_in, left_none, relation_small, in_small, out_small}
use Rattle.problem_table.specs.declared.Act.{Act}
use mathlib.Core.Path.{ap, ◌∙◌}
use Rattle.print_page.proofs.subject.Goals as goal

pub name-requires : goal.name-requires
name-requires c = (c.requires.0, relation_small c.requires.1.0 c.args.a _ c.requires.1.1 c.in-Set.is)

pub name-requires-in-MarkIn : goal.name-requires-in-MarkIn
name-requires-in-MarkIn c = (c.requires.0, in_small c.requires.1.0 c.args.a _ c.requires.1.1 c.in-MarkIn.is)

pub name-requires-in-MarkOut : goal.name-requires-in-MarkOut
name-requires-in-MarkOut c = (c.requires.0, out_small c.requires.1.0 c.args.a _ c.requires.1.1 c.in-MarkOut.is)

pub returns-in-Set : goal.returns-in-Set
unfolding subject_in
returns-in-Set c = emits_as (ap (λ (a : Act). left 12 (subject_in c.args.question.now c.args.names.now a)) c.in-Set.is) c.name.ensures

pub returns-in-Begin : goal.returns-in-Begin
unfolding subject_in
returns-in-Begin c = emits_as (ap (λ (a : Act). left 12 (subject_in c.args.question.now c.args.names.now a)) c.in-Begin.is ∙ left_none 12) c.spaces.ensures

pub returns-in-And : goal.returns-in-And
unfolding subject_in
returns-in-And c = emits_as (ap (λ (a : Act). left 12 (subject_in c.args.question.now c.args.names.now a)) c.in-And.is) c.left_number.ensures

pub returns-in-Or : goal.returns-in-Or
unfolding subject_in
returns-in-Or c = emits_as (ap (λ (a : Act). left 12 (subject_in c.args.question.now c.args.names.now a)) c.in-Or.is) c.left_number-in-Or.ensures

pub returns-in-Exists : goal.returns-in-Exists
unfolding subject_in
returns-in-Exists c = emits_as (ap (λ (a : Act). left 12 (subject_in c.args.question.now c.args.names.now a)) c.in-Exists.is) c.left_number-in-Exists.ensures

pub returns-in-Forall : goal.returns-in-Forall
unfolding subject_in
returns-in-Forall c = emits_as (ap (λ (a : Act). left 12 (subject_in c.args.question.now c.args.names.now a)) c.in-Forall.is) c.left_number-in-Forall.ensures

pub returns-in-Goal : goal.returns-in-Goal
unfolding subject_in
returns-in-Goal c = emits_as (ap (λ (a : Act). left 12 (subject_in c.args.question.now c.args.names.now a)) c.in-Goal.is ∙ left_none 12) c.spaces-in-Goal.ensures

pub returns-in-RoundEnd : goal.returns-in-RoundEnd
unfolding subject_in
returns-in-RoundEnd c = emits_as (ap (λ (a : Act). left 12 (subject_in c.args.question.now c.args.names.now a)) c.in-RoundEnd.is ∙ left_none 12) c.spaces-in-RoundEnd.ensures

pub returns-in-MarkIn : goal.returns-in-MarkIn
unfolding subject_in
returns-in-MarkIn c = emits_as (ap (λ (a : Act). left 12 (subject_in c.args.question.now c.args.names.now a)) c.in-MarkIn.is) c.name-in-MarkIn.ensures

pub returns-in-MarkOut : goal.returns-in-MarkOut
unfolding subject_in
returns-in-MarkOut c = emits_as (ap (λ (a : Act). left 12 (subject_in c.args.question.now c.args.names.now a)) c.in-MarkOut.is) c.name-in-MarkOut.ensures

pub returns-in-Nothing : goal.returns-in-Nothing
unfolding subject_in
returns-in-Nothing c = emits_as (ap (λ (a : Act). left 12 (subject_in c.args.question.now c.args.names.now a)) c.in-Nothing.is ∙ left_none 12) c.spaces-in-Nothing.ensures
