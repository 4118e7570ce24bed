-- `print_page::kind` meets its contract.
use Rattle.definitions.specs.Reply.Page.{left}
use Rattle.print_bytes.specs.Emitted.{emits_as}
use Rattle.print_page.specs.Elements.{kind_in, left_none}
use Rattle.problem_table.specs.declared.Act.{Act}
use mathlib.Core.Path.{ap, ◌∙◌}
use Rattle.print_page.proofs.kind.Goals as goal

pub returns-in-Set : goal.returns-in-Set
unfolding kind_in
returns-in-Set c = emits_as (ap (λ (a : Act). left 12 (kind_in a)) c.in-Set.is) c.left.ensures

pub returns-in-Begin : goal.returns-in-Begin
unfolding kind_in
returns-in-Begin c = emits_as (ap (λ (a : Act). left 12 (kind_in a)) c.in-Begin.is) c.left-in-Begin.ensures

pub returns-in-And : goal.returns-in-And
unfolding kind_in
returns-in-And c = emits_as (ap (λ (a : Act). left 12 (kind_in a)) c.in-And.is) c.left-in-And.ensures

pub returns-in-Or : goal.returns-in-Or
unfolding kind_in
returns-in-Or c = emits_as (ap (λ (a : Act). left 12 (kind_in a)) c.in-Or.is) c.left-in-Or.ensures

pub returns-in-Exists : goal.returns-in-Exists
unfolding kind_in
returns-in-Exists c = emits_as (ap (λ (a : Act). left 12 (kind_in a)) c.in-Exists.is) c.left-in-Exists.ensures

pub returns-in-Forall : goal.returns-in-Forall
unfolding kind_in
returns-in-Forall c = emits_as (ap (λ (a : Act). left 12 (kind_in a)) c.in-Forall.is) c.left-in-Forall.ensures

pub returns-in-Goal : goal.returns-in-Goal
unfolding kind_in
returns-in-Goal c = emits_as (ap (λ (a : Act). left 12 (kind_in a)) c.in-Goal.is) c.left-in-Goal.ensures

pub returns-in-RoundEnd : goal.returns-in-RoundEnd
unfolding kind_in
returns-in-RoundEnd c = emits_as (ap (λ (a : Act). left 12 (kind_in a)) c.in-RoundEnd.is) c.left-in-RoundEnd.ensures

pub returns-in-MarkIn : goal.returns-in-MarkIn
unfolding kind_in
returns-in-MarkIn c = emits_as (ap (λ (a : Act). left 12 (kind_in a)) c.in-MarkIn.is) c.left-in-MarkIn.ensures

pub returns-in-MarkOut : goal.returns-in-MarkOut
unfolding kind_in
returns-in-MarkOut c = emits_as (ap (λ (a : Act). left 12 (kind_in a)) c.in-MarkOut.is) c.left-in-MarkOut.ensures

pub returns-in-Nothing : goal.returns-in-Nothing
unfolding kind_in
returns-in-Nothing c = emits_as (ap (λ (a : Act). left 12 (kind_in a)) c.in-Nothing.is ∙ left_none 12) c.spaces.ensures
