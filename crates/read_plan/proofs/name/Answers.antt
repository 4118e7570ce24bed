-- `read_plan::name` meets its contract. Assumes nothing.
use native.Mathlib.Omega.{arith}
use mathlib.Core.Path.{◌∙◌, sym, subst}
use mathlib.Core.Bool.{Bool}
use lib.Seq.{slice}
use Rattle.read_plan.specs.Words.{folded_none}
use Rattle.read_plan.specs.Spans.{word_first}
use Rattle.read_plan.specs.Domain.{Compared, named_small, name_empty, name_set, name_not_named, name_not_said, name_said}
use Rattle.read_plan.proofs.name.Goals as goal

pub returns-then-a-e : goal.returns-then-a-e
returns-then-a-e c = λ case A is given. name_empty case A c.args.question.now c.args.names.now c.args.table.now is given _ (folded_none c.args.s.now c.args.a c.args.e c.requires.a_le_e.1 (omega arith) (omega arith))

pub returns-then-small-eq115 : goal.returns-then-small-eq115
returns-then-small-eq115 c = λ case A is given. name_set case A c.args.question.now c.args.names.now c.args.table.now is given _ (word_first c.args.s.now c.args.a c.args.e _ (omega arith) c.small.ensures ∙ c.if-small-eq115.true) _ (c.set_name.ensures case A is given)

pub is_said-requires : goal.is_said-requires
is_said-requires c = record { names = (c.requires.fits.1, named_small _ _ (sym c.is_named.ensures ∙ c.if-is_named.true)); a_le_e = (c.requires.a_le_e.0, c.requires.a_le_e.1) }

pub returns-then-is_said : goal.returns-then-is_said
returns-then-is_said c =
    λ case A is given. name_said case A c.args.question.now c.args.names.now c.args.table.now is given _ (λ z. c.if-small-eq115.false (sym (word_first c.args.s.now c.args.a c.args.e _ (omega arith) c.small.ensures) ∙ z)) _ c.other_name-k.ensures (sym c.is_named.ensures ∙ c.if-is_named.true)
    (subst (λ (x : Bool). Compared c.args.question.now c.args.names.now (slice c.args.a c.args.e c.args.s.now) c.other_name-k.result x) c.if-is_said.true c.is_said.ensures)

pub returns-else-is_said : goal.returns-else-is_said
returns-else-is_said c =
    λ case A is given. name_not_said case A c.args.question.now c.args.names.now c.args.table.now is given _ (λ z. c.if-small-eq115.false (sym (word_first c.args.s.now c.args.a c.args.e _ (omega arith) c.small.ensures) ∙ z)) _ c.other_name-k.ensures
    (subst (λ (x : Bool). Compared c.args.question.now c.args.names.now (slice c.args.a c.args.e c.args.s.now) c.other_name-k.result x) c.if-is_said.false c.is_said.ensures)

pub returns-else-is_named : goal.returns-else-is_named
returns-else-is_named c = λ case A is given. name_not_named case A c.args.question.now c.args.names.now c.args.table.now is given _ (λ z. c.if-small-eq115.false (sym (word_first c.args.s.now c.args.a c.args.e _ (omega arith) c.small.ensures) ∙ z)) _ c.other_name-k.ensures (sym c.is_named.ensures ∙ c.if-is_named.false)
