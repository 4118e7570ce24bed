-- `read_line::record_word` meets its contract.
use mathlib.Core.Path.{sym, ◌∙◌}
use Rattle.read_line.proofs.Fields.{says_none, says_fact, says_pick, says_rel, says_type, says_choose, says_rule, says_every, says_size, says_label, says_member, says_step}
use Rattle.read_line.proofs.record_word.Goals as goal

pub returns-then-word : goal.returns-then-word
returns-then-word c = says_fact _ (sym c.word.ensures ∙ c.if-word.true)

pub returns-then-word-2 : goal.returns-then-word-2
returns-then-word-2 c = says_pick _ (sym c.word-2.ensures ∙ c.if-word-2.true)

pub returns-then-word-3 : goal.returns-then-word-3
returns-then-word-3 c = says_rel _ (sym c.word-3.ensures ∙ c.if-word-3.true)

pub returns-then-word-4 : goal.returns-then-word-4
returns-then-word-4 c = says_type _ (sym c.word-4.ensures ∙ c.if-word-4.true)

pub returns-then-word-5 : goal.returns-then-word-5
returns-then-word-5 c = says_choose _ (sym c.word-5.ensures ∙ c.if-word-5.true)

pub returns-then-word-6 : goal.returns-then-word-6
returns-then-word-6 c = says_rule _ (sym c.word-6.ensures ∙ c.if-word-6.true)

pub returns-then-word-7 : goal.returns-then-word-7
returns-then-word-7 c = says_every _ (sym c.word-7.ensures ∙ c.if-word-7.true)

pub returns-then-word-8 : goal.returns-then-word-8
returns-then-word-8 c = says_size _ (sym c.word-8.ensures ∙ c.if-word-8.true)

pub returns-then-word-9 : goal.returns-then-word-9
returns-then-word-9 c = says_label _ (sym c.word-9.ensures ∙ c.if-word-9.true)

pub returns-then-word-10 : goal.returns-then-word-10
returns-then-word-10 c = says_member _ (sym c.word-10.ensures ∙ c.if-word-10.true)

pub returns-then-word-11 : goal.returns-then-word-11
returns-then-word-11 c = says_step _ (sym c.word-11.ensures ∙ c.if-word-11.true)

pub returns : goal.returns
returns c =
    says_none _ (sym c.word.ensures ∙ c.if-word.false) (sym c.word-2.ensures ∙ c.if-word-2.false)
    (sym c.word-3.ensures ∙ c.if-word-3.false) (sym c.word-4.ensures ∙ c.if-word-4.false)
    (sym c.word-5.ensures ∙ c.if-word-5.false) (sym c.word-6.ensures ∙ c.if-word-6.false)
    (sym c.word-7.ensures ∙ c.if-word-7.false) (sym c.word-8.ensures ∙ c.if-word-8.false)
    (sym c.word-9.ensures ∙ c.if-word-9.false) (sym c.word-10.ensures ∙ c.if-word-10.false)
    (sym c.word-11.ensures ∙ c.if-word-11.false)
