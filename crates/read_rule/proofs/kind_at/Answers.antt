-- `kind_at` meets its contract.
use mathlib.Core.Path.{sym, ◌∙◌}
use Rattle.laws.specs.Writing.{kind_0, kind_1, kind_2, kind_3, kind_4, kind_5, kind_6}
use Rattle.read_rule.proofs.kind_at.Goals as goal

pub returns-then-has_no_word : goal.returns-then-has_no_word
returns-then-has_no_word c = sym (c.has_no_word.ensures c.if-has_no_word.true)

pub returns-then-starts : goal.returns-then-starts
returns-then-starts c = sym (kind_0 _ (sym c.starts.ensures ∙ c.if-starts.true))

pub returns-then-starts-2 : goal.returns-then-starts-2
returns-then-starts-2 c = sym (kind_1 _ (sym c.starts.ensures ∙ c.if-starts.false) (sym c.starts-2.ensures ∙ c.if-starts-2.true))

pub returns-then-starts-3 : goal.returns-then-starts-3
returns-then-starts-3 c = sym (kind_2 _ (sym c.starts.ensures ∙ c.if-starts.false) (sym c.starts-2.ensures ∙ c.if-starts-2.false) (sym c.starts-3.ensures ∙ c.if-starts-3.true))

pub returns-then-starts-4 : goal.returns-then-starts-4
returns-then-starts-4 c = sym (kind_3 _ (sym c.starts.ensures ∙ c.if-starts.false) (sym c.starts-2.ensures ∙ c.if-starts-2.false) (sym c.starts-3.ensures ∙ c.if-starts-3.false) (sym c.starts-4.ensures ∙ c.if-starts-4.true))

pub returns-then-starts-5 : goal.returns-then-starts-5
returns-then-starts-5 c = sym (kind_4 _ (sym c.starts.ensures ∙ c.if-starts.false) (sym c.starts-2.ensures ∙ c.if-starts-2.false) (sym c.starts-3.ensures ∙ c.if-starts-3.false) (sym c.starts-4.ensures ∙ c.if-starts-4.false) (sym c.starts-5.ensures ∙ c.if-starts-5.true))

pub returns-then-starts-6 : goal.returns-then-starts-6
returns-then-starts-6 c =
    sym (kind_5 _ (sym c.starts.ensures ∙ c.if-starts.false) (sym c.starts-2.ensures ∙ c.if-starts-2.false) (sym c.starts-3.ensures ∙ c.if-starts-3.false) (sym c.starts-4.ensures ∙ c.if-starts-4.false) (sym c.starts-5.ensures ∙ c.if-starts-5.false)
    (sym c.starts-6.ensures ∙ c.if-starts-6.true))

pub returns : goal.returns
returns c =
    sym (kind_6 _ (sym c.starts.ensures ∙ c.if-starts.false) (sym c.starts-2.ensures ∙ c.if-starts-2.false) (sym c.starts-3.ensures ∙ c.if-starts-3.false) (sym c.starts-4.ensures ∙ c.if-starts-4.false) (sym c.starts-5.ensures ∙ c.if-starts-5.false)
    (sym c.starts-6.ensures ∙ c.if-starts-6.false))
