-- `read_line::kind_word` meets its contract.
use mathlib.Core.Path.{sym, ◌∙◌}
use Rattle.read_line.proofs.Fields.{kind_fun, kind_pfun, kind_inj, kind_pinj, kind_none}
use Rattle.read_line.proofs.kind_word.Goals as goal

pub returns-then-word : goal.returns-then-word
returns-then-word c = kind_fun _ (sym c.word.ensures ∙ c.if-word.true)

pub returns-then-word-2 : goal.returns-then-word-2
returns-then-word-2 c = kind_pfun _ (sym c.word.ensures ∙ c.if-word.false) (sym c.word-2.ensures ∙ c.if-word-2.true)

pub returns-then-word-3 : goal.returns-then-word-3
returns-then-word-3 c = kind_inj _ (sym c.word.ensures ∙ c.if-word.false) (sym c.word-2.ensures ∙ c.if-word-2.false) (sym c.word-3.ensures ∙ c.if-word-3.true)

pub returns-then-word-4 : goal.returns-then-word-4
returns-then-word-4 c = kind_pinj _ (sym c.word.ensures ∙ c.if-word.false) (sym c.word-2.ensures ∙ c.if-word-2.false) (sym c.word-3.ensures ∙ c.if-word-3.false) (sym c.word-4.ensures ∙ c.if-word-4.true)

pub returns : goal.returns
returns c = kind_none _ (sym c.word.ensures ∙ c.if-word.false) (sym c.word-2.ensures ∙ c.if-word-2.false) (sym c.word-3.ensures ∙ c.if-word-3.false) (sym c.word-4.ensures ∙ c.if-word-4.false)
