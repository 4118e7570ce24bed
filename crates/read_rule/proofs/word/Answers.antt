-- `word` meets its contract.
use mathlib.Core.Path.{sym, ◌∙◌}
use Rattle.read_rule.specs.Steps.{at_none, at_first, at_long, at_word}
use Rattle.read_rule.proofs.word.Goals as goal

pub returns-then-at-s : goal.returns-then-at-s
returns-then-at-s c = sym (at_none _ c.args.s.now c.args.at c.if-at-s.true)

pub returns-then-not-is_first : goal.returns-then-not-is_first
returns-then-not-is_first c = let a = c.args in sym (at_first _ a.s.now a.at c.if-at-s.false (sym c.is_first.ensures ∙ c.if-not-is_first.true))

pub returns-then-end-at : goal.returns-then-end-at
returns-then-end-at c =
    let a = c.args in sym (at_word _ a.s.now a.at _ _ c.if-at-s.false (sym c.is_first.ensures ∙ c.if-not-is_first.false)
    c.run-end.ensures c.longest_of-most.ensures c.if-end-at.true)

pub returns-else-end-at : goal.returns-else-end-at
returns-else-end-at c =
    let a = c.args in sym (at_long _ a.s.now a.at _ _ c.if-at-s.false (sym c.is_first.ensures ∙ c.if-not-is_first.false)
    c.run-end.ensures c.longest_of-most.ensures c.if-end-at.false)
