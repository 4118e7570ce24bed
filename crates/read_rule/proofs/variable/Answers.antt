-- `variable` meets its contract.
use mathlib.Core.Path.{sym, ◌∙◌}
use mathlib.Core.List.{[], ◌∷◌}
use Rattle.read_rule.specs.Steps.{room, var_word, var_no}
use Rattle.read_rule.proofs.variable.Goals as goal

pub word-requires : goal.word-requires
word-requires c = room (63 ∷ []) c.args.s.now _ c.requires (sym c.starts.ensures ∙ c.if-starts.true)

pub returns-then-starts : goal.returns-then-starts
returns-then-starts c = c.word.ensures ∙ var_word c.args.s.now c.args.at (sym c.starts.ensures ∙ c.if-starts.true)

pub returns-else-starts : goal.returns-else-starts
returns-else-starts c = let a = c.args in var_no a.s.now a.at (sym c.starts.ensures ∙ c.if-starts.false)
