-- `past_type` meets its contract.
use mathlib.Core.Path.{sym, ◌∙◌}
use mathlib.Core.List.{[], ◌∷◌}
use Rattle.read_rule.specs.Steps.{room}
use Rattle.read_rule.specs.Bound.{past_none, past_some}
use Rattle.read_rule.proofs.past_type.Goals as goal

pub run-requires : goal.run-requires
run-requires c = room (58 ∷ []) c.args.s.now _ c.requires (sym c.starts.ensures ∙ c.if-starts.true)

pub returns-then-starts : goal.returns-then-starts
returns-then-starts c = c.run.ensures ∙ sym (past_some c.args.s.now c.args.at (sym c.starts.ensures ∙ c.if-starts.true))

pub returns-else-starts : goal.returns-else-starts
returns-else-starts c = sym (past_none c.args.s.now c.args.at (sym c.starts.ensures ∙ c.if-starts.false))
