-- `totality_by_kind` meets its contract.
use mathlib.Core.Path.{sym, ◌∙◌}
use Rattle.rule_nodes.specs.Lent.{rows_many}
use Rattle.rule_rewrite.proofs.Root.{one_none, one_some}
use Rattle.rule_rewrite.proofs.totality_by_kind.Goals as goal

pub returns-then-total-eq0 : goal.returns-then-total-eq0
returns-then-total-eq0 c = one_none _ _ _ _ _ (rows_many _ 0 0) (sym c.total.ensures ∙ c.if-total-eq0.true)

pub returns : goal.returns
returns c = one_some _ _ _ _ _ _ (λ e. c.if-total-eq0.false (c.total.ensures ∙ e)) c.totality.ensures
