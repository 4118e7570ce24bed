-- `read_plan::is_chosen` meets its contract. Assumes nothing.
use mathlib.Core.Path.{sym, subst}
use Prim.Native.Nat.{◌<◌, ◌≤◌}
use Rattle.problem_table.specs.declared.RelationLine.{RelationLine}
use Rattle.read_plan.specs.Domain.{chosen_low, chosen_high, chosen_mid}
use Rattle.read_plan.proofs.is_chosen.Goals as goal

pub returns-then-kind-lt1 : goal.returns-then-kind-lt1
returns-then-kind-lt1 c = sym (chosen_low _ _ (subst (λ (x : RelationLine). x.kind < 1) c.relation_line-kind.ensures c.if-kind-lt1.true))

pub returns-then-kind-gt5 : goal.returns-then-kind-gt5
returns-then-kind-gt5 c = sym (chosen_high _ _ (subst (λ (x : RelationLine). 5 < x.kind) c.relation_line-kind.ensures c.if-kind-gt5.true))

pub returns : goal.returns
returns c = sym (chosen_mid _ _ (subst (λ (x : RelationLine). 1 ≤ x.kind) c.relation_line-kind.ensures c.if-kind-lt1.false) (subst (λ (x : RelationLine). x.kind ≤ 5) c.relation_line-kind.ensures c.if-kind-gt5.false))
