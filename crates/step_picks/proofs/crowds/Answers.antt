-- `step_picks::crowds` meets its contract.
use Prim.Native.Nat.{ℕ}
use Rattle.bits.specs.Table.{bit}
use Rattle.step_picks.specs.TestLaws.{crowds_none, crowds_past, crowds_first, crowds_fun, crowds_second}
use mathlib.Core.Path.{sym, ◌∙◌}
use native.Mathlib.Omega.{arith}
use Rattle.step_picks.proofs.crowds.Goals as goal

pub returns-then-kind-lt2 : goal.returns-then-kind-lt2
returns-then-kind-lt2 c = crowds_none _ _ (λ (i : ℕ). bit _ _) (omega arith)

pub returns-then-kind-gt5 : goal.returns-then-kind-gt5
returns-then-kind-gt5 c = crowds_past _ _ (λ (i : ℕ). bit _ _) (omega arith)

pub returns-then-crowded : goal.returns-then-crowded
returns-then-crowded c = crowds_first _ _ (λ (i : ℕ). bit _ _) (omega arith) (omega arith) (sym c.crowded.ensures ∙ c.if-crowded.true)

pub returns-then-kind-lt4 : goal.returns-then-kind-lt4
returns-then-kind-lt4 c = crowds_fun _ _ (λ (i : ℕ). bit _ _) (omega arith) (omega arith) (omega arith) (sym c.crowded.ensures ∙ c.if-crowded.false)

pub returns : goal.returns
returns c = crowds_second _ _ (λ (i : ℕ). bit _ _) (omega arith) (omega arith) _ (omega arith) (sym c.crowded.ensures ∙ c.if-crowded.false) c.crowded-2.ensures
