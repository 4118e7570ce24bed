-- `problem_table::begin` meets its contract.
use Prim.Native.Nat.{ℕ}
use mathlib.Core.Path.{ap, ◌∙◌}
use mathlib.Core.Bool.{Bool}
use mathlib.Core.List.{[], ◌∷◌}
use native.Mathlib.Omega.{arith}
use Rattle.problem_table.specs.Numbers.{changed}
use Rattle.problem_table.specs.ChangeLaws.{gone_then_come}
use Rattle.problem_table.proofs.begin.Goals as goal

pub returns : goal.returns
returns c =
    λ h. c.raise.ensures (omega arith)
    ∙ ap (λ (z : ℕ → Bool). changed z [] (1 ∷ [])) c.clear.ensures ∙ gone_then_come _ _ _
