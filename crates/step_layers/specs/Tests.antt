-- What the code tests of a step, and what it answers of a layer.
use Rattle.std.specs.Prelude.{Bool, true, false, List, ℕ, eqb, if◌then◌else◌}
use Rattle.definitions.specs.Lists.{all, option}
use Rattle.definitions.specs.Problem.Atoms.{Problem, State}
use Rattle.definitions.specs.Problem.Actions.{action_at}
use Rattle.definitions.specs.Problem.Strips.{may_take}
use Rattle.definitions.specs.Reply.Layers.{may_take_all, after_all, actions_at}
use Rattle.meaning.specs.LayerTests.{stays}
use Rattle.problem_table.specs.Numbers.{need_numbers}
use Rattle.problem_table.specs.declared.Act.{Act}
use Rattle.problem_table.specs.declared.Act.TheVariants.{Set, Begin, And, Or, Exists, Forall, Goal, RoundEnd, MarkIn, MarkOut, Nothing}
use Rattle.step_run.specs.declared.End.{End}
use Rattle.step_run.specs.declared.End.TheVariants.{Done, NoAction, NotNow, NoGoal}

abbrev pub kind_of : Act → ℕ
kind_of (Set a) = 0
kind_of Begin = 1
kind_of (And a) = 2
kind_of (Or a) = 2
kind_of (Exists a) = 2
kind_of (Forall a) = 2
kind_of Goal = 2
kind_of RoundEnd = 2
kind_of (MarkIn a) = 2
kind_of (MarkOut a) = 2
kind_of Nothing = 2

-- all steps of a run were taken
abbrev pub is_taken : End → Bool
is_taken (Done k) = true
is_taken (NoAction k) = false
is_taken (NotNow k) = false
is_taken (NoGoal k) = true

unfoldable pub stays_by : List ℕ → State → Act → Bool
stays_by w s a = if eqb (kind_of a) 0 then s 0 else if eqb (kind_of a) 1 then true else all s (need_numbers w a)

-- of a number
unfoldable pub is_action : Problem → ℕ → Bool
is_action p k = option (action_at p k) false (λ _. true)

abbrev pub may_at : Problem → State → ℕ → Bool
may_at p s k = option (action_at p k) false (may_take p s)

unfoldable pub stay_at : Problem → State → ℕ → Bool
stay_at p s k = option (action_at p k) true (stays p s)

-- of a layer: 0, 13 or 14, and the state after it
unfoldable pub layer_code : Problem → State → List ℕ → ℕ
layer_code p s ks = option (actions_at p ks) 13 (λ l. if may_take_all p s l then 0 else 14)

unfoldable pub layer_state : Problem → State → List ℕ → State
layer_state p s ks = option (actions_at p ks) s (after_all p s)
