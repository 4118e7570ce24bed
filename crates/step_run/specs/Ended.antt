-- How a list of steps ends, as an answer.
use Rattle.std.specs.Prelude.{Bool, true, false, ℕ}
use Rattle.definitions.specs.Refusal.{Result, refused, accepted}
use Rattle.problem_table.specs.declared.Act.{Act}
use Rattle.problem_table.specs.declared.Act.TheVariants.{Set, Begin, And, Or, Exists, Forall, Goal, RoundEnd, MarkIn, MarkOut, Nothing}
use Rattle.step_run.specs.declared.End.{End}
use Rattle.step_run.specs.declared.End.TheVariants.{Done, NoAction, NotNow, NoGoal}

unfoldable pub ended : End → Result ℕ
ended (Done i) = accepted i
ended (NoAction i) = refused 13 i
ended (NotNow i) = refused 14 i
ended (NoGoal i) = refused 15 i

abbrev pub is_nothing : Act → Bool
is_nothing (Set a) = false
is_nothing Begin = false
is_nothing (And a) = false
is_nothing (Or a) = false
is_nothing (Exists a) = false
is_nothing (Forall a) = false
is_nothing Goal = false
is_nothing RoundEnd = false
is_nothing (MarkIn a) = false
is_nothing (MarkOut a) = false
is_nothing Nothing = true
