-- What building gives, in the words of the definitions: the end of `Outcome.plan`.
use Rattle.std.specs.Prelude.{ℕ, zero, ◌≡◌, List}
use Rattle.definitions.specs.Refusal.{Result, accepted, ◌>>=◌}
use Rattle.definitions.specs.Sheet.Relations.{Tuple}
use Rattle.definitions.specs.Sheet.Sheets.{Label}
use Rattle.definitions.specs.Problem.Truth.{Case}
use Rattle.definitions.specs.Problem.Atoms.{Problem}
use Rattle.definitions.specs.Problem.Built.{built_steps}
use Rattle.definitions.specs.Reply.Outcome.{Plan, built_from}
use Rattle.step_picks.specs.Handed.{decided}
use Rattle.std.specs.Prelude as P
use Rattle.refusal.specs.Told.{told}
use Rattle.refusal.specs.declared.Refusal.{Refusal}

-- 16, then 17, then the steps; the labels are only handed on
unfoldable pub planned : List Label → Case → Problem → List Tuple → Result Plan
planned labels c p F = decided c p F >>= λ G. accepted (record { labels = labels; problem = p; picks = G; steps = built_steps p G })

-- the answer, and what the lent state and steps hold then, are those of building, whatever the labels
abbrev pub Gives : Case → Problem → List Tuple → (state steps : List ℕ) → P.Result ℕ Refusal → (state' steps' : List ℕ) → Type 0
Gives c p F state steps r state' steps' = (labels : List Label) → built_from (planned labels c p F) state steps ≡ record { answer = told (λ k. k) r; state = state'; steps = steps' }
