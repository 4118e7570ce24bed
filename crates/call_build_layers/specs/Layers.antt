-- What building layers gives, in the words of the definitions: the end of `Layers.layered_plan`.
use Rattle.std.specs.Prelude.{ℕ, ◌≡◌, List}
use Rattle.definitions.specs.Refusal.{Result, accepted, ◌>>=◌}
use Rattle.definitions.specs.Sheet.Relations.{Tuple}
use Rattle.definitions.specs.Problem.Truth.{Case}
use Rattle.definitions.specs.Problem.Atoms.{Problem}
use Rattle.definitions.specs.Reply.Layers.{LayeredPlan, layers_built_from}
use Rattle.meaning.specs.Layered.{built_numbers}
use Rattle.step_picks.specs.Handed.{decided}
use Rattle.open_case.specs.Replies.{Reply, result_of}

-- 16, then 17, then the layers
unfoldable pub layered : Case → Problem → List Tuple → Result LayeredPlan
layered c p F = decided c p F >>= λ G. accepted (record { problem = p; picks = G; layers = built_numbers p G })

-- the reply, and what the lent state, steps and ends hold then, are those of building layers
abbrev pub GivesLayers : Case → Problem → List Tuple → (state steps ends : List ℕ) → Reply → (state' steps' ends' : List ℕ) → Type 0
GivesLayers c p F state steps ends r state' steps' ends' =
    layers_built_from (layered c p F) state steps ends ≡ record { answer = result_of r; state = state'; steps = steps'; ends = ends' }
