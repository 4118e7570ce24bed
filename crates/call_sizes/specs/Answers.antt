-- Sizes as the definitions' answer.
use Rattle.std.specs.Prelude as P
use Rattle.definitions.specs.Refusal.{Result}
use Rattle.definitions.specs.Reply.Outcome
use Rattle.refusal.specs.declared.Refusal.{Refusal}
use Rattle.refusal.specs.Told.{told}
use Rattle.call_sizes.specs.declared.Counts.{Counts}

abbrev pub sizing_of : P.Result Counts Refusal → Result Outcome.Sizes
sizing_of r = told (λ (s : Counts). record { elements = s.elements; atom_count = s.atoms; action_count = s.actions; step_bound = s.bound }) r
