-- A tally as the definitions have it, and the two answers.
use Rattle.std.specs.Prelude.{ℕ, ◌≡◌, Bool, List, Ok, Err}
use Rattle.std.specs.Prelude as P
use Rattle.std.proofs.Math.Path.{refl}
use Rattle.std.proofs.Common.{ap}
use Rattle.definitions.specs.Limits.{CaseLimits}
use Rattle.definitions.specs.Refusal.{Result, refused, accepted, ◌>>=◌}
use Rattle.definitions.specs.Problem.Truth.{Case}
use Rattle.definitions.specs.Problem.Atoms.{Problem, problem_of}
use Rattle.definitions.specs.Reply.Outcome.{read_case}
use Rattle.definitions.specs.Reply.Tally
use Rattle.read_sheets.specs.declared.Opened.{Opened}
use Rattle.read_sheets.specs.Opening.{Holds, CaseRead}
use Rattle.refusal.specs.declared.Refusal.{Refusal}
use Rattle.refusal.specs.Numbers.{number_of}
use Rattle.refusal.specs.Told.{told}
use Rattle.problem_sizes.specs.declared.Tally.{Tally as Counts}
use Rattle.problem_sizes.specs.Sums.{Tallied as Tallies}

unfoldable pub tally_in : Counts → Tally.Tally
tally_in t = record { node_count = t.nodes; has_every = t.every; tuples = t.tuples; sizes = record { elements = t.elements; atom_count = t.atoms; action_count = t.actions; step_bound = t.bound } }

abbrev pub tallied_of : P.Result Counts Refusal → Result Tally.Tally
tallied_of r = told tally_in r

pub tally_in_lem : (p : Problem) (t : Counts) → Tallies p t → tally_in t ≡ Tally.tally_of p
unfolding tally_in
tally_in_lem p t h = rw (h.nodes_are, h.every_is, h.tuples_are, h.elements_are, h.atoms_are, h.actions_are, h.bound_is) refl

module _ (L : CaseLimits) (question site : List ℕ) where
  pub tally_refused : (e : Refusal) → read_case L question site ≡ refused (number_of e.cause) e.place → tallied_of (Err e) ≡ Tally.tally L question site
  unfolding Tally.tally ◌>>=◌
  tally_refused e h = rw h refl

  pub tally_counted : (o : Opened) (facts : ℕ → Bool) → CaseRead question (read_case L question site) (Ok o) facts → (t : Counts) → ((c : Case) (f : ℕ → Bool) → Holds question c o f → Tallies (problem_of c) t)
      → tallied_of (Ok t) ≡ Tally.tally L question site
  unfolding Tally.tally ◌>>=◌
  tally_counted o facts (c, e, i) t h = rw e (ap accepted (tally_in_lem (problem_of c) t (h c facts i)))
