-- Whether the usual limits refuse a case, by its tally: for a call that makes no table.
use Rattle.std.specs.Prelude.{◌≤◌, ◌≡◌, Err}
use Rattle.std.proofs.Common.{sym, ap, arith}
use Rattle.definitions.specs.Limits.{usual}
use Rattle.definitions.specs.Refusal.{refused, accepted}
use Rattle.definitions.specs.Problem.Truth.{Case, every_tuples}
use Rattle.definitions.specs.Problem.Atoms.{problem_of, atoms}
use Rattle.definitions.specs.Problem.Actions.{actions}
use Rattle.definitions.specs.Reply.Outcome.{ground}
use Rattle.problem_sizes.specs.declared.Tally.{Tally}
use Rattle.problem_sizes.specs.declared.Limits.{Limits}
use Rattle.problem_sizes.specs.Sums.{Tallied, refusal_in}
use Rattle.problem_sizes.specs.Refused.{counts_within, atoms_told, actions_told, grounded_by, tuples_within}
use Rattle.refusal.specs.declared.Refusal.{Refusal}
use Rattle.refusal.specs.Numbers.{number_of}
use Rattle.problem_of_case.specs.Grounds.{Within, grounds_over}

module _ (c : Case) (t : Tally) (T : Tallied (problem_of c) t) (l : Limits) (u : l ≡ record { atoms = usual.atoms; actions = usual.actions; steps = usual.steps }) where
  pub over_usual : (e : Refusal) → Within t l (Err e) → ground usual c ≡ refused (number_of e.cause) e.place
  over_usual e w = grounds_over usual l c t (sym (ap (λ (x : Limits). x.atoms) u)) (sym (ap (λ (x : Limits). x.actions) u)) (sym (ap (λ (x : Limits). x.steps) u)) T e w

  module _ (z : refusal_in t l ≡ 0) where
    pub within_usual : ground usual c ≡ accepted (problem_of c)
    within_usual = grounded_by c t T usual l (sym (ap (λ (x : Limits). x.atoms) u)) (sym (ap (λ (x : Limits). x.actions) u)) (sym (ap (λ (x : Limits). x.steps) u)) z

    pub few_usual : every_tuples c ≤ 8
    few_usual = tuples_within c t T l z

    pub counts_usual : (atoms (problem_of c) ≤ usual.atoms) × (actions (problem_of c) ≤ usual.actions)
    counts_usual =
        let (a, b) = counts_within t l z in
        (omega (arith, a, atoms_told c t T, ap (λ (x : Limits). x.atoms) u), omega (arith, b, actions_told c t T, ap (λ (x : Limits). x.actions) u))
