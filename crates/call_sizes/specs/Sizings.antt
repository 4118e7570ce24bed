-- The sizes by the tally: what is answered within the limits and over them, and from what was counted.
use Rattle.std.specs.Prelude.{ℕ, zero, ◌≡◌, refl, Bool, true, false, ◌&&◌, ◌||◌, List, ltb, if◌then◌else◌, Ok, Err}
use Rattle.std.specs.Prelude as P
use Rattle.std.proofs.Math.Path.{sym, ap}
use Rattle.std.proofs.Common.{◌∙◌, arith}
use Rattle.definitions.specs.Limits.{CaseLimits}
use Rattle.definitions.specs.Refusal.{Result, refused, accepted, ◌>>=◌, refuse_if}
use Rattle.definitions.specs.Reply.Tally.{tally, Tally as Tallies}
use Rattle.definitions.specs.Reply.Outcome
use Rattle.laws.specs.Walks.{within, sizes_tally}
use Rattle.problem_sizes.specs.declared.Tally.{Tally}
use Rattle.problem_sizes.specs.declared.Limits.{Limits}
use Rattle.problem_sizes.specs.Sums.{refusal_in}
use Rattle.call_sizes.specs.Counts.{tally_in, tallied_of}
use Rattle.refusal.specs.declared.Refusal.{Refusal}
use Rattle.refusal.specs.Numbers.{number_of, some_number}
use Rattle.problem_of_case.specs.Grounds.{Within}
use Rattle.call_sizes.specs.declared.Counts.{Counts}
use Rattle.call_sizes.specs.Answers.{sizing_of}

-- by the two tests
over_by : (a b : Bool) (s : Outcome.Sizes) (k : ℕ) → k ≡ (if a then 11 else if b then 23 else 0) → (k ≡ 0 → ⊥) → refused k 0 ≡ (refuse_if a 11 zero >>= λ _. refuse_if b 23 zero >>= λ _. accepted s)
unfolding refuse_if ◌>>=◌
over_by true b s k e o = ap (λ (x : ℕ). refused x 0) e
over_by false true s k e o = ap (λ (x : ℕ). refused x 0) e
over_by false false s k e o = absurd (o e)

within_by : (a b : Bool) (s : Outcome.Sizes) (k : ℕ) → k ≡ (if a then 11 else if b then 23 else 0) → k ≡ 0 → accepted s ≡ (refuse_if a 11 zero >>= λ _. refuse_if b 23 zero >>= λ _. accepted s)
unfolding refuse_if ◌>>=◌
within_by true b s k e o = absurd (omega arith)
within_by false true s k e o = absurd (omega arith)
within_by false false s k e o = refl

module _ (L : CaseLimits) (t : Tally) (l : Limits) (is : l ≡ record { atoms = L.atoms; actions = L.actions; steps = L.steps }) where
  number : refusal_in t l ≡ (if ltb L.atoms t.atoms || ltb L.actions t.actions then 11 else if t.every && (ltb 8 t.tuples || ltb L.steps t.bound) then 23 else 0)
  unfolding refusal_in
  number = ap (refusal_in t) is

  pub sizes_over : (e : Refusal) → Within t l (Err e) → sizing_of (Err e) ≡ within L (tally_in t)
  unfolding tally_in
  sizes_over e (k, z) = ap (refused (number_of e.cause)) z ∙ over_by _ _ _ (number_of e.cause) (sym k ∙ number) (λ y. omega (arith, some_number e.cause, y))

  pub sizes_within : refusal_in t l ≡ 0 → sizing_of (Ok (record { elements = t.elements; atoms = t.atoms; actions = t.actions; bound = t.bound })) ≡ within L (tally_in t)
  unfolding tally_in
  sizes_within z = within_by _ _ _ (refusal_in t l) number z

module _ (L : CaseLimits) (question site : List ℕ) where
  pub sizes_refused : (e : Refusal) → tallied_of (Err e) ≡ tally L question site → sizing_of (Err e) ≡ Outcome.sizes L question site
  unfolding ◌>>=◌
  sizes_refused e h = ap (λ (x : Result Tallies). x >>= within L) h ∙ sym (sizes_tally L question site)

  pub sizes_counted : (t : Tally) → tallied_of (Ok t) ≡ tally L question site → (r : P.Result Counts Refusal) → sizing_of r ≡ within L (tally_in t) → sizing_of r ≡ Outcome.sizes L question site
  unfolding ◌>>=◌
  sizes_counted t e r h = h ∙ ap (λ (x : Result Tallies). x >>= within L) e ∙ sym (sizes_tally L question site)
