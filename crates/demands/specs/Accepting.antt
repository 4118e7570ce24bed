-- Checking accepts exactly the steps that reach the goal.
use Rattle.std.specs.Prelude.{ℕ, zero, suc, ◌+◌, ◌≤◌, ◌≡◌, refl, Bool, true, false, ◌&&◌, List, [], ◌∷◌, T, ltb, length, if◌then◌else◌}
use Rattle.std.proofs.Common.{sym, ap, ◌∙◌, arith, add-zero, zero-add, le-ltb}
use Rattle.std.proofs.Math.Option.{Option, none, some}
use Rattle.definitions.specs.Limits.{CaseLimits, step_limit}
use Rattle.definitions.specs.Lists.{option}
use Rattle.definitions.specs.Refusal.{refused, accepted, ◌>>=◌, refuse_if}
use Rattle.definitions.specs.Problem.Atoms.{Problem, State, initial}
use Rattle.definitions.specs.Problem.Actions.{Action, action_at}
use Rattle.definitions.specs.Problem.Strips.{may_take, after, reaches_from, reaches_goal, run_from, run}
use Rattle.definitions.specs.Reply.Outcome.{read_problem, nothing, ThirdInput, as_numbers, take_steps, ready_to_run}
use Rattle.definitions.specs.Reply.Demand.{is_accepted, steps_are_accepted}
use Rattle.laws.specs.Booleans.{T_true}
use Rattle.laws.specs.Results.{accepted_is, bind_parts}
use Rattle.laws.specs.Asked

-- ---- a run is accepted exactly if it reaches the goal, with its step count
pub runs_accept : (p : Problem) (ks : List ℕ) (s : State) (i : ℕ) → is_accepted (run_from p s i ks).answer ≡ reaches_from p s ks
unfolding run_from reaches_from is_accepted option
runs_accept p [] s i = by_test (s _)
  where
    by_test : (b : Bool) → is_accepted (if b then accepted i else refused 15 i) ≡ b
    by_test true = refl
    by_test false = refl
runs_accept p (k ∷ ks) s i = by_option (action_at p k) (λ a. runs_accept p ks (after p s a) (suc i))
  where
    may : (a : Action) (b : Bool) → is_accepted (run_from p (after p s a) (suc i) ks).answer ≡ reaches_from p (after p s a) ks → is_accepted (if b then run_from p (after p s a) (suc i) ks else record { answer = refused 14 i; state = s }).answer ≡ (b && reaches_from p (after p s a) ks)
    may a true h = h
    may a false h = refl

    by_option : (o : Option Action) → ((a : Action) → is_accepted (run_from p (after p s a) (suc i) ks).answer ≡ reaches_from p (after p s a) ks)
        → is_accepted (option o (record { answer = refused 13 i; state = s })
        (λ a. if may_take p s a then run_from p (after p s a) (suc i) ks else record { answer = refused 14 i; state = s })).answer
        ≡ option o false (λ a. may_take p s a && reaches_from p (after p s a) ks)
    by_option none h = refl
    by_option (some a) h = may a (may_take p s a) (h a)

-- steps are accepted exactly if they reach the goal
pub run_accepts : (p : Problem) (ks : List ℕ) → is_accepted (run p ks).answer ≡ reaches_goal p ks
unfolding run reaches_goal
run_accepts p ks = runs_accept p ks (initial p) zero

pub runs_count : (p : Problem) (ks : List ℕ) (s : State) (i : ℕ) → T (reaches_from p s ks) → (run_from p s i ks).answer ≡ accepted (i + length ks)
unfolding run_from reaches_from option
runs_count p [] s i t = let e = T_true (s _) t in rw e (ap accepted (sym (add-zero i)))
runs_count p (k ∷ ks) s i t = by_option (action_at p k) t (λ a r. runs_count p ks (after p s a) (suc i) r)
  where
    shift : suc i + length ks ≡ i + suc (length ks)
    shift = omega arith

    may : (a : Action) (b : Bool) → T (b && reaches_from p (after p s a) ks)
        → (T (reaches_from p (after p s a) ks) → (run_from p (after p s a) (suc i) ks).answer ≡ accepted (suc i + length ks))
        → (if b then run_from p (after p s a) (suc i) ks else record { answer = refused 14 i; state = s }).answer ≡ accepted (i + suc (length ks))
    may a true t h = h t ∙ ap accepted shift
    may a false t h = absurd t

    by_option : (o : Option Action) → T (option o false (λ a. may_take p s a && reaches_from p (after p s a) ks))
        → ((a : Action) → T (reaches_from p (after p s a) ks) → (run_from p (after p s a) (suc i) ks).answer ≡ accepted (suc i + length ks))
        → (option o (record { answer = refused 13 i; state = s })
        (λ a. if may_take p s a then run_from p (after p s a) (suc i) ks else record { answer = refused 14 i; state = s })).answer
        ≡ accepted (i + suc (length ks))
    by_option none t h = absurd t
    by_option (some a) t h = may a (may_take p s a) t (h a)

pub run_count : (p : Problem) (ks : List ℕ) → T (reaches_goal p ks) → (run p ks).answer ≡ accepted (length ks)
unfolding run reaches_goal
run_count p ks t = runs_count p ks (initial p) zero t ∙ ap accepted (zero-add (length ks))

-- ---- whole calls
module _ (L : CaseLimits) (question site : List ℕ) where
  -- checking a question and site that are accepted, with steps that are read as ks
  pub steps_accepted : (p : Problem) (steps : ThirdInput) (ks : List ℕ) → read_problem L question site ≡ accepted p → take_steps steps ≡ accepted ks → steps_are_accepted L question site steps ≡ reaches_goal p ks
  unfolding steps_are_accepted ready_to_run ◌>>=◌
  steps_accepted p steps ks e t =
      let (r, a, g) = Asked.problem_filed L question site p e in
      let q = Asked.ready L question site (λ _. take_steps steps) nothing nothing nothing r a ks t (Asked.untested r.case) p g (Asked.untested r.case) (Asked.untested p) in
      rw q (run_accepts p ks)

  -- accepted steps were taken
  pub steps_taken : (steps : ThirdInput) → steps_are_accepted L question site steps ≡ true → (ks : List ℕ) × (take_steps steps ≡ accepted ks)
  unfolding steps_are_accepted ready_to_run
  steps_taken steps e =
      let (n, r) = accepted_is (ready_to_run L question site steps nothing >>= λ r. (run r.problem r.third).answer) e in
      let (x, f, g) = bind_parts (ready_to_run L question site steps nothing) _ n r in
      (x.third, (Asked.parts L question site (λ _. take_steps steps) nothing nothing nothing x f).is_third)

pub lent_steps : (ks : List ℕ) → length ks ≤ step_limit → take_steps (as_numbers ks) ≡ accepted ks
unfolding take_steps refuse_if ◌>>=◌
lent_steps ks h = let e : ltb step_limit (length ks) ≡ false = le-ltb step_limit (length ks) h in rw e refl
