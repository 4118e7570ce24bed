-- An action asked for by its number: what the code answers as the definitions' action, and the three answers.
use Rattle.std.specs.Prelude.{ℕ, ◌<◌, ◌≤◌, ◌≡◌, List, Ok, Err}
use Rattle.std.specs.Prelude as P
use Rattle.std.proofs.Math.Path.{refl, sym, ap}
use Rattle.std.proofs.Common.{◌∙◌, arith}
use Rattle.std.proofs.Math.Option.{Option, none, some}
use Rattle.definitions.specs.Limits.{CaseLimits}
use Rattle.definitions.specs.Refusal.{Result, refused, accepted, ◌>>=◌, given}
use Rattle.definitions.specs.Problem.Atoms.{Problem, problem_of}
use Rattle.definitions.specs.Problem.Actions.{Action, set, begin_proof, prove_and, prove_or, prove_exists, prove_forall, prove_goal, round_end, mark_in, mark_out, actions, action_at}
use Rattle.definitions.specs.Reply.Outcome
use Rattle.laws.specs.Numbers.{action_some, action_below}
use Rattle.problem_table.specs.declared.Act.{Act}
use Rattle.problem_table.specs.declared.Act.TheVariants.{Set, Begin, And, Or, Exists, Forall, Goal, RoundEnd, MarkIn, MarkOut, Nothing}
use Rattle.problem_table.specs.Of.{Is, said, act_of}
use Rattle.problem_action.specs.Decoded.{Grounded}
use Rattle.laws.specs.Asked as Order
use Rattle.laws.specs.Alone
use Rattle.problem_of_case.specs.Grounds.{Tabled}
use Rattle.open_case.specs.declared.Front.{Front}
use Rattle.refusal.specs.declared.Refusal.{Refusal}
use Rattle.refusal.specs.declared.Cause.TheVariants.{NoAction}
use Rattle.refusal.specs.Numbers.{number_of}
use Rattle.refusal.specs.Told.{told}
use Rattle.problem_of_case.specs.declared.Sized.{Sized}
use Rattle.open_case.specs.Fronts.{Fronted}
use Rattle.open_case.specs.Known.{case_over, grounds, tabled, table_is}

-- the definitions' action of the code's, which has one case more
unfoldable pub heard : Act → Option Action
heard (Set a) = some (set a.relation a.row)
heard Begin = some begin_proof
heard (And a) = some (prove_and a.node a.row)
heard (Or a) = some (prove_or a.node a.row a.choice)
heard (Exists a) = some (prove_exists a.node a.row a.choice)
heard (Forall a) = some (prove_forall a.node a.row a.choice)
heard Goal = some prove_goal
heard RoundEnd = some round_end
heard (MarkIn a) = some (mark_in a.relation a.row)
heard (MarkOut a) = some (mark_out a.relation a.row)
heard Nothing = none

abbrev pub action_of : P.Result Act Refusal → Result (Option Action)
action_of r = told heard r

unfoldable pub found : Result Action → Result (Option Action)
found r = r >>= λ a. accepted (some a)

heard_said : (a : Action) → heard (said a) ≡ some a
unfolding heard said
heard_said (set r row) = refl
heard_said begin_proof = refl
heard_said (prove_and v row) = refl
heard_said (prove_or v row i) = refl
heard_said (prove_exists v row x) = refl
heard_said (prove_forall v row z) = refl
heard_said prove_goal = refl
heard_said round_end = refl
heard_said (mark_in r row) = refl
heard_said (mark_out r row) = refl

module _ (L : CaseLimits) (question site : List ℕ) (k : ℕ) where
  abbrev asks : Result (Option Action)
  asks = found (Outcome.action L question site k)

  refused_with : (e : Refusal) → Outcome.asked L question site Outcome.nothing Outcome.nothing Outcome.nothing Outcome.nothing ≡ refused (number_of e.cause) e.place → action_of (Err e) ≡ asks
  unfolding found Outcome.action ◌>>=◌
  refused_with e h = rw h refl

  pub asked_case : (e : Refusal) → Outcome.read_case L question site ≡ refused (number_of e.cause) e.place → action_of (Err e) ≡ asks
  asked_case e h = refused_with e (Order.case_refused L question site _ _ _ _ _ _ h)

  -- the case that was read
  module _ (r : Front) (facts table : List ℕ) (its : Fronted L question site (Ok r) facts table) where
    pub asked_over : (e : Refusal) → r.m ≡ Err e → action_of (Err e) ≡ asks
    asked_over e t =
        let (c, i, h) = its in
        refused_with e (Alone.limits_refused L question site _ _ _ _ c i tt (λ _. Order.untested _) (Order.untested c) _ _ (case_over L c _ _ h.grounded e t))

    module _ (m : Sized) (f : r.m ≡ Ok m) where
      abbrev p : Problem
      p = problem_of its.0

      counts : Tabled p m table
      counts = tabled L its.0 _ _ its.2.grounded _ f

      asks_is : asks ≡ found (given (action_at p k) 13 k)
      unfolding Outcome.action ◌>>=◌
      asks_is =
          let (c, e, h) = its in
          rw (Alone.ready L question site Outcome.nothing Outcome.nothing Outcome.nothing Outcome.nothing c e tt (λ _. Order.untested _) (Order.untested c) p (grounds L c _ _ h.grounded _ f) (Order.untested c) (Order.untested p)) refl

      pub asked_table : Grounded table
      asked_table = table_is L its.0 _ _ its.2.grounded _ f

      pub asked_none : m.actions ≤ k → action_of (Err (record { cause = NoAction; place = k })) ≡ asks
      unfolding found given ◌>>=◌
      asked_none l = by_option (action_at p k) refl ∙ sym asks_is
        where
          by_option : (x : Option Action) → action_at p k ≡ x → refused 13 k ≡ found (given x 13 k)
          by_option none e = refl
          by_option (some a) e = let u = action_below p k a e in let v = counts.actions_are in absurd (omega arith)

      pub asked_known : k < m.actions → (a : Act) → ((p : Problem) → Is p table → a ≡ act_of (action_at p k)) → action_of (Ok a) ≡ asks
      unfolding found given act_of ◌>>=◌
      asked_known l a q =
          let (x, e) = action_some p k (let v = counts.actions_are in omega arith) in
          ap (λ (b : Act). accepted (heard b)) (q p counts.is ∙ ap act_of e) ∙ ap accepted (heard_said x) ∙ sym (asks_is ∙ ap (λ (y : Option Action). found (given y 13 k)) e)
