-- One step of a run, as the code takes it.
use Rattle.std.specs.Prelude.{◌≡◌, Bool, true, false, List, [], ◌∷◌, ℕ, suc, ◌*◌, ◌≤◌, ◌<◌, length, get_or, drop}
use Rattle.std.proofs.Math.Path.{refl}
use Rattle.std.proofs.Common.{sym, ap, ◌∙◌, subst, drop_of_length-le, drop-cons}
use Rattle.std.proofs.lemmas.Bool.{false≢true}
use Rattle.std.proofs.Math.Option.{Option, none, some}
use Rattle.definitions.specs.Lists.{all, option}
use Rattle.definitions.specs.Refusal.{Result, refused, accepted}
use Rattle.definitions.specs.Problem.Atoms.{Problem, State, atoms, atom_number}
use Rattle.definitions.specs.Problem.Actions.{Action, set, begin_proof, prove_and, prove_or, prove_exists, prove_forall, prove_goal, round_end, mark_in, mark_out, action_at}
use Rattle.definitions.specs.Problem.Strips.{may_take, after, Run, run_from}
use Rattle.laws.specs.Numbers.{IsAction, action_is}
use Rattle.problem_table.specs.Numbers.{need_numbers, add_numbers, remove_numbers, changed, Held}
use Rattle.problem_table.specs.Of.{Is, said, act_of}
use Rattle.problem_table.specs.OfLaws.{after_is, held}
use Rattle.problem_table.proofs.Needs.{may_is}
use Rattle.problem_table.specs.declared.Act.{Act}
use Rattle.step_run.specs.Ended.{ended, is_nothing}
use Rattle.step_run.specs.declared.End.{End}
use Rattle.step_run.specs.declared.End.TheVariants.{Done, NoAction, NotNow, NoGoal}

-- ---- the definition, step by step
module _ (p : Problem) (s : State) (i : ℕ) where
  pub run_done : s 2 ≡ true → run_from p s i [] ≡ record { answer = accepted i; state = s }
  unfolding run_from atom_number
  run_done e = rw e refl

  pub run_no_goal : s 2 ≡ false → run_from p s i [] ≡ record { answer = refused 15 i; state = s }
  unfolding run_from atom_number
  run_no_goal e = rw e refl

  module _ (k : ℕ) (ks : List ℕ) where
    run_none : action_at p k ≡ none → run_from p s i (k ∷ ks) ≡ record { answer = refused 13 i; state = s }
    unfolding run_from option
    run_none e = rw e refl

    run_not : (x : Action) → action_at p k ≡ some x → may_take p s x ≡ false → run_from p s i (k ∷ ks) ≡ record { answer = refused 14 i; state = s }
    unfolding run_from option
    run_not x e m = rw (e, m) refl

    run_step : (x : Action) → action_at p k ≡ some x → may_take p s x ≡ true → run_from p s i (k ∷ ks) ≡ run_from p (after p s x) (suc i) ks
    unfolding run_from option
    run_step x e m = rw (e, m) refl

-- ---- the code's facts
said_some : (x : Action) → is_nothing (said x) ≡ false
unfolding said
said_some (set r row) = refl
said_some begin_proof = refl
said_some (prove_and v row) = refl
said_some (prove_or v row i) = refl
said_some (prove_exists v row x) = refl
said_some (prove_forall v row z) = refl
said_some prove_goal = refl
said_some round_end = refl
said_some (mark_in r row) = refl
said_some (mark_out r row) = refl

pub is_none : (o : Option Action) → is_nothing (act_of o) ≡ true → o ≡ none
unfolding act_of
is_none none e = refl
is_none (some x) e = absurd (false≢true (sym (said_some x) ∙ e))

pub record FoundAction (p : Problem) (k : ℕ) (a : Act) : Type 0 where
  pub action : Action
  pub at : action_at p k ≡ some action
  pub says : a ≡ said action
  pub sound : IsAction p action

pub is_some : (p : Problem) (k : ℕ) (a : Act) → a ≡ act_of (action_at p k) → is_nothing a ≡ false → FoundAction p k a
unfolding act_of
is_some p k a e h = by_option (action_at p k) refl e
  where
    by_option : (o : Option Action) → action_at p k ≡ o → a ≡ act_of o → FoundAction p k a
    by_option none q e = absurd (false≢true (sym h ∙ ap is_nothing e))
    by_option (some x) q e = record { action = x; at = q; says = e; sound = action_is p k x q }

pub act_some : (x : Action) → act_of (some x) ≡ said x
unfolding act_of
act_some x = refl

module _ (p : Problem) (w : List ℕ) (is : Is p w) (s : State) (i k : ℕ) (ks : List ℕ) (a : Act) (e : a ≡ act_of (action_at p k)) where
  pub none_run : is_nothing a ≡ true → run_from p s i (k ∷ ks) ≡ record { answer = refused 13 i; state = s }
  none_run h = run_none p s i k ks (is_none (action_at p k) (sym (ap is_nothing e) ∙ h))

  may_be : (f : FoundAction p k a) (b : Bool) → b ≡ all s (need_numbers w a) → may_take p s f.action ≡ b
  may_be f b q = sym (q ∙ ap (λ (y : Act). all s (need_numbers w y)) f.says ∙ may_is p w is s f.action f.sound)

  pub not_run : is_nothing a ≡ false → false ≡ all s (need_numbers w a) → run_from p s i (k ∷ ks) ≡ record { answer = refused 14 i; state = s }
  not_run h q = let f = is_some p k a e h in run_not p s i k ks f.action f.at (may_be f false q)

  pub step_is : (x : Action) (s' : State) (len : ℕ) → action_at p k ≡ some x → atoms p ≤ 64 * len
      → (Held (add_numbers w a) len → s' ≡ changed s (remove_numbers w a) (add_numbers w a)) → s' ≡ after p s x
  step_is x s' len y room c =
      let d = action_is p k x y in
      let r : a ≡ said x = e ∙ ap act_of y ∙ act_some x in
      let H : Held (add_numbers w a) len = subst (λ (z : Act). Held (add_numbers w z) len) (sym r) (held p w is len room x d) in
      c H ∙ ap (λ (z : Act). changed s (remove_numbers w z) (add_numbers w z)) r ∙ after_is p w is s x d

  pub step_run : (s' : State) (len : ℕ) → atoms p ≤ 64 * len → is_nothing a ≡ false → true ≡ all s (need_numbers w a)
      → (Held (add_numbers w a) len → s' ≡ changed s (remove_numbers w a) (add_numbers w a)) → run_from p s i (k ∷ ks) ≡ run_from p s' (suc i) ks
  step_run s' len room h q c =
      let f = is_some p k a e h in
      run_step p s i k ks f.action f.at (may_be f true q) ∙ ap (λ (y : State). run_from p y (suc i) ks) (sym (step_is f.action s' len f.at room c))

  -- by the number
  pub may_none : is_nothing a ≡ true → false ≡ option (action_at p k) false (may_take p s)
  unfolding option
  may_none h = rw (is_none (action_at p k) (sym (ap is_nothing e) ∙ h)) refl

  pub may_some : (b : Bool) → is_nothing a ≡ false → b ≡ all s (need_numbers w a) → b ≡ option (action_at p k) false (may_take p s)
  unfolding option
  may_some b h q = let f = is_some p k a e h in rw f.at (sym (may_be f b q))

-- ---- the steps that are left
pub left_run : (p : Problem) (s : State) (i : ℕ) (steps : List ℕ) → i < length steps → run_from p s i (drop i steps) ≡ run_from p s i (get_or steps i 0 ∷ drop (suc i) steps)
left_run p s i steps h = ap (run_from p s i) (drop-cons steps i 0 h)

pub end_run : (p : Problem) (s : State) (i : ℕ) (steps : List ℕ) → length steps ≤ i → run_from p s i (drop i steps) ≡ run_from p s i []
end_run p s i steps h = ap (run_from p s i) (drop_of_length-le steps h)

-- ---- an answer, and the state left
module _ (R : Run) (r : End) (s : State) where
  pub answer_is : (a : Result ℕ) → R ≡ record { answer = a; state = s } → ended r ≡ a → (ended r ≡ R.answer) × (s ≡ R.state)
  answer_is a e q = (q ∙ sym (ap (λ (x : Run). x.answer) e), sym (ap (λ (x : Run). x.state) e))

pub end_done : (i : ℕ) → ended (Done i) ≡ accepted i
unfolding ended
end_done i = refl

pub end_no_action : (i : ℕ) → ended (NoAction i) ≡ refused 13 i
unfolding ended
end_no_action i = refl

pub end_not_now : (i : ℕ) → ended (NotNow i) ≡ refused 14 i
unfolding ended
end_not_now i = refl

pub end_no_goal : (i : ℕ) → ended (NoGoal i) ≡ refused 15 i
unfolding ended
end_no_goal i = refl
