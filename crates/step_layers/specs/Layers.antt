-- Layers taken one after another from a state on.
use Rattle.std.specs.Prelude.{◌≡◌, ◌⊎◌, Bool, true, false, ℕ, suc, ◌+◌, ◌-◌, ◌<◌, ◌≤◌, length, get_or, drop, if◌then◌else◌}
use Rattle.std.proofs.Math.Path.{refl, ap, subst}
use Rattle.std.proofs.Common.{sym, ◌∙◌, arith, drop_of_length-le, length-drop, drop-cons, drop-drop, take-add, length-take-le}
use Rattle.std.proofs.Math.Logic.{inl, inr, ⊎_elim}
use Rattle.std.proofs.lemmas.Bool.{false≢true}
use Rattle.std.proofs.Math.Option.{Option, none, some}
use mathlib.Core.List.{List, [], ◌∷◌, ◌++◌, append_assoc, append-nil}
use Rattle.std.proofs.Math.ListN.{take}
use Rattle.definitions.specs.Lists.{option}
use Rattle.definitions.specs.Refusal.{Result, refused, accepted}
use Rattle.definitions.specs.Problem.Atoms.{Problem, State, atom_number}
use Rattle.definitions.specs.Problem.Actions.{Action}
use Rattle.definitions.specs.Problem.Strips.{Run, run_from}
use Rattle.definitions.specs.Reply.Layers.{may_take_all, after_all, actions_at, run_layers_from, layers_from}
use Rattle.laws.specs.Booleans.{T_of}
use Rattle.meaning.specs.Layers.{layer_runs}
use Rattle.step_run.specs.Ended.{ended}
use Rattle.step_run.specs.RunLaws.{end_done, end_no_action, end_not_now, end_no_goal}
use Rattle.step_run.specs.declared.End.{End}
use Rattle.step_run.specs.declared.End.TheVariants.{Done, NoAction, NotNow, NoGoal}
use Rattle.step_layers.specs.Tests.{is_taken, layer_code, layer_state}

-- ends that do not fall and are not past the last step
unfoldable pub AreEnds : ℕ → ℕ → List ℕ → Type 0
AreEnds n k [] = Unit {0}
AreEnds n k (e ∷ es) = (k ≤ e) × (e ≤ n) × AreEnds n e es

-- the answer; the state left where all layers were taken, and where it comes from where one is refused
pub record LayersEnd (p : Problem) (s : State) (steps ends : List ℕ) (r : End) (before : ℕ) (left : State) : Type 0 where
  pub answer : ended r ≡ (run_layers_from p s 0 (layers_from 0 steps ends)).answer
  pub all_left : is_taken r ≡ true → left ≡ (run_layers_from p s 0 (layers_from 0 steps ends)).state
  pub some_left : is_taken r ≡ false → (run_from p s 0 (take before steps)).state ≡ (run_layers_from p s 0 (layers_from 0 steps ends)).state

-- ---- one layer
module _ (p : Problem) (s : State) (ks : List ℕ) where
  by_code : (n : ℕ) (o : Option (List Action)) → actions_at p ks ≡ o → layer_code p s ks ≡ n → option o 13 (λ l. if may_take_all p s l then 0 else 14) ≡ n
  unfolding layer_code
  by_code n o q e = subst (λ (x : Option (List Action)). option x 13 (λ l. if may_take_all p s l then 0 else 14) ≡ n) q e

  if_code : (b : Bool) (n : ℕ) → (if b then 0 else 14) ≡ n → ((b ≡ true) × (n ≡ 0)) ⊎ ((b ≡ false) × (n ≡ 14))
  if_code true n e = inl (refl, sym e)
  if_code false n e = inr (refl, sym e)

  module _ (i : ℕ) (rest : List (List ℕ)) where
    turn_none : actions_at p ks ≡ none → run_layers_from p s i (ks ∷ rest) ≡ record { answer = refused 13 i; state = s }
    unfolding run_layers_from option
    turn_none e = rw e refl

    turn_not : (l : List Action) → actions_at p ks ≡ some l → may_take_all p s l ≡ false
        → run_layers_from p s i (ks ∷ rest) ≡ record { answer = refused 14 i; state = s }
    unfolding run_layers_from option
    turn_not l e m = rw (e, m) refl

    turn_taken : (l : List Action) → actions_at p ks ≡ some l → may_take_all p s l ≡ true
        → run_layers_from p s i (ks ∷ rest) ≡ run_layers_from p (after_all p s l) (suc i) rest
    unfolding run_layers_from option
    turn_taken l e m = rw (e, m) refl

  -- what a code tells
  abbrev Taken : Type 0
  Taken = (l : List Action) × (actions_at p ks ≡ some l) × (may_take_all p s l ≡ true)

  abbrev Refused : Type 0
  Refused = (l : List Action) × (actions_at p ks ≡ some l) × (may_take_all p s l ≡ false)

  code_tells : (n : ℕ) → layer_code p s ks ≡ n → ((n ≡ 13) × (actions_at p ks ≡ none)) ⊎ (((n ≡ 0) × Taken) ⊎ ((n ≡ 14) × Refused))
  unfolding option
  code_tells n e = by_option (actions_at p ks) refl
    where
      by_option : (o : Option (List Action)) → actions_at p ks ≡ o → ((n ≡ 13) × (actions_at p ks ≡ none)) ⊎ (((n ≡ 0) × Taken) ⊎ ((n ≡ 14) × Refused))
      by_option none q = inl (sym (by_code n none q e), q)
      by_option (some l) q =
          ⊎_elim (λ h. inr (inl (h.1, (l, q, h.0)))) (λ h. inr (inr (h.1, (l, q, h.0)))) (if_code (may_take_all p s l) n (by_code n (some l) q e))

  state_taken : (l : List Action) → actions_at p ks ≡ some l → layer_state p s ks ≡ after_all p s l
  unfolding layer_state option
  state_taken l e = rw e refl

  pub turn_13 : (i : ℕ) (rest : List (List ℕ)) (n : ℕ) → n ≡ layer_code p s ks → n ≡ 13
      → run_layers_from p s i (ks ∷ rest) ≡ record { answer = refused 13 i; state = s }
  turn_13 i rest n e h =
      ⊎_elim (λ q. turn_none i rest q.1) (λ q. ⊎_elim (λ r. absurd (omega (arith, r.0))) (λ r. absurd (omega (arith, r.0))) q) (code_tells n (sym e))

  pub turn_14 : (i : ℕ) (rest : List (List ℕ)) (n : ℕ) → n ≡ layer_code p s ks → n ≡ 14
      → run_layers_from p s i (ks ∷ rest) ≡ record { answer = refused 14 i; state = s }
  turn_14 i rest n e h =
      ⊎_elim (λ q. absurd (omega (arith, q.0))) (λ q. ⊎_elim (λ r. absurd (omega (arith, r.0))) (λ r. turn_not i rest r.1.0 r.1.1 r.1.2) q)
      (code_tells n (sym e))

  pub turn_0 : (i : ℕ) (rest : List (List ℕ)) (n : ℕ) (z : State) → n ≡ layer_code p s ks → (n ≡ 13 → ⊥) → (n ≡ 14 → ⊥) → (n ≡ 0 → z ≡ layer_state p s ks)
      → (run_layers_from p s i (ks ∷ rest) ≡ run_layers_from p z (suc i) rest)
      × ((j : ℕ) (more : List ℕ) → run_from p s j (ks ++ more) ≡ run_from p z (j + length ks) more)
  turn_0 i rest n z e h k q = ⊎_elim (λ x. absurd (h x.0)) (λ x. ⊎_elim (λ y.
      let l = y.1.0 in
      let w : z ≡ after_all p s l = q y.0 ∙ state_taken l y.1.1 in (
        turn_taken i rest l y.1.1 y.1.2 ∙ ap (λ (x : State). run_layers_from p x (suc i) rest) (sym w),
        λ j more. layer_runs p ks l s j more y.1.1 (T_of y.1.2) ∙ ap (λ (x : State). run_from p x (j + length ks) more) (sym w),
      )) (λ y. absurd (k y.0)) x) (code_tells n (sym e))

-- ---- the lent layers that are left
drop_to : (steps : List ℕ) (k e : ℕ) → k ≤ e → drop (e - k) (drop k steps) ≡ drop e steps
drop_to steps k e b = let q : k + (e - k) ≡ e = omega arith in drop-drop (e - k) k steps ∙ ap (λ (m : ℕ). drop m steps) q

module _ (steps ends : List ℕ) (i k : ℕ) where
  pub next_layer : i < length ends → k ≤ get_or ends i 0
      → layers_from k (drop k steps) (drop i ends) ≡ take (get_or ends i 0 - k) (drop k steps) ∷ layers_from (get_or ends i 0) (drop (get_or ends i 0) steps)
      (drop (suc i) ends)
  unfolding layers_from
  next_layer h b =
      ap (layers_from k (drop k steps)) (drop-cons ends i 0 h)
      ∙ ap (λ (x : List ℕ). take (get_or ends i 0 - k) (drop k steps) ∷ layers_from (get_or ends i 0) x (drop (suc i) ends)) (drop_to steps k (get_or ends i 0) b)

  pub next_ends : i < length ends → AreEnds (length steps) k (drop i ends)
      → (k ≤ get_or ends i 0) × (get_or ends i 0 ≤ length steps) × AreEnds (length steps) (get_or ends i 0) (drop (suc i) ends)
  unfolding AreEnds
  next_ends h a = subst (AreEnds (length steps) k) (drop-cons ends i 0 h) a

  pub no_layers : length ends ≤ i → layers_from k (drop k steps) (drop i ends) ≡ []
  unfolding layers_from
  no_layers h = ap (layers_from k (drop k steps)) (drop_of_length-le ends h)

-- ---- the loop: what is left to run, and that the state is the one after the first k steps
pub record LayersLeft (p : Problem) (s₀ : State) (steps ends : List ℕ) (s : State) (i k : ℕ) : Type 0 where
  pub left : run_layers_from p s₀ 0 (layers_from 0 steps ends) ≡ run_layers_from p s i (layers_from k (drop k steps) (drop i ends))
  pub run : (more : List ℕ) → run_from p s₀ 0 (take k steps ++ more) ≡ run_from p s k more

none_left : (p : Problem) (s : State) (i : ℕ) → (run_from p s i []).state ≡ s
unfolding run_from
none_left p s i = refl

module _ (p : Problem) (s : State) (i : ℕ) where
  goal_there : s 2 ≡ true → run_layers_from p s i [] ≡ record { answer = accepted i; state = s }
  unfolding run_layers_from atom_number
  goal_there e = rw e refl

  goal_not : s 2 ≡ false → run_layers_from p s i [] ≡ record { answer = refused 15 i; state = s }
  unfolding run_layers_from atom_number
  goal_not e = rw e refl

module _ (p : Problem) (s₀ : State) (steps ends : List ℕ) where
  pub left_start : LayersLeft p s₀ steps ends s₀ 0 0
  left_start = record { left = refl; run = λ more. refl }

  module _ (s : State) (i k : ℕ) (L : LayersLeft p s₀ steps ends s i k) where
    run_so_far : (run_from p s₀ 0 (take k steps)).state ≡ s
    run_so_far = ap (λ (x : List ℕ). (run_from p s₀ 0 x).state) (sym (append-nil (take k steps))) ∙ ap (λ (x : Run). x.state) (L.run []) ∙ none_left p s k

    module _ (h : i < length ends) (b : k ≤ get_or ends i 0) (m : get_or ends i 0 ≤ length steps) (n : ℕ) where
      abbrev e : ℕ
      e = get_or ends i 0

      abbrev ks : List ℕ
      ks = take (e - k) (drop k steps)

      abbrev rest : List (List ℕ)
      rest = layers_from e (drop e steps) (drop (suc i) ends)

      now_left : run_layers_from p s₀ 0 (layers_from 0 steps ends) ≡ run_layers_from p s i (ks ∷ rest)
      now_left = L.left ∙ ap (run_layers_from p s i) (next_layer steps ends i k h b)

      pub left_next : (z : State) → n ≡ layer_code p s ks → (n ≡ 13 → ⊥) → (n ≡ 14 → ⊥) → (n ≡ 0 → z ≡ layer_state p s ks)
          → LayersLeft p s₀ steps ends z (suc i) e
      left_next z c x y q =
          let (u, v) = turn_0 p s ks i rest n z c x y q in
          let g : k + (e - k) ≡ e = omega arith in
          let j : k + length ks ≡ e = omega (arith, length-take-le (e - k) (drop k steps) (omega (arith, length-drop k steps))) in
          record {
            left = now_left ∙ u;
            run = λ more.
                ap (λ (x : List ℕ). run_from p s₀ 0 (x ++ more)) (ap (λ (d : ℕ). take d steps) (sym g) ∙ take-add k (e - k) steps)
                ∙ ap (run_from p s₀ 0) (append_assoc (take k steps) ks more)
                ∙ L.run (ks ++ more) ∙ v k more ∙ ap (λ (d : ℕ). run_from p z d more) j;
          }

      refused_end : (r : End) (w : Result ℕ) (z : State) → is_taken r ≡ false → ended r ≡ w
          → run_layers_from p s i (ks ∷ rest) ≡ record { answer = w; state = s } → LayersEnd p s₀ steps ends r k z
      refused_end r w z f a q = record {
        answer = a ∙ sym (ap (λ (x : Run). x.answer) (now_left ∙ q));
        all_left = λ t. absurd (false≢true (sym f ∙ t));
        some_left = λ _. run_so_far ∙ sym (ap (λ (x : Run). x.state) (now_left ∙ q));
      }

      pub end_13 : (z : State) → n ≡ layer_code p s ks → n ≡ 13 → LayersEnd p s₀ steps ends (NoAction i) k z
      end_13 z c q = refused_end (NoAction i) (refused 13 i) z refl (end_no_action i) (turn_13 p s ks i rest n c q)

      pub end_14 : (z : State) → n ≡ layer_code p s ks → n ≡ 14 → LayersEnd p s₀ steps ends (NotNow i) k z
      end_14 z c q = refused_end (NotNow i) (refused 14 i) z refl (end_not_now i) (turn_14 p s ks i rest n c q)

    module _ (h : length ends ≤ i) where
      taken_end : (r : End) (w : Result ℕ) → is_taken r ≡ true → ended r ≡ w → run_layers_from p s i [] ≡ record { answer = w; state = s }
          → LayersEnd p s₀ steps ends r k s
      taken_end r w f a q =
          let u : run_layers_from p s₀ 0 (layers_from 0 steps ends) ≡ record { answer = w; state = s } =
          L.left ∙ ap (run_layers_from p s i) (no_layers steps ends i k h) ∙ q in
          record {
            answer = a ∙ sym (ap (λ (x : Run). x.answer) u);
            all_left = λ _. sym (ap (λ (x : Run). x.state) u);
            some_left = λ t. absurd (false≢true (sym t ∙ f));
          }

      pub end_layers_done : s 2 ≡ true → LayersEnd p s₀ steps ends (Done i) k s
      end_layers_done g = taken_end (Done i) (accepted i) refl (end_done i) (goal_there p s i g)

      pub end_layers_no_goal : s 2 ≡ false → LayersEnd p s₀ steps ends (NoGoal i) k s
      end_layers_no_goal g = taken_end (NoGoal i) (refused 15 i) refl (end_no_goal i) (goal_not p s i g)
