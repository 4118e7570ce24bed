-- The code's tests are those of the definitions.
use Rattle.std.specs.Prelude.{◌≡◌, Bool, not, ◌&&◌, ℕ, suc, ◌<◌, ◌≤◌, length, get_or, drop, if◌then◌else◌}
use Rattle.std.proofs.Math.Path.{refl, sym, ap}
use Rattle.std.proofs.Common.{◌∙◌, arith, drop_of_length-le, drop-cons}
use Rattle.std.proofs.Math.Bool.{true, false}
use Rattle.std.proofs.lemmas.Bool.{false≢true}
use Rattle.std.proofs.Math.Option.{Option, none, some}
use mathlib.Core.List.{List, [], ◌∷◌}
use borrow.Author.Tests.{eq-eqb, ne_eqb}
use Rattle.definitions.specs.Lists.{all, option}
use Rattle.definitions.specs.Problem.Atoms.{Problem, State, atom_number}
use Rattle.definitions.specs.Problem.Actions.{Action, set, begin_proof, prove_and, prove_or, prove_exists, prove_forall, prove_goal, round_end, mark_in}
use Rattle.definitions.specs.Problem.Actions.{mark_out, action_at}
use Rattle.definitions.specs.Problem.Strips.{may_take, run_from}
use Rattle.definitions.specs.Reply.Layers.{may_take_all, after_all, actions_at}
use Rattle.laws.specs.Booleans.{T_of}
use Rattle.meaning.specs.Means.{Good}
use Rattle.laws.specs.Numbers.{IsAction, action_is}
use Rattle.meaning.specs.Layers.{NoEvery, actions_cons, actions_none}
use Rattle.meaning.specs.LayerTests.{was_taken, takes_all, stays, run_tells, run_leaves, actions_valid, three_tests}
use Rattle.problem_table.specs.Numbers.{need_numbers}
use Rattle.problem_table.specs.Of.{Is, said, act_of}
use Rattle.problem_table.proofs.Needs.{may_is}
use Rattle.problem_table.specs.declared.Act.{Act}
use Rattle.step_run.specs.Ended.{ended, is_nothing}
use Rattle.step_run.specs.declared.End.{End}
use Rattle.step_run.specs.declared.End.TheVariants.{Done, NoAction, NotNow, NoGoal}
use Rattle.step_run.specs.RunLaws.{is_none, is_some, act_some}
use Rattle.step_layers.specs.Tests.{kind_of, is_taken, stays_by, is_action, may_at, stay_at, layer_code, layer_state}

-- ---- a test of all that are left
module _ (f : ℕ → Bool) (ks : List ℕ) (i : ℕ) where
  pub test_next : (b : Bool) → i < length ks → f (get_or ks i 0) ≡ b → all f (drop i ks) ≡ (b && all f (drop (suc i) ks))
  unfolding all
  test_next b h e = ap (all f) (drop-cons ks i 0 h) ∙ ap (λ (x : Bool). x && all f (drop (suc i) ks)) e

  pub test_none : length ks ≤ i → all f (drop i ks) ≡ true
  unfolding all
  test_none h = ap (all f) (drop_of_length-le ks h)

-- ---- a run of which all steps were taken
pub taken_is : (e : End) → is_taken e ≡ was_taken (ended e)
unfolding was_taken ended
taken_is (Done k) = refl
taken_is (NoAction k) = refl
taken_is (NotNow k) = refl
taken_is (NoGoal k) = refl

-- ---- what an action needs and does not remove, by its kind
module _ (w : List ℕ) (s : State) (a : Act) (k : ℕ) (e : k ≡ kind_of a) where
  pub by_set : k ≡ 0 → s 0 ≡ stays_by w s a
  unfolding stays_by
  by_set h = sym (rw (eq-eqb (kind_of a) 0 (sym e ∙ h)) refl)

  pub by_begin : k ≡ 1 → true ≡ stays_by w s a
  unfolding stays_by
  by_begin h = sym (rw (ne_eqb (kind_of a) 0 (omega arith), eq-eqb (kind_of a) 1 (sym e ∙ h)) refl)

  pub by_other : (k ≡ 0 → ⊥) → (k ≡ 1 → ⊥) → all s (need_numbers w a) ≡ stays_by w s a
  unfolding stays_by
  by_other h j = sym (rw (ne_eqb (kind_of a) 0 (λ q. h (e ∙ q)), ne_eqb (kind_of a) 1 (λ q. j (e ∙ q))) refl)

-- ---- of a number
module _ (p : Problem) (k : ℕ) (a : Act) (e : a ≡ act_of (action_at p k)) where
  pub no_action : is_nothing a ≡ true → false ≡ is_action p k
  unfolding is_action option
  no_action h = rw (is_none (action_at p k) (sym (ap is_nothing e) ∙ h)) refl

  pub an_action : is_nothing a ≡ false → true ≡ is_action p k
  unfolding is_action option
  an_action h = let f = is_some p k a e h in rw f.at refl

  pub action_or_not : not (is_nothing a) ≡ is_action p k
  action_or_not = by_test (is_nothing a) refl
    where
      by_test : (b : Bool) → is_nothing a ≡ b → not b ≡ is_action p k
      by_test true h = no_action h
      by_test false h = an_action h

stays_said : (p : Problem) (w : List ℕ) → Is p w → (s : State) (x : Action) → IsAction p x → stays_by w s (said x) ≡ stays p s x
unfolding stays_by stays said atom_number
stays_said p w is s (set r row) v = refl
stays_said p w is s begin_proof v = refl
stays_said p w is s (prove_and u row) v = may_is p w is s (prove_and u row) v
stays_said p w is s (prove_or u row i) v = may_is p w is s (prove_or u row i) v
stays_said p w is s (prove_exists u row x) v = may_is p w is s (prove_exists u row x) v
stays_said p w is s (prove_forall u row z) v = may_is p w is s (prove_forall u row z) v
stays_said p w is s prove_goal v = may_is p w is s prove_goal v
stays_said p w is s round_end v = may_is p w is s round_end v
stays_said p w is s (mark_in r row) v = may_is p w is s (mark_in r row) v
stays_said p w is s (mark_out r row) v = may_is p w is s (mark_out r row) v

none_stays : (w : List ℕ) (s : State) → stays_by w s (act_of none) ≡ true
unfolding stays_by act_of need_numbers all
none_stays w s = refl

stay_none : (p : Problem) (s : State) (k : ℕ) → action_at p k ≡ none → stay_at p s k ≡ true
unfolding stay_at option
stay_none p s k q = rw q refl

stay_some : (p : Problem) (s : State) (k : ℕ) (x : Action) → action_at p k ≡ some x → stay_at p s k ≡ stays p s x
unfolding stay_at option
stay_some p s k x q = rw q refl

pub stay_is : (p : Problem) (w : List ℕ) → Is p w → (s : State) (k : ℕ) (a : Act) → a ≡ act_of (action_at p k) → stays_by w s a ≡ stay_at p s k
stay_is p w is s k a e = ap (stays_by w s) e ∙ by_option (action_at p k) refl
  where
    by_option : (o : Option Action) → action_at p k ≡ o → stays_by w s (act_of o) ≡ stay_at p s k
    by_option none q = none_stays w s ∙ sym (stay_none p s k q)
    by_option (some x) q = ap (stays_by w s) (act_some x) ∙ stays_said p w is s x (action_is p k x q) ∙ sym (stay_some p s k x q)

-- ---- of a layer
module _ (p : Problem) where
  module _ (k : ℕ) (ks : List ℕ) where
    no_first : action_at p k ≡ none → (all (is_action p) (k ∷ ks) ≡ false) × (actions_at p (k ∷ ks) ≡ none)
    unfolding all is_action option actions_at
    no_first q = (rw q refl, rw q refl)

    a_first : (a : Action) → action_at p k ≡ some a → all (is_action p) (k ∷ ks) ≡ all (is_action p) ks
    unfolding all is_action option
    a_first a q = rw q refl

    both_some : (a : Action) (l : List Action) → action_at p k ≡ some a → actions_at p ks ≡ some l → actions_at p (k ∷ ks) ≡ some (a ∷ l)
    unfolding option actions_at
    both_some a l q f = rw (q, f) refl

    rest_none : (a : Action) → action_at p k ≡ some a → actions_at p ks ≡ none → actions_at p (k ∷ ks) ≡ none
    unfolding option actions_at
    rest_none a q f = rw (q, f) refl

  actions_some : (ks : List ℕ) → all (is_action p) ks ≡ true → (l : List Action) × (actions_at p ks ≡ some l)
  unfolding actions_at
  actions_some [] e = ([], refl)
  actions_some (k ∷ ks) e = by_option (action_at p k) refl (actions_some ks)
    where
      by_option : (o : Option Action) → action_at p k ≡ o → (all (is_action p) ks ≡ true → (l : List Action) × (actions_at p ks ≡ some l))
          → (l : List Action) × (actions_at p (k ∷ ks) ≡ some l)
      by_option none q r = absurd (false≢true (sym (no_first k ks q).0 ∙ e))
      by_option (some a) q r = let (l, f) = r (sym (a_first k ks a q) ∙ e) in (a ∷ l, both_some k ks a l q f)

  actions_not : (ks : List ℕ) → all (is_action p) ks ≡ false → actions_at p ks ≡ none
  unfolding all
  actions_not [] e = absurd (false≢true (sym e))
  actions_not (k ∷ ks) e = by_option (action_at p k) refl (actions_not ks)
    where
      by_option : (o : Option Action) → action_at p k ≡ o → (all (is_action p) ks ≡ false → actions_at p ks ≡ none) → actions_at p (k ∷ ks) ≡ none
      by_option none q r = (no_first k ks q).1
      by_option (some a) q r = rest_none k ks a q (r (sym (a_first k ks a q) ∙ e))

  all_stay_of : (s : State) (ks : List ℕ) (l : List Action) → actions_at p ks ≡ some l → all (stay_at p s) ks ≡ all (stays p s) l
  unfolding all stay_at option
  all_stay_of s [] l e = ap (all (stays p s)) (actions_none p l e)
  all_stay_of s (k ∷ ks) l e =
      let (a, m, f, g, q) = actions_cons p k ks l e in
      let r = all_stay_of s ks m g in
      rw (f, r) refl ∙ ap (all (stays p s)) q

  module _ (s : State) where
    all_may_is : (ks : List ℕ) (l : List Action) → actions_at p ks ≡ some l → all (may_at p s) ks ≡ all (may_take p s) l
    unfolding all option
    all_may_is [] l e = ap (all (may_take p s)) (actions_none p l e)
    all_may_is (k ∷ ks) l e =
        let (a, m, f, g, q) = actions_cons p k ks l e in
        let r = all_may_is ks m g in
        rw (f, r) refl ∙ ap (all (may_take p s)) q

    code_none : (ks : List ℕ) → actions_at p ks ≡ none → layer_code p s ks ≡ 13
    unfolding layer_code option
    code_none ks e = rw e refl

    code_some : (ks : List ℕ) (l : List Action) (b : Bool) → actions_at p ks ≡ some l → may_take_all p s l ≡ b → layer_code p s ks ≡ (if b then 0 else 14)
    unfolding layer_code option
    code_some ks l b e m = rw (e, m) refl

    state_some : (ks : List ℕ) (l : List Action) → actions_at p ks ≡ some l → layer_state p s ks ≡ after_all p s l
    unfolding layer_state option
    state_some ks l e = rw e refl

    pub layer_13 : (ks : List ℕ) → all (is_action p) ks ≡ false → layer_code p s ks ≡ 13
    layer_13 ks e = code_none ks (actions_not ks e)

    module _ (G : Good p) (plain : NoEvery p) (ks : List ℕ) (h : all (is_action p) ks ≡ true) where
      by_three : (a b c : Bool) → (l : List Action) → actions_at p ks ≡ some l → all (may_take p s) l ≡ a → takes_all p s l ≡ b
          → all (stays p (after_all p s l)) l ≡ c → layer_code p s ks ≡ (if a && (b && c) then 0 else 14)
      by_three a b c l e x y z = code_some ks l (a && (b && c)) e (three_tests p G plain s l (actions_valid p G ks l e) ∙ rw (x, y, z) refl)

      pub layer_not_may : all (may_at p s) ks ≡ false → layer_code p s ks ≡ 14
      layer_not_may m =
          let (l, e) = actions_some ks h in by_three false (takes_all p s l) (all (stays p (after_all p s l)) l) l e (sym (all_may_is ks l e) ∙ m) refl refl

      pub layer_not_taken : all (may_at p s) ks ≡ true → was_taken (run_from p s 0 ks).answer ≡ false → layer_code p s ks ≡ 14
      layer_not_taken m t =
          let (l, e) = actions_some ks h in
          by_three true false (all (stays p (after_all p s l)) l) l e (sym (all_may_is ks l e) ∙ m) (sym (run_tells p ks l s 0 e) ∙ t) refl

      module _ (z : State) (m : all (may_at p s) ks ≡ true) (t : was_taken (run_from p s 0 ks).answer ≡ true) (q : z ≡ (run_from p s 0 ks).state) where
        left_is : (l : List Action) → actions_at p ks ≡ some l → z ≡ after_all p s l
        left_is l e = q ∙ run_leaves p G plain ks l s 0 e (T_of (sym (run_tells p ks l s 0 e) ∙ t))

        stays_are : (b : Bool) → all (stay_at p z) ks ≡ b → layer_code p s ks ≡ (if b then 0 else 14)
        stays_are b u =
            let (l, e) = actions_some ks h in
            by_three true true b l e (sym (all_may_is ks l e) ∙ m) (sym (run_tells p ks l s 0 e) ∙ t)
            (ap (λ (x : State). all (stays p x) l) (sym (left_is l e)) ∙ sym (all_stay_of z ks l e) ∙ u)

        pub layer_not_stay : all (stay_at p z) ks ≡ false → layer_code p s ks ≡ 14
        layer_not_stay u = stays_are false u

        pub layer_taken : all (stay_at p z) ks ≡ true → (layer_code p s ks ≡ 0) × (z ≡ layer_state p s ks)
        layer_taken u = let (l, e) = actions_some ks h in (stays_are true u, left_is l e ∙ sym (state_some ks l e))
