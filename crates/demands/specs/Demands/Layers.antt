-- Document 02, job 2, section 23 of the demands: steps side by side.
use Prim.Native.Nat.{ℕ, zero, ◌<◌, ◌≤◌}
use Rattle.std.specs.Prelude.{◌≡◌, ◌⊎◌, ◌↔◌, not, eqb, length, get_or}
use Rattle.std.proofs.Math.Path.{refl, ap}
use Rattle.std.proofs.Common.{sym, ap₂, subst, ◌∙◌, arith}
use Rattle.std.proofs.Math.Bool.{true, false}
use Rattle.std.proofs.Math.Option.{none, some}
use mathlib.Core.List.{List, map, ◌++◌, Memᴰ}
use Rattle.std.proofs.Math.Dec.{ltb}
use borrow.Author.Tests.{le-ltb}
use Rattle.definitions.specs.Limits.{CaseLimits, step_limit}
use Rattle.definitions.specs.Lists.{filter, is_in}
use Rattle.definitions.specs.Refusal.{Result, refused, accepted, ◌>>=◌, refuse_if, case_numbers, ready_numbers, run_numbers, picks_numbers}
use Rattle.definitions.specs.Sheet.Relations.{Relation, Tuple}
use Rattle.definitions.specs.Sheet.Sheets.{Label}
use Rattle.definitions.specs.Problem.Truth.{Case, are_picks, are_of_kinds, first_of_other_kind, rule_is_true}
use Rattle.definitions.specs.Problem.Atoms.{Problem, problem_of, Atom, State, state_words}
use Rattle.definitions.specs.Problem.Actions.{Action, begin_proof, action_at, action_number, needs, adds, removes}
use Rattle.definitions.specs.Problem.Strips.{may_take, reaches_goal, Run, run}
use Rattle.definitions.specs.Problem.Built.{built_steps, bound}
use Rattle.definitions.specs.Reply.Outcome.{read_filed, read_case, ground, read_problem, asked, nothing, room_for, state_length, written, ThirdInput}
use Rattle.definitions.specs.Reply.Outcome.{as_numbers, text_picks, Checked}
use Rattle.definitions.specs.Reply.Outcome.{check_steps, kind_refusal, Plan, plan, built_from, build_steps, Ready}
use Rattle.definitions.specs.Reply.Layers.{Window, case_window, disturbs, may_take_all, run_layers, built_layers, ends_from, take_layers, window_of}
use Rattle.definitions.specs.Reply.Layers.{layers_checked_from, check_layers, LayeredPlan, layered_plan, layers_built_from, build_layers}
use Rattle.definitions.specs.Reply.Layers
use Rattle.laws.specs.Numbers
use Rattle.laws.specs.Results.{accepted_eq, is_accepted_lem, refused_accepted}
use Rattle.laws.specs.Asked
use Rattle.laws.specs.Reader
use Reader.{Accepted, case_fits, gives_if}
use Rattle.laws.specs.Refusals
use Rattle.meaning.specs.Grounded.{good}
use Rattle.meaning.specs.Building
use Rattle.meaning.specs.Layered
use Rattle.meaning.specs.LayerPlans
use Rattle.demands.specs.Accepting
use Rattle.demands.specs.Layering
use Rattle.demands.specs.Demands

-- ---- 23, what a layer is: for every problem and state, steps may be taken as a layer exactly if each may be taken in that state and none
-- disturbs the one at another place, an action that stands twice being at two;
pub layer_means : (p : Problem) (s : State) (l : List Action) → (may_take_all p s l ≡ true)
    ↔ (((i : ℕ) → i < length l → may_take p s (get_or l i begin_proof) ≡ true)
    × ((i j : ℕ) → i < length l → j < length l → (i ≡ j → ⊥) → disturbs p (get_or l i begin_proof) (get_or l j begin_proof) ≡ false))
layer_means p s l = Layering.layer_means p s l

-- and of an accepted case's problem, one action disturbs another exactly if it removes an atom that the other needs or adds.
pub disturbs_means : (L : CaseLimits) → L.elements ≤ 64 → (question site : List ℕ) (c : Case) → read_case L question site ≡ accepted c
    → (i j : ℕ) (a b : Action) → action_at (problem_of c) i ≡ some a → action_at (problem_of c) j ≡ some b
    → (disturbs (problem_of c) a b ≡ true)
    ↔ ((x : Atom) × Memᴰ x (removes (problem_of c) a) × (Memᴰ x (needs (problem_of c) b) ⊎ Memᴰ x (adds (problem_of c) b)))
disturbs_means L few question site c e i j a b f g =
    Layering.disturbs_means (problem_of c) (good c (gives_if Accepted (read_case L question site) c e (case_fits L few question site))) a b
    (Numbers.action_is (problem_of c) i a f) (Numbers.action_is (problem_of c) j b g)

-- For every limits of at most 64 elements, with no more atoms and no larger a bound than steps may be handed over, and every question and site
-- that are accepted under them: c is the case read from the two texts, with its labels, and p its numbered problem.
module _ (L : CaseLimits) (few : L.elements ≤ 64) (lendable : L.atoms ≤ step_limit) (handed : L.steps ≤ step_limit) (question site : List ℕ) (c : Case)
    (labels : List Label) (p : Problem)
    (is_filed : read_filed L question site ≡ accepted (record { case = c; labels = labels })) (is_problem : read_problem L question site ≡ accepted p) where
  -- (what the proofs in this module start from)
  same_problem : p ≡ problem_of c
  same_problem = Demands.same_problem L few lendable handed question site c labels p is_filed is_problem

  is_case : read_case L question site ≡ accepted c
  is_case = Demands.is_case L few lendable handed question site c labels p is_filed is_problem

  grounds : ground L c ≡ accepted p
  grounds = Demands.grounds L few lendable handed question site c labels p is_filed is_problem

  A : Accepted c
  A = Demands.A L few lendable handed question site c labels p is_filed is_problem

  -- (the picks that are taken)
  abbrev taken : ThirdInput → Result (List Tuple)
  taken = Demands.taken L few lendable handed question site c labels p is_filed is_problem

  -- ---- 23, document 02, job 2. The window call tells the case's window. (These calls take no case with an `every` line.)
  pub window_is : c.question.every ≡ none → window_of L question site ≡ accepted (case_window p)
  unfolding window_of asked nothing ◌>>=◌
  window_is plain = rw (is_filed, grounds, Asked.every_passes c plain) refl

  -- Checking a layered plan runs its layers, and leaves the last state's words at the front of its buffer.
  pub checking_layers : c.question.every ≡ none → (steps ends : List ℕ) (layers : List (List ℕ)) → take_layers steps ends ≡ accepted layers
      → (state : List ℕ) → state_length p ≤ length state
      → check_layers L question site steps ends state
      ≡ record { answer = (run_layers p layers).answer; state = written (state_words p (run_layers p layers).state) state }
  unfolding check_layers layers_checked_from asked nothing room_for refuse_if ◌>>=◌
  checking_layers plain steps ends layers t state h =
      let e : ltb (length state) (state_length p) ≡ false = le-ltb (length state) (state_length p) h in
      rw (is_filed, t, grounds, Asked.every_passes c plain, e) refl

  -- flat: a layered plan that is accepted, with n layers, has n ends; its steps, one after another, are accepted by the plain checker,
  -- which leaves the same state; so the picks read from them are of the declared kinds and make the rule true.
  -- (from what was read before the layers ran to this case and problem)
  layers_told : (steps ends state : List ℕ) (n : ℕ) (r : Ready (List (List ℕ))) → Layering.LayersTell L question site steps ends state n r
      → (take_layers steps ends ≡ accepted r.third) × (state_length p ≤ length state) × ((run_layers p r.third).answer ≡ accepted n)
      × ((check_layers L question site steps ends state).state ≡ written (state_words p (run_layers p r.third).state) state)
  layers_told steps ends state n r t =
      let same : r.problem ≡ p =
      accepted_eq r.problem p (sym t.is_problem ∙ ap (ground L) (accepted_eq r.case c (sym t.is_case ∙ is_case)) ∙ grounds) in (
        t.is_taken,
        subst (λ (x : Problem). state_length x ≤ length state) same t.room,
        subst (λ (x : Problem). (run_layers x r.third).answer ≡ accepted n) same t.runs,
        t.leaves
            ∙ ap (λ (x : Problem). written (state_words x (run_layers x r.third).state) state) same,
      )

  pub flat : (steps ends state : List ℕ) (n : ℕ) → (check_layers L question site steps ends state).answer ≡ accepted n
      → (n ≡ length ends) × (check_steps L question site (as_numbers steps) state ≡ record {
        answer = accepted (length steps);
        state = (check_layers L question site steps ends state).state;
      }) × Demands.Counts L few lendable handed question site c labels p is_filed is_problem (as_numbers steps) (length steps) steps
  flat steps ends state n e =
      let (r, t) = Layering.layers_tell L question site steps ends state n e in
      let (is_taken, room, runs, leaves) = layers_told steps ends state n r t in
      let (u, f, m) = Layering.taken_layers steps ends r.third is_taken in
      let (i, q) = Layering.flat_runs p r.third n runs in
      let ran : run p steps ≡ record { answer = accepted (length steps); state = (run_layers p r.third).state } =
      ap (run p) (sym f) ∙ q ∙ ap (λ (x : List ℕ). record { answer = accepted (length x); state = (run_layers p r.third).state }) f in
      let goal : reaches_goal p steps ≡ true =
      sym (Accepting.run_accepts p steps) ∙ is_accepted_lem (run p steps).answer (length steps) (ap (λ (x : Run). x.answer) ran) in
      let (a, b, d) = Demands.sound L few lendable handed question site c labels p is_filed is_problem steps goal in (
        i ∙ m,
        Demands.checking L few lendable handed question site c labels p is_filed is_problem (as_numbers steps) steps u state room
            ∙ ap₂ (λ (x : Result ℕ) (y : List ℕ). record { answer = x; state = y }) (ap (λ (x : Run). x.answer) ran)
            (ap (λ (x : Run). written (state_words p x.state) state) ran ∙ sym leaves),
        (u, refl, goal, a, b, d),
      )

  -- Every accepted layered plan has at least the window's lower number of layers.
  pub low_layers : (steps ends state : List ℕ) (n : ℕ) → (check_layers L question site steps ends state).answer ≡ accepted n → (case_window p).lower ≤ n
  low_layers steps ends state n e =
      let (r, t) = Layering.layers_tell L question site steps ends state n e in
      low r.third n (layers_told steps ends state n r t).2
    where
      low : (layers : List (List ℕ)) (n : ℕ) → (run_layers p layers).answer ≡ accepted n → (case_window p).lower ≤ n
      low = rw same_problem (Layering.run_low (problem_of c) (good c A))

  -- With an `every` line all three are 23, once the third input is taken, and leave every buffer as it was.
  pub layers_every : (k : Relation) → c.question.every ≡ some k
      → (window_of L question site ≡ refused 23 0)
      × ((steps ends : List ℕ) (layers : List (List ℕ)) → take_layers steps ends ≡ accepted layers → (state : List ℕ)
      → check_layers L question site steps ends state ≡ record { answer = refused 23 0; state = state })
      × ((given : ThirdInput) (picks : List Tuple) → text_picks c labels given ≡ accepted picks → (state steps ends : List ℕ)
      → build_layers L question site given state steps ends ≡ record { answer = refused 23 0; state = state; steps = steps; ends = ends })
  unfolding window_of check_layers layers_checked_from build_layers layered_plan layers_built_from asked nothing ◌>>=◌
  layers_every k e = (
    rw (is_filed, grounds, Asked.every_fails c k e) refl,
    (λ steps ends layers t state. rw (is_filed, t, grounds, Asked.every_fails c k e) refl),
    (λ given picks t state steps ends. rw (is_filed, t, grounds, Asked.every_fails c k e) refl),
  )

  -- So whatever one of them accepts has none.
  pub layers_plain : ((w : Window) → window_of L question site ≡ accepted w → c.question.every ≡ none)
      × ((steps ends state : List ℕ) (n : ℕ) → (check_layers L question site steps ends state).answer ≡ accepted n → c.question.every ≡ none)
      × ((given : ThirdInput) (state steps ends : List ℕ) (n : ℕ) → (build_layers L question site given state steps ends).answer ≡ accepted n
      → c.question.every ≡ none)
  layers_plain = (
    (λ w e. Layering.window_plain L question site w e c is_case),
    (λ steps ends state n e. Layering.check_plain L question site steps ends state n e c is_case),
    (λ given state steps ends n e. Layering.build_plain L question site given state steps ends n e c is_case),
  )

  -- The built layers, in numbers: where there is no `every` line, of picks of the declared kinds of which the rule is true they are accepted,
  -- leave the state that the built steps leave, and are at most the window's upper number.
  abbrev built : List Tuple → List (List ℕ)
  built picks = map (map (action_number p)) (built_layers p picks)

  layers_fine : c.question.every ≡ none → (picks : List Tuple) → are_picks c picks ≡ true → are_of_kinds c picks ≡ true → rule_is_true c picks ≡ true
      → (run_layers p (built picks) ≡ record { answer = accepted (length (built picks)); state = (run p (built_steps p picks)).state })
      × (length (built picks) ≤ (case_window p).upper)
  layers_fine plain = rw same_problem (Layering.layers_case c A plain)

  pub built_layers_lem : c.question.every ≡ none → (picks : List Tuple) → are_picks c picks ≡ true → are_of_kinds c picks ≡ true → rule_is_true c picks ≡ true
      → run_layers p (built picks) ≡ record { answer = accepted (length (built picks)); state = (run p (built_steps p picks)).state }
  built_layers_lem plain picks a k r = (layers_fine plain picks a k r).0

  pub built_within : c.question.every ≡ none → (picks : List Tuple) → are_picks c picks ≡ true → are_of_kinds c picks ≡ true → rule_is_true c picks ≡ true
      → length (built picks) ≤ (case_window p).upper
  built_within plain picks a k r = (layers_fine plain picks a k r).1

  -- Their steps are the built steps in another order: every number stands among them as often.
  pub same_steps : (picks : List Tuple) (k : ℕ) → length (filter (eqb k) (Layers.flat (built picks))) ≡ length (filter (eqb k) (built_steps p picks))
  same_steps picks k = Layered.numbers_same p picks (eqb k)

  -- Written as steps and ends, they are taken back as they were and accepted.
  pub built_checked : c.question.every ≡ none → (picks : List Tuple) → are_picks c picks ≡ true → are_of_kinds c picks ≡ true → rule_is_true c picks ≡ true
      → (state : List ℕ) → state_length p ≤ length state
      → (take_layers (Layers.flat (built picks)) (ends_from 0 (built picks)) ≡ accepted (built picks))
      × ((check_layers L question site (Layers.flat (built picks)) (ends_from 0 (built picks)) state).answer ≡ accepted (length (built picks)))
  built_checked plain picks a k r state h =
      let n = Layered.numbers_length p picks in
      let t =
      Layering.layers_back (built picks) (omega (arith, Demands.built_few L few lendable handed question site c labels p is_filed is_problem picks a k)) in (
        t,
        ap (λ (x : Checked). x.answer) (checking_layers plain (Layers.flat (built picks)) (ends_from 0 (built picks)) (built picks) t state h)
            ∙ ap (λ (x : Run). x.answer) (built_layers_lem plain picks a k r),
      )

  -- Building layers without an `every` line, with room for the window's upper number of ends: it answers as building steps does, but for the
  -- count, and writes the built layers, or leaves all three buffers as they were.
  module _ (plain : c.question.every ≡ none) (given : ThirdInput) (state steps ends : List ℕ) (enough : (case_window p).upper ≤ length ends) where
    abbrev in_layers : Plan → LayeredPlan
    in_layers b = record { problem = b.problem; picks = b.picks; layers = map (map (action_number b.problem)) (built_layers b.problem b.picks) }

    as_plan : layered_plan L question site given (length state) (length steps) (length ends)
        ≡ (plan L question site given (length state) (length steps) >>= λ b. accepted (in_layers b))
    as_plan =
        LayerPlans.layered_plan_lem L question site given (length state) (length steps) (length ends)
        (λ x e. subst (λ (y : Case). y.question.every ≡ none) (accepted_eq c x (sym is_case ∙ e)) plain)
        (λ q e. subst (λ (x : Problem). (case_window x).upper ≤ length ends) (accepted_eq p q (sym is_problem ∙ e)) enough)

    pub layers_exactly : (k place : ℕ) → (build_steps L question site given state steps).answer ≡ refused k place
        → build_layers L question site given state steps ends ≡ record { answer = refused k place; state = state; steps = steps; ends = ends }
    unfolding build_steps build_layers built_from layers_built_from ◌>>=◌
    layers_exactly k place e =
        ap (λ (x : Result LayeredPlan). layers_built_from x state steps ends) as_plan ∙ by_result (plan L question site given (length state) (length steps)) e
      where
        by_result : (m : Result Plan) → (built_from m state steps).answer ≡ refused k place
            → layers_built_from (m >>= λ b. accepted (in_layers b)) state steps ends
            ≡ record { answer = refused k place; state = state; steps = steps; ends = ends }
        by_result (refused j at) e = ap (λ (x : Result ℕ). record { answer = x; state = state; steps = steps; ends = ends }) e
        by_result (accepted b) e = absurd (refused_accepted (sym e))

    pub building_layers : (picks : List Tuple) → taken given ≡ accepted picks → state_length p ≤ length state → bound p ≤ length steps
        → are_of_kinds c picks ≡ true → rule_is_true c picks ≡ true
        → build_layers L question site given state steps ends ≡ record {
          answer = accepted (length (built picks));
          state = written (state_words p (run p (built_steps p picks)).state) state;
          steps = written (Layers.flat (built picks)) steps;
          ends = written (ends_from 0 (built picks)) ends;
        }
    unfolding build_layers layers_built_from kind_refusal refuse_if ◌>>=◌
    building_layers picks t room space k r =
        let e =
        as_plan ∙ ap (λ (x : Result Plan). x >>= λ b. accepted (in_layers b))
        (Demands.plans L few lendable handed question site c labels p is_filed is_problem given picks t state steps room space) in
        let q = built_layers_lem plain picks (Demands.taken_picks L few lendable handed question site c labels p is_filed is_problem given picks t) k r in
        ap (λ (x : Result LayeredPlan). layers_built_from x state steps ends) (e ∙ planned picks k r)
        ∙ ap (λ (x : Run). record {
          answer = accepted (length (built picks));
          state = written (state_words p x.state) state;
          steps = written (Layers.flat (built picks)) steps;
          ends = written (ends_from 0 (built picks)) ends;
        }) q
      where
        planned : (picks : List Tuple) → are_of_kinds c picks ≡ true → rule_is_true c picks ≡ true
            → ((kind_refusal (first_of_other_kind c picks) >>= λ _. refuse_if (not (rule_is_true c picks)) 17 zero >>= λ _. accepted
            (record { labels = labels; problem = p; picks = picks; steps = built_steps p picks })) >>= λ (b : Plan). accepted (in_layers b))
            ≡ accepted (record { problem = p; picks = picks; layers = built picks })
        planned picks k r = rw (Building.kinds_hold c picks k, r) refl

-- Whatever is handed over:
module _ (L : CaseLimits) (question site : List ℕ) where
  -- The window call; checking layers, where a refusal before the layers run leaves the state's buffer as it was; building layers, where
  -- every refusal leaves all three.
  pub window_refuse : (k place : ℕ) → window_of L question site ≡ refused k place → is_in k case_numbers ≡ true
  window_refuse k place e = Refusals.window_refuse L question site k place e

  pub layers_check_refuse : (steps ends state : List ℕ) (k place : ℕ) → (check_layers L question site steps ends state).answer ≡ refused k place
      → (is_in k (ready_numbers ++ run_numbers) ≡ true) × (is_in k ready_numbers ≡ true → (check_layers L question site steps ends state).state ≡ state)
  layers_check_refuse steps ends state k place e =
      (Refusals.layers_check_refuse L question site steps ends state k place e, Layering.layers_check_leaves L question site steps ends state k place e)

  pub layers_check_length : (steps ends state : List ℕ) → length (check_layers L question site steps ends state).state ≡ length state
  layers_check_length steps ends state = Layering.layers_check_length L question site steps ends state

  pub layers_build_refuse : (picks : ThirdInput) (state steps ends : List ℕ) (k place : ℕ)
      → (build_layers L question site picks state steps ends).answer ≡ refused k place
      → (is_in k (ready_numbers ++ picks_numbers) ≡ true) × ((build_layers L question site picks state steps ends).state ≡ state)
      × ((build_layers L question site picks state steps ends).steps ≡ steps) × ((build_layers L question site picks state steps ends).ends ≡ ends)
  layers_build_refuse picks state steps ends k place e =
      let (f, g, h) = Layering.layers_build_leaves L question site picks state steps ends k place e in
      (Refusals.layers_build_refuse L question site picks state steps ends k place e, f, g, h)

  pub layers_build_length : L.elements ≤ 64 → (picks : ThirdInput) (state steps ends : List ℕ)
      → (length (build_layers L question site picks state steps ends).state ≡ length state)
      × (length (build_layers L question site picks state steps ends).steps ≡ length steps)
      × (length (build_layers L question site picks state steps ends).ends ≡ length ends)
  layers_build_length few picks state steps ends = Layering.layers_build_length L question site picks state steps ends few
