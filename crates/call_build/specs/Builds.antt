-- What the calls that build steps answer and leave: one law for each place where a call can end.
use Rattle.std.specs.Prelude.{ℕ, zero, ◌+◌, ◌/◌, ◌^◌, ◌≤◌, ◌<◌, ◌≡◌, List, take, Ok, Err, Some, None}
use Rattle.std.specs.Prelude as P
use Rattle.std.proofs.Math.Path.{refl, sym, ap}
use Rattle.std.proofs.Common.{subst, ◌∙◌, arith, take_all}
use Rattle.std.proofs.Math.Option.{none}
use Rattle.std.proofs.Math.ListN.{length}
use Rattle.definitions.specs.Limits.{CaseLimits}
use Rattle.definitions.specs.Refusal.{Result, refused, accepted, ◌>>=◌}
use Rattle.definitions.specs.Sheet.Relations.{Tuple}
use Rattle.definitions.specs.Problem.Truth.{Case}
use Rattle.definitions.specs.Problem.Atoms.{Problem, problem_of}
use Rattle.definitions.specs.Problem.Built.{chosen_numbers, built_steps, bound}
use Rattle.definitions.specs.Reply.Outcome
use Rattle.laws.specs.Asked as Order
use Rattle.bits.specs.Table.{Words}
use Rattle.problem_of_case.specs.Grounds.{Tabled}
use Rattle.step_build.specs.Answers.{planned, Gives}
use Rattle.step_build.specs.Starts.{Prepared, front_short}
use Rattle.step_picks.specs.Picked.{front_picks}
use Rattle.step_picks.specs.Tests.{told}
use Rattle.step_picks.specs.Handed.{Handed, spare_refused, spare_clear}
use Rattle.refusal.specs.declared.Refusal.{Refusal}
use Rattle.refusal.specs.declared.Cause.TheVariants.{Repeated, ShortBuffer}
use Rattle.refusal.specs.Numbers.{number_of}
use Rattle.problem_of_case.specs.declared.Sized.{Sized}
use Rattle.open_case.specs.declared.Front.{Front}
use Rattle.open_case.specs.Fronts.{Held, Filed}
use Rattle.open_case.specs.Known.{facts_held, case_over, grounds, tabled, actions_few, tuples_few, words_are, room_short, room_there}
use Rattle.open_case.specs.Replies.{Reply, result_of}

-- the answer of a call, and what the lent state and steps hold then
abbrev pub Answers : CaseLimits → (question site : List ℕ) (picks : Outcome.ThirdInput) (state steps : List ℕ) → Reply → (state' steps' : List ℕ) → Type 0
Answers L question site picks state steps r state' steps' =
    (result_of r ≡ (Outcome.build_steps L question site picks state steps).answer)
    × ((state' ≡ (Outcome.build_steps L question site picks state steps).state) × (steps' ≡ (Outcome.build_steps L question site picks state steps).steps))

-- 12: lent picks, the state, the steps
unfoldable pub rooms : Outcome.ThirdInput → ℕ → ℕ → Problem → Result (Unit {0})
rooms picks state steps p = Outcome.picks_room p picks >>= λ _. Outcome.room_for (Outcome.state_length p) state >>= λ _. Outcome.room_for (bound p) steps

module _ (L : CaseLimits) (question site : List ℕ) (picks : Outcome.ThirdInput) (state steps : List ℕ) where
  abbrev opening : Result (Outcome.Ready (List Tuple))
  opening = Outcome.asked L question site (λ x. Outcome.text_picks x.case x.labels picks) Outcome.nothing Outcome.nothing (rooms picks (length state) (length steps))

  from_plan : (x : Result Outcome.Plan) → Outcome.plan L question site picks (length state) (length steps) ≡ x → (r : Reply) (state' steps' : List ℕ)
      → Outcome.built_from x state steps ≡ record { answer = result_of r; state = state'; steps = steps' } → Answers L question site picks state steps r state' steps'
  unfolding Outcome.build_steps
  from_plan x e r state' steps' b =
      let q : Outcome.built_from (Outcome.plan L question site picks (length state) (length steps)) state steps ≡ record { answer = result_of r; state = state'; steps = steps' } = ap (λ (y : Result Outcome.Plan). Outcome.built_from y state steps) e ∙ b in
      (sym (ap (λ (y : Outcome.StepsBuilt). y.answer) q), (sym (ap (λ (y : Outcome.StepsBuilt). y.state) q), sym (ap (λ (y : Outcome.StepsBuilt). y.steps) q)))

  plan_refused : (e : Refusal) → Outcome.plan L question site picks (length state) (length steps) ≡ refused (number_of e.cause) e.place → Answers L question site picks state steps (Err e) state steps
  unfolding Outcome.built_from
  plan_refused e h = from_plan (refused (number_of e.cause) e.place) h (Err e) state steps refl

  -- refused before the picks are taken
  pub ends : (e : Refusal) → opening ≡ refused (number_of e.cause) e.place → Answers L question site picks state steps (Err e) state steps
  unfolding Outcome.plan rooms ◌>>=◌
  ends e h = plan_refused e (rw h refl)

  -- ---- the places where building from words can end
  module _ (x : Outcome.CaseRead) (read : Outcome.read_filed L question site ≡ accepted x) (f : Front) (facts table : List ℕ) (h : Held L question x.case f facts table)
      (words : List ℕ) (given F : List Tuple) (handed : Handed x.case x.labels picks words given F) where
    abbrev c : Case
    c = x.case

    abbrev p : Problem
    p = problem_of c

    pub builds_over : (e : Refusal) → f.m ≡ Err e → Answers L question site picks state steps (Err e) state steps
    builds_over e o = ends e (Order.limits_refused L question site _ _ _ _ x read given handed.is_read (Order.untested c) _ _ (case_over L c f.m table h.grounded e o))

    module _ (m : Sized) (o : f.m ≡ Ok m) where
      abbrev its : Tabled p m table
      its = tabled L c f.m table h.grounded m o

      abbrev count : (m.atoms + 63) / 64 ≡ Outcome.state_length p
      count = words_are L c f.m table h.grounded m o

      no_room : (k place : ℕ) → rooms picks (length state) (length steps) p ≡ refused k place → opening ≡ refused k place
      no_room = Order.room_refused L question site _ _ _ _ x read given handed.is_read (Order.untested c) p (grounds L c f.m table h.grounded m o) (Order.untested c)

      module _ (k : ℕ) (q : k ≡ Outcome.picks_length p) where
        pub builds_picks : length words < k → Answers L question site picks state steps (Err (record { cause = ShortBuffer; place = k })) state steps
        unfolding rooms ◌>>=◌
        builds_picks l =
            let b = room_short (Outcome.picks_length p) (length words) (subst (λ (x : ℕ). length words < x) q l) in
            ends (record { cause = ShortBuffer; place = k }) (no_room 12 (Outcome.picks_length p) (rw (handed.room_is, b) refl) ∙ ap (refused 12) (sym q))

        module _ (picks_room_lem : k ≤ length words) where
          first_room : Outcome.picks_room p picks ≡ accepted tt
          first_room = handed.room_is ∙ room_there (Outcome.picks_length p) (length words) (subst (λ (x : ℕ). x ≤ length words) q picks_room_lem)

          pub builds_state : length state < (m.atoms + 63) / 64 → Answers L question site picks state steps (Err (record { cause = ShortBuffer; place = (m.atoms + 63) / 64 })) state steps
          unfolding rooms ◌>>=◌
          builds_state l =
              let b = room_short (Outcome.state_length p) (length state) (subst (λ (x : ℕ). length state < x) count l) in
              ends (record { cause = ShortBuffer; place = (m.atoms + 63) / 64 }) (no_room 12 (Outcome.state_length p) (rw (first_room, b) refl) ∙ ap (refused 12) (sym count))

          module _ (state_room : (m.atoms + 63) / 64 ≤ length state) where
            second_room : Outcome.room_for (Outcome.state_length p) (length state) ≡ accepted tt
            second_room = room_there (Outcome.state_length p) (length state) (subst (λ (x : ℕ). x ≤ length state) count state_room)

            pub builds_steps : length steps < m.bound → Answers L question site picks state steps (Err (record { cause = ShortBuffer; place = m.bound })) state steps
            unfolding rooms ◌>>=◌
            builds_steps l =
                let b = room_short (bound p) (length steps) (subst (λ (x : ℕ). length steps < x) its.bound_is l) in
                ends (record { cause = ShortBuffer; place = m.bound }) (no_room 12 (bound p) (rw (first_room, second_room, b) refl) ∙ ap (refused 12) (sym its.bound_is))

            module _ (steps_room : m.bound ≤ length steps) (s : P.Option ℕ) (t : told s ≡ Outcome.spare_word p words zero (chosen_numbers p)) where
              opened : opening ≡ accepted (record { case = c; labels = x.labels; problem = p; third = given })
              unfolding rooms ◌>>=◌
              opened =
                  let b = room_there (bound p) (length steps) (subst (λ (x : ℕ). x ≤ length steps) its.bound_is steps_room) in
                  Order.ready L question site _ _ _ _ x read given handed.is_read (Order.untested c) p (grounds L c f.m table h.grounded m o) (Order.untested c) (rw (first_room, second_room, b) refl)

              planned_then : Outcome.plan L question site picks (length state) (length steps) ≡ (Outcome.satisfying c p picks given >>= λ G. accepted (record { labels = x.labels; problem = p; picks = G; steps = built_steps p G }))
              unfolding Outcome.plan rooms ◌>>=◌
              planned_then = rw opened refl

              pub builds_spare : (j : ℕ) → s ≡ Some j → Answers L question site picks state steps (Err (record { cause = Repeated; place = j })) state steps
              unfolding told ◌>>=◌
              builds_spare j e = plan_refused (record { cause = Repeated; place = j }) (planned_then ∙ rw (spare_refused c x.labels picks words given F handed j (sym t ∙ ap told e)) refl)

              module _ (e : s ≡ None) where
                clear : Outcome.spare_word p words zero (chosen_numbers p) ≡ none
                unfolding told
                clear = sym t ∙ ap told e

                -- what building from the initial state on is handed
                prepared : L.actions ≤ 2 ^ 32 → Prepared c F table facts (take k words) m.atoms (length steps)
                prepared few =
                    let (a, front) = handed.held (subst (λ (x : ℕ). x ≤ length words) q picks_room_lem) clear in
                    record {
                      case = h.accepts;
                      picks = a;
                      is = its.is;
                      facts_in = facts_held question c f.o facts h.holds;
                      picked = front_picks p F (take k words) (ap (λ (x : ℕ). take x (take k words)) (sym q) ∙ take_all k (take k words) (front_short k k words (omega arith)) ∙ ap (λ (x : ℕ). take x words) q ∙ front);
                      atoms_are = its.atoms_are;
                      few = omega (arith, actions_few L c f.m table h.grounded m o, few);
                      few_tuples = tuples_few L c f.m table h.grounded m o;
                      steps_room = subst (λ (x : ℕ). x ≤ length steps) its.bound_is steps_room;
                    }

                pub builds_built : L.actions ≤ 2 ^ 32 → (r : Reply) (state' steps' : List ℕ) → (Prepared c F table facts (take k words) m.atoms (length steps) → Gives c p F state steps r state' steps')
                    → Answers L question site picks state steps r state' steps'
                unfolding planned
                builds_built few r state' steps' G =
                    from_plan (planned x.labels c p F) (planned_then ∙ rw (spare_clear c x.labels picks words given F handed clear) refl) r state' steps' (G (prepared few) x.labels)

-- what is promised of building from words: they have 64 bits each, and whatever case and picks they are of, this is built
pub record FromWords (f : Front) (facts table words state steps : List ℕ) (r : Reply) (state' steps' : List ℕ) : Type 0 where
  pub fit : Words words
  pub builds : (L : CaseLimits) → L.actions ≤ 2 ^ 32 → (question site : List ℕ) (picks : Outcome.ThirdInput) (x : Outcome.CaseRead) → Outcome.read_filed L question site ≡ accepted x → Held L question x.case f facts table
      → (given F : List Tuple) → Handed x.case x.labels picks words given F → Answers L question site picks state steps r state' steps'

-- and from a text, by the labels that were filed
abbrev pub FromText : (question site : List ℕ) → Front → (labels facts table text state steps : List ℕ) → Reply → (state' steps' : List ℕ) → Type 0
FromText question site f labels facts table text state steps r state' steps' =
    (L : CaseLimits) → Filed L question site (Ok f) labels facts table → L.actions ≤ 2 ^ 32 → Answers L question site (Outcome.as_text text) state steps r state' steps'
