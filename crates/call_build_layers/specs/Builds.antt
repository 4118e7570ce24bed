-- What the calls that build layers answer and leave: one law for each place where a call can end.
use Rattle.std.specs.Prelude.{ℕ, zero, ◌+◌, ◌/◌, ◌≤◌, ◌<◌, ◌≡◌, List, take, Ok, Err, Some, None}
use Rattle.std.specs.Prelude as P
use Rattle.std.proofs.Math.Path.{refl, sym, ap}
use Rattle.std.proofs.Common.{subst, ◌∙◌, arith, take_all}
use Rattle.std.proofs.Math.Option.{none}
use Rattle.std.proofs.Math.ListN.{length}
use Rattle.definitions.specs.Limits.{CaseLimits}
use Rattle.definitions.specs.Refusal.{Result, refused, accepted, ◌>>=◌}
use Rattle.definitions.specs.Sheet.Relations.{Tuple}
use Rattle.definitions.specs.Problem.Truth.{Case}
use Rattle.definitions.specs.Problem.Atoms.{Problem, problem_of}
use Rattle.definitions.specs.Problem.Actions.{actions}
use Rattle.definitions.specs.Problem.Built.{chosen_numbers, bound}
use Rattle.definitions.specs.Reply.Outcome
use Rattle.definitions.specs.Reply.Layers as Side
use Rattle.laws.specs.Asked as Order
use Rattle.bits.specs.Table.{Words}
use Rattle.problem_of_case.specs.Grounds.{Tabled}
use Rattle.step_build.specs.Starts.{Prepared, front_short}
use Rattle.meaning.specs.Layered.{built_numbers}
use Rattle.step_picks.specs.Picked.{front_picks}
use Rattle.step_picks.specs.Tests.{told}
use Rattle.step_picks.specs.Handed.{Handed, spare_refused, spare_clear}
use Rattle.refusal.specs.declared.Refusal.{Refusal}
use Rattle.refusal.specs.declared.Cause.TheVariants.{Repeated, ShortBuffer, HasEvery}
use Rattle.refusal.specs.Numbers.{number_of}
use Rattle.problem_of_case.specs.declared.Sized.{Sized}
use Rattle.open_case.specs.declared.Front.{Front}
use Rattle.open_case.specs.Fronts.{Held, Filed}
use Rattle.open_case.specs.Known.{every_none, every_some, facts_held, case_over, grounds, tabled, actions_few, tuples_few, words_are, room_short, room_there}
use Rattle.open_case.specs.Replies.{Reply, result_of}
use Rattle.call_build_layers.specs.Layers.{layered, GivesLayers}
use Rattle.call_build_layers.specs.Upper.{upper_few}

-- the answer of a call, and what the lent state, steps and ends hold then
abbrev pub Answers : CaseLimits → (question site : List ℕ) (picks : Outcome.ThirdInput) (state steps ends : List ℕ) → Reply → (state' steps' ends' : List ℕ) → Type 0
Answers L question site picks state steps ends r state' steps' ends' =
    (result_of r ≡ (Side.build_layers L question site picks state steps ends).answer)
    × ((state' ≡ (Side.build_layers L question site picks state steps ends).state)
    × ((steps' ≡ (Side.build_layers L question site picks state steps ends).steps) × (ends' ≡ (Side.build_layers L question site picks state steps ends).ends)))

-- 12: lent picks, the state, the steps, the ends
unfoldable pub rooms : Outcome.ThirdInput → ℕ → ℕ → ℕ → Problem → Result (Unit {0})
rooms picks state steps ends p =
    Outcome.picks_room p picks >>= λ _. Outcome.room_for (Outcome.state_length p) state >>= λ _. Outcome.room_for (bound p) steps >>= λ _. Outcome.room_for (Side.case_window p).upper ends

module _ (L : CaseLimits) (question site : List ℕ) (picks : Outcome.ThirdInput) (state steps ends : List ℕ) where
  abbrev opening : Result (Outcome.Ready (List Tuple))
  opening =
      Outcome.asked L question site (λ x. Outcome.text_picks x.case x.labels picks) Outcome.nothing Outcome.without_every (rooms picks (length state) (length steps) (length ends))

  abbrev its_plan : Result Side.LayeredPlan
  its_plan = Side.layered_plan L question site picks (length state) (length steps) (length ends)

  from_plan : (x : Result Side.LayeredPlan) → its_plan ≡ x → (r : Reply) (state' steps' ends' : List ℕ)
      → Side.layers_built_from x state steps ends ≡ record { answer = result_of r; state = state'; steps = steps'; ends = ends' }
      → Answers L question site picks state steps ends r state' steps' ends'
  unfolding Side.build_layers
  from_plan x e r state' steps' ends' b =
      let q : Side.layers_built_from its_plan state steps ends ≡ record { answer = result_of r; state = state'; steps = steps'; ends = ends' }
      = ap (λ (y : Result Side.LayeredPlan). Side.layers_built_from y state steps ends) e ∙ b in (
        sym (ap (λ (y : Side.LayersBuilt). y.answer) q),
        (
          sym (ap (λ (y : Side.LayersBuilt). y.state) q),
          (sym (ap (λ (y : Side.LayersBuilt). y.steps) q), sym (ap (λ (y : Side.LayersBuilt). y.ends) q)),
        ),
      )

  plan_refused : (e : Refusal) → its_plan ≡ refused (number_of e.cause) e.place → Answers L question site picks state steps ends (Err e) state steps ends
  unfolding Side.layers_built_from
  plan_refused e h = from_plan (refused (number_of e.cause) e.place) h (Err e) state steps ends refl

  -- refused before the picks are taken
  pub stops : (e : Refusal) → opening ≡ refused (number_of e.cause) e.place → Answers L question site picks state steps ends (Err e) state steps ends
  unfolding Side.layered_plan rooms ◌>>=◌
  stops e h = plan_refused e (rw h refl)

  -- ---- the places where building from words can end
  module _ (x : Outcome.CaseRead) (read : Outcome.read_filed L question site ≡ accepted x) (f : Front) (facts table : List ℕ) (h : Held L question x.case f facts table)
      (words : List ℕ) (given F : List Tuple) (handed : Handed x.case x.labels picks words given F) where
    abbrev c : Case
    c = x.case

    abbrev p : Problem
    p = problem_of c

    pub builds_over : (e : Refusal) → f.m ≡ Err e → Answers L question site picks state steps ends (Err e) state steps ends
    builds_over e o =
        stops e (Order.limits_refused L question site _ _ Outcome.without_every _ x read given handed.is_read (Order.untested c) _ _ (case_over L c f.m table h.grounded e o))

    module _ (m : Sized) (o : f.m ≡ Ok m) where
      abbrev its : Tabled p m table
      its = tabled L c f.m table h.grounded m o

      abbrev count : (m.atoms + 63) / 64 ≡ Outcome.state_length p
      count = words_are L c f.m table h.grounded m o

      pub builds_every : (f.o.sig.every ≡ 0 → ⊥) → Answers L question site picks state steps ends (Err (record { cause = HasEvery; place = 0 })) state steps ends
      builds_every n =
          let (k, q) = every_some question c _ _ h.holds n in
          stops (record { cause = HasEvery; place = 0 })
          (Order.late_refused L question site _ _ Outcome.without_every _ x read given handed.is_read (Order.untested c) p (grounds L c f.m table h.grounded m o) 23 0 (Order.every_fails c k q))

      module _ (z : f.o.sig.every ≡ 0) where
        alone : c.question.every ≡ none
        alone = every_none question c _ _ h.holds z

        no_room : (k place : ℕ) → rooms picks (length state) (length steps) (length ends) p ≡ refused k place → opening ≡ refused k place
        no_room = Order.room_refused L question site _ _ Outcome.without_every _ x read given handed.is_read (Order.untested c) p (grounds L c f.m table h.grounded m o) (Order.every_passes c alone)

        module _ (k : ℕ) (q : k ≡ Outcome.picks_length p) where
          pub builds_picks : length words < k → Answers L question site picks state steps ends (Err (record { cause = ShortBuffer; place = k })) state steps ends
          unfolding rooms ◌>>=◌
          builds_picks l =
              let b = room_short (Outcome.picks_length p) (length words) (subst (λ (x : ℕ). length words < x) q l) in
              stops (record { cause = ShortBuffer; place = k }) (no_room 12 (Outcome.picks_length p) (rw (handed.room_is, b) refl) ∙ ap (refused 12) (sym q))

          module _ (picks_room_lem : k ≤ length words) where
            first_room : Outcome.picks_room p picks ≡ accepted tt
            first_room = handed.room_is ∙ room_there (Outcome.picks_length p) (length words) (subst (λ (x : ℕ). x ≤ length words) q picks_room_lem)

            pub builds_state : length state < (m.atoms + 63) / 64 → Answers L question site picks state steps ends (Err (record { cause = ShortBuffer; place = (m.atoms + 63) / 64 })) state steps ends
            unfolding rooms ◌>>=◌
            builds_state l =
                let b = room_short (Outcome.state_length p) (length state) (subst (λ (x : ℕ). length state < x) count l) in
                stops (record { cause = ShortBuffer; place = (m.atoms + 63) / 64 }) (no_room 12 (Outcome.state_length p) (rw (first_room, b) refl) ∙ ap (refused 12) (sym count))

            module _ (state_room : (m.atoms + 63) / 64 ≤ length state) where
              second_room : Outcome.room_for (Outcome.state_length p) (length state) ≡ accepted tt
              second_room = room_there (Outcome.state_length p) (length state) (subst (λ (x : ℕ). x ≤ length state) count state_room)

              pub builds_steps : length steps < m.bound → Answers L question site picks state steps ends (Err (record { cause = ShortBuffer; place = m.bound })) state steps ends
              unfolding rooms ◌>>=◌
              builds_steps l =
                  let b = room_short (bound p) (length steps) (subst (λ (x : ℕ). length steps < x) its.bound_is l) in
                  stops (record { cause = ShortBuffer; place = m.bound }) (no_room 12 (bound p) (rw (first_room, second_room, b) refl) ∙ ap (refused 12) (sym its.bound_is))

              module _ (steps_room : m.bound ≤ length steps) (upper : ℕ) (most : upper ≡ (Side.case_window p).upper) where
                third_room : Outcome.room_for (bound p) (length steps) ≡ accepted tt
                third_room = room_there (bound p) (length steps) (subst (λ (x : ℕ). x ≤ length steps) its.bound_is steps_room)

                pub builds_ends : length ends < upper → Answers L question site picks state steps ends (Err (record { cause = ShortBuffer; place = upper })) state steps ends
                unfolding rooms ◌>>=◌
                builds_ends l =
                    let b = room_short (Side.case_window p).upper (length ends) (subst (λ (x : ℕ). length ends < x) most l) in
                    stops (record { cause = ShortBuffer; place = upper }) (no_room 12 (Side.case_window p).upper (rw (first_room, second_room, third_room, b) refl) ∙ ap (refused 12) (sym most))

                module _ (ends-room : upper ≤ length ends) (s : P.Option ℕ) (t : told s ≡ Outcome.spare_word p words zero (chosen_numbers p)) where
                  opened : opening ≡ accepted (record { case = c; labels = x.labels; problem = p; third = given })
                  unfolding rooms ◌>>=◌
                  opened =
                      let b = room_there (Side.case_window p).upper (length ends) (subst (λ (x : ℕ). x ≤ length ends) most ends-room) in
                      Order.ready L question site _ _ Outcome.without_every _ x read given handed.is_read (Order.untested c) p (grounds L c f.m table h.grounded m o)
                      (Order.every_passes c alone) (rw (first_room, second_room, third_room, b) refl)

                  planned_then : its_plan ≡ (Outcome.satisfying c p picks given >>= λ G. accepted (record { problem = p; picks = G; layers = built_numbers p G }))
                  unfolding Side.layered_plan rooms ◌>>=◌
                  planned_then = rw opened refl

                  pub builds_spare : (j : ℕ) → s ≡ Some j → Answers L question site picks state steps ends (Err (record { cause = Repeated; place = j })) state steps ends
                  unfolding told ◌>>=◌
                  builds_spare j e = plan_refused (record { cause = Repeated; place = j }) (planned_then ∙ rw (spare_refused c x.labels picks words given F handed j (sym t ∙ ap told e)) refl)

                  module _ (e : s ≡ None) where
                    clear : Outcome.spare_word p words zero (chosen_numbers p) ≡ none
                    unfolding told
                    clear = sym t ∙ ap told e

                    -- what building from the initial state on is handed
                    prepared : L.actions ≤ 4194304 → Prepared c F table facts (take k words) m.atoms (length steps)
                    prepared few =
                        let (a, front) = handed.held (subst (λ (x : ℕ). x ≤ length words) q picks_room_lem) clear in
                        record {
                          case = h.accepts;
                          picks = a;
                          is = its.is;
                          facts_in = facts_held question c f.o facts h.holds;
                          picked = front_picks p F (take k words) (ap (λ (x : ℕ). take x (take k words)) (sym q) ∙ take_all k (take k words) (front_short k k words (omega arith)) ∙ ap (λ (x : ℕ). take x words) q ∙ front);
                          atoms_are = its.atoms_are;
                          few = omega (arith, actions_few L c f.m table h.grounded m o, few);
                          few_tuples = tuples_few L c f.m table h.grounded m o;
                          steps_room = subst (λ (x : ℕ). x ≤ length steps) its.bound_is steps_room;
                        }

                    pub builds_built : L.actions ≤ 4194304 → (r : Reply) (state' steps' ends' : List ℕ)
                        → (Prepared c F table facts (take k words) m.atoms (length steps) → c.question.every ≡ none → actions p ≤ 4194304 → (Side.case_window p).upper < 1024 → (Side.case_window p).upper ≤ length ends
                        → GivesLayers c p F state steps ends r state' steps' ends')
                        → Answers L question site picks state steps ends r state' steps' ends'
                    unfolding layered
                    builds_built few r state' steps' ends' G =
                        from_plan (layered c p F) (planned_then ∙ rw (spare_clear c x.labels picks words given F handed clear) refl) r state' steps' ends'
                        (G (prepared few) alone (omega (arith, actions_few L c f.m table h.grounded m o, few)) (upper_few c h.accepts) (subst (λ (x : ℕ). x ≤ length ends) most ends-room))

-- what is promised of building from words: they have 64 bits each, and whatever case and picks they are of, this is built
pub record FromWords (f : Front) (upper : ℕ) (facts table words state steps ends : List ℕ) (r : Reply) (state' steps' ends' : List ℕ) : Type 0 where
  pub fit : Words words
  pub builds : (L : CaseLimits) → L.actions ≤ 4194304 → (question site : List ℕ) (picks : Outcome.ThirdInput) (x : Outcome.CaseRead) → Outcome.read_filed L question site ≡ accepted x
      → Held L question x.case f facts table → upper ≡ (Side.case_window (problem_of x.case)).upper
      → (given F : List Tuple) → Handed x.case x.labels picks words given F → Answers L question site picks state steps ends r state' steps' ends'

-- and from a text, by the labels that were filed
abbrev pub FromText : (question site : List ℕ) → Front → (labels facts table text state steps ends : List ℕ) → Reply → (state' steps' ends' : List ℕ) → Type 0
FromText question site f labels facts table text state steps ends r state' steps' ends' =
    (L : CaseLimits) → Filed L question site (Ok f) labels facts table → L.actions ≤ 4194304 → Answers L question site (Outcome.as_text text) state steps ends r state' steps' ends'
