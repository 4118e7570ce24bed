-- What reading picks from steps answers and leaves: of a problem, and of the texts.
use Rattle.std.specs.Prelude.{ℕ, ◌+◌, ◌/◌, ◌≤◌, ◌<◌, ◌≡◌, Ok, Err}
use Rattle.std.proofs.Math.Path.{refl, sym, ap₂}
use Rattle.std.proofs.Common.{ap, subst, ◌∙◌}
use mathlib.Core.List.{List, ◌++◌}
use Rattle.std.proofs.Math.ListN.{length, drop}
use Rattle.definitions.specs.Limits.{CaseLimits}
use Rattle.definitions.specs.Refusal.{Result, refused, accepted, ◌>>=◌}
use Rattle.definitions.specs.Problem.Atoms.{Problem, problem_of, atoms, state_words}
use Rattle.definitions.specs.Problem.Strips.{run, picks_of}
use Rattle.definitions.specs.Reply.Outcome
use Rattle.laws.specs.Asked as Order
use Rattle.laws.specs.Alone
use Rattle.laws.specs.Words.{state_length_lem}
use Rattle.meaning.specs.Means.{Good}
use Rattle.meaning.specs.Grounded.{good}
use Rattle.problem_table.specs.Of.{Is}
use Rattle.step_start.specs.Rows.{atoms_in}
use Rattle.step_start.specs.Initial.{FactsIn}
use Rattle.step_run.specs.declared.End.{End}
use Rattle.step_run.specs.Ended.{ended}
use Rattle.step_run.specs.Checks.{Runs}
use Rattle.open_case.specs.declared.Front.{Front}
use Rattle.refusal.specs.declared.Refusal.{Refusal}
use Rattle.refusal.specs.declared.Cause.TheVariants.{ShortBuffer}
use Rattle.refusal.specs.Numbers.{number_of}
use Rattle.problem_of_case.specs.declared.Sized.{Sized}
use Rattle.open_case.specs.Fronts.{Fronted}
use Rattle.open_case.specs.Known.{facts_held, case_over, grounds, tabled, words_are, room_short, room_there}
use Rattle.open_case.specs.Replies.{Reply, result_of}
use Rattle.step_picks.specs.Copies.{Copied}
use Rattle.step_picks.specs.CopyLaws.{copied_done}

-- ---- of a problem: the steps are run, and the picks are written if the answer is no refusal
pub record Read (p : Problem) (steps picks : List ℕ) (r : Reply) (newPicks newState : List ℕ) : Type 0 where
  pub answer : result_of r ≡ (run p steps).answer
  pub picks_are : newPicks ≡ Outcome.picks_if_accepted (run p steps).answer (Outcome.pick_words p (picks_of p steps)) picks
  pub state_is : newState ≡ state_words p (run p steps).state

-- of every problem whose table, facts and state's length these are
unfoldable pub ReadBy : (w f steps picks state : List ℕ) → Reply → List ℕ → List ℕ → Type 0
ReadBy w f steps picks state r newPicks newState = (p : Problem) → Is p w → atoms_in w ≡ atoms p → FactsIn p f → Good p → length state ≡ Outcome.state_length p
    → Read p steps picks r newPicks newState

module _ (w f steps picks state newState : List ℕ) (e : End) (runs : Runs w f steps state e newState) where
  pub read_done : (i : ℕ) (newPicks : List ℕ) → ended e ≡ accepted i → Copied w newState picks newPicks → ReadBy w f steps picks state (Ok i) newPicks newState
  unfolding ReadBy Runs ended Outcome.picks_if_accepted
  read_done i newPicks q copy p is ends F G l =
      let ran = runs p is ends F l in
      let a : accepted i ≡ (run p steps).answer = sym q ∙ ran.answer in
      record {
        answer = a;
        picks_are = rw (sym a) (copied_done w newState picks newPicks steps i p copy is G a ran.state);
        state_is = ran.state;
      }

  pub read_refused : (x : Refusal) → ended e ≡ refused (number_of x.cause) x.place → ReadBy w f steps picks state (Err x) picks newState
  unfolding ReadBy Runs Outcome.picks_if_accepted
  read_refused x q p is ends F G l =
      let ran = runs p is ends F l in
      let a : refused (number_of x.cause) x.place ≡ (run p steps).answer = sym q ∙ ran.answer in
      record { answer = a; picks_are = rw (sym a) refl; state_is = ran.state }

-- ---- of the texts

-- 12 for the picks, 12 for the state
unfoldable pub rooms : ℕ → ℕ → Problem → Result (Unit {0})
rooms picks state p = Outcome.room_for (Outcome.picks_length p) picks >>= λ _. Outcome.room_for (Outcome.state_length p) state

abbrev pub PicksRead : CaseLimits → (question site : List ℕ) (given : Outcome.ThirdInput) (picks state : List ℕ) → Reply → List ℕ → List ℕ → Type 0
PicksRead L question site given picks state r newPicks newState =
    (result_of r ≡ (Outcome.picks_from_steps L question site given picks state).answer)
    × ((newPicks ≡ (Outcome.picks_from_steps L question site given picks state).picks)
    × (newState ≡ (Outcome.picks_from_steps L question site given picks state).state))

-- what is answered to steps that are handed over, whatever texts were opened
abbrev pub ReadsGiven : (f : Front) (facts table : List ℕ) (given : Outcome.ThirdInput) (picks state : List ℕ) → Reply → List ℕ → List ℕ → Type 0
ReadsGiven f facts table given picks state r newPicks newState =
    ((L : CaseLimits) (question site : List ℕ) → Fronted L question site (Ok f) facts table → PicksRead L question site given picks state r newPicks newState)

-- the same to steps that were taken
abbrev pub Reads : (f : Front) (facts table steps picks state : List ℕ) → Reply → List ℕ → List ℕ → Type 0
Reads f facts table steps picks state r newPicks newState =
    ((given : Outcome.ThirdInput) → Outcome.take_steps given ≡ accepted steps → ReadsGiven f facts table given picks state r newPicks newState)

module _ (given : Outcome.ThirdInput) (picks state : List ℕ) (L : CaseLimits) (question site : List ℕ) where
  abbrev call : Result (Outcome.Ready (List ℕ))
  call = Outcome.asked L question site (λ _. Outcome.take_steps given) Outcome.nothing Outcome.nothing (rooms (length picks) (length state))

  abbrev Is_read : Reply → List ℕ → List ℕ → Type 0
  Is_read = PicksRead L question site given picks state

  refused_with : (e : Refusal) → call ≡ refused (number_of e.cause) e.place → Is_read (Err e) picks state
  unfolding Outcome.picks_from_steps Outcome.ready_to_run Outcome.picks_read_from rooms
  refused_with e h = (rw h refl, (rw h refl, rw h refl))

  pub call_case : (e : Refusal) → Outcome.read_case L question site ≡ refused (number_of e.cause) e.place → Is_read (Err e) picks state
  call_case e h = refused_with e (Order.case_refused L question site _ _ _ _ _ _ h)

  module _ (f : Front) (facts table : List ℕ) (its : Fronted L question site (Ok f) facts table) where
    pub call_steps : (e : Refusal) → Outcome.take_steps given ≡ refused (number_of e.cause) e.place → Is_read (Err e) picks state
    call_steps e t = let (c, i, h) = its in refused_with e (Alone.third_refused L question site _ _ _ _ c i (number_of e.cause) e.place (λ _. t))

    module _ (steps : List ℕ) (t : Outcome.take_steps given ≡ accepted steps) where
      pub call_over : (e : Refusal) → f.m ≡ Err e → Is_read (Err e) picks state
      call_over e o =
          let (c, i, h) = its in
          refused_with e (Alone.limits_refused L question site _ _ _ _ c i steps (λ _. t) (Order.untested c) _ _ (case_over L c f.m table h.grounded e o))

      module _ (m : Sized) (o : f.m ≡ Ok m) where
        abbrev p : Problem
        p = problem_of its.0

        -- once the rooms are tested
        no_room : (k place : ℕ) → rooms (length picks) (length state) p ≡ refused k place → call ≡ refused k place
        no_room k place j =
            let (c, e, h) = its in
            Alone.room_refused L question site _ _ _ _ c e steps (λ _. t) (Order.untested c) p (grounds L c f.m table h.grounded _ o) (Order.untested c) k place j

        readied : rooms (length picks) (length state) p ≡ accepted tt → call ≡ accepted (record { case = its.0; labels = (Order.case_filed L question site its.0 its.1).0; problem = p; third = steps })
        readied j =
            let (c, e, h) = its in
            Alone.ready L question site _ _ _ _ c e steps (λ _. t) (Order.untested c) p (grounds L c f.m table h.grounded _ o) (Order.untested c) j

        words : (m.atoms + 63) / 64 ≡ Outcome.state_length p
        words = let (c, e, h) = its in words_are L c f.m table h.grounded _ o

        module _ (count : ℕ) (e : (q : Problem) → Is q table → count ≡ Outcome.picks_length q) where
          count_is : count ≡ Outcome.picks_length p
          count_is = let (c, _, h) = its in e p (tabled L c f.m table h.grounded _ o).is

          pub call_few_picks : length picks < count → Is_read (Err (record { cause = ShortBuffer; place = count })) picks state
          unfolding rooms ◌>>=◌
          call_few_picks l =
              let b = room_short (Outcome.picks_length p) (length picks) (subst (λ (k : ℕ). length picks < k) count_is l) in
              refused_with (record { cause = ShortBuffer; place = count }) (no_room 12 _ (rw b refl) ∙ ap (refused 12) (sym count_is))

          module _ (l : count ≤ length picks) where
            enough : Outcome.room_for (Outcome.picks_length p) (length picks) ≡ accepted tt
            enough = room_there (Outcome.picks_length p) (length picks) (subst (λ (k : ℕ). k ≤ length picks) count_is l)

            pub call_few_words : length state < (m.atoms + 63) / 64 → Is_read (Err (record { cause = ShortBuffer; place = (m.atoms + 63) / 64 })) picks state
            unfolding rooms ◌>>=◌
            call_few_words h =
                let b = room_short (Outcome.state_length p) (length state) (subst (λ (k : ℕ). length state < k) words h) in
                refused_with (record { cause = ShortBuffer; place = (m.atoms + 63) / 64 }) (no_room 12 _ (rw (enough, b) refl) ∙ ap (refused 12) (sym words))

            pub call_ran : (m.atoms + 63) / 64 ≤ length state → (r : Reply) (newPicks part newPart newState : List ℕ) → (m.atoms + 63) / 64 ≡ length part
                → ReadBy table facts steps picks part r newPicks newPart → newState ≡ newPart ++ drop ((m.atoms + 63) / 64) state → Is_read r newPicks newState
            unfolding rooms ReadBy Outcome.picks_from_steps Outcome.ready_to_run Outcome.picks_read_from Outcome.written ◌>>=◌
            call_ran h r newPicks part newPart newState len read n =
                let (c, e, held) = its in
                let tab = tabled L c f.m table held.grounded _ o in
                let ran = read p tab.is tab.ends (facts_held question c f.o facts held.holds) (good c held.accepts) (sym len ∙ words) in
                let b = room_there (Outcome.state_length p) (length state) (subst (λ (k : ℕ). k ≤ length state) words h) in
                let done = readied (rw (enough, b) refl) in
                let s : length (state_words p (run p steps).state) ≡ Outcome.state_length p = state_length_lem p (run p steps).state in
                (rw done ran.answer, (rw done ran.picks_are, rw (done, s) (n ∙ ap₂ (λ (x : List ℕ) (k : ℕ). x ++ drop k state) ran.state_is words)))
