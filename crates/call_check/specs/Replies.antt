-- What the calls that check steps answer and leave, one law for each place where such a call ends.
use Rattle.std.specs.Prelude.{ℕ, ◌+◌, ◌/◌, ◌≤◌, ◌<◌, ◌≡◌, take, Ok, Err}
use Rattle.std.proofs.Math.Path.{refl, sym, ap}
use Rattle.std.proofs.Common.{subst, ◌∙◌, length-take-le}
use mathlib.Core.List.{List, ◌++◌}
use Rattle.std.proofs.Math.ListN.{length, drop}
use Rattle.definitions.specs.Limits.{CaseLimits}
use Rattle.definitions.specs.Refusal.{Result, refused, accepted}
use Rattle.definitions.specs.Problem.Atoms.{Problem, problem_of, state_words}
use Rattle.definitions.specs.Problem.Strips.{run}
use Rattle.definitions.specs.Reply.Outcome
use Rattle.laws.specs.Words.{state_length_lem}
use Rattle.laws.specs.Asked
use Rattle.laws.specs.Alone
use Rattle.step_run.specs.declared.End.{End}
use Rattle.step_run.specs.Ended.{ended}
use Rattle.step_run.specs.Checks.{Runs}
use Rattle.open_case.specs.declared.Front.{Front}
use Rattle.refusal.specs.declared.Refusal.{Refusal}
use Rattle.refusal.specs.declared.Cause.TheVariants.{ShortBuffer}
use Rattle.refusal.specs.Numbers.{number_of}
use Rattle.problem_of_case.specs.declared.Sized.{Sized}
use Rattle.open_case.specs.Fronts.{Fronted}
use Rattle.open_case.specs.Known.{case_over, grounds, words_are, ran_of, room_short, room_there}
use Rattle.open_case.specs.Replies.{Reply, result_of}

-- ---- the calls that check steps

-- what a call answers and leaves, by the definitions
abbrev pub Checked : CaseLimits → (question site : List ℕ) (given : Outcome.ThirdInput) (old : List ℕ) → Reply → List ℕ → Type 0
Checked L question site given old r new =
    (result_of r ≡ (Outcome.check_steps L question site given old).answer) × (new ≡ (Outcome.check_steps L question site given old).state)

module _ (L : CaseLimits) (question site : List ℕ) (given : Outcome.ThirdInput) (old : List ℕ) where
  abbrev third : Outcome.CaseRead → Result (List ℕ)
  third x = Outcome.take_steps given

  abbrev rooms : Problem → Result (Unit {0})
  rooms p = Outcome.room_for (Outcome.state_length p) (length old)

  abbrev Answers : Reply → List ℕ → Type 0
  Answers r new = Checked L question site given old r new

  refused_with : (e : Refusal) → Outcome.asked L question site third Outcome.nothing Outcome.nothing rooms ≡ refused (number_of e.cause) e.place → Answers (Err e) old
  unfolding Outcome.check_steps Outcome.ready_to_run Outcome.checked_from
  refused_with e q = (rw q refl, rw q refl)

  pub call_case : (e : Refusal) → Outcome.read_case L question site ≡ refused (number_of e.cause) e.place → Answers (Err e) old
  call_case e h = refused_with e (Asked.case_refused L question site third _ _ rooms _ _ h)

  -- the case that was read
  module _ (f : Front) (facts table : List ℕ) (its : Fronted L question site (Ok f) facts table) where
    pub call_steps : (e : Refusal) → Outcome.take_steps given ≡ refused (number_of e.cause) e.place → Answers (Err e) old
    call_steps e t = refused_with e (Alone.third_refused L question site third _ _ rooms its.0 its.1 _ _ (λ _. t))

    module _ (ks : List ℕ) (t : Outcome.take_steps given ≡ accepted ks) where
      pub call_over : (e : Refusal) → f.m ≡ Err e → Answers (Err e) old
      call_over e o =
          let (c, a, h) = its in
          refused_with e (Alone.limits_refused L question site third _ _ rooms c a ks (λ _. t) (Asked.untested c) _ _ (case_over L c _ _ h.grounded e o))

      module _ (m : Sized) (o : f.m ≡ Ok m) where
        abbrev words : ℕ
        words = (m.atoms + 63) / 64

        words_of : words ≡ Outcome.state_length (problem_of its.0)
        words_of = words_are L its.0 _ _ its.2.grounded m o

        pub call_short : length old < words → Answers (Err (record { cause = ShortBuffer; place = words })) old
        call_short l =
            let (c, e, h) = its in
            let short = room_short words (length old) l in
            let b : rooms (problem_of c) ≡ refused 12 words = ap (λ (k : ℕ). Outcome.room_for k (length old)) (sym words_of) ∙ short in
            refused_with (record { cause = ShortBuffer; place = words }) (Alone.room_refused L question site third _ _ rooms c e ks (λ _. t) (Asked.untested c) (problem_of c) (grounds L c _ _ h.grounded m o) (Asked.untested c) 12 words b)

        pub call_ran : words ≤ length old → (e : End) (part new : List ℕ) (r : Reply) → Runs table facts ks (take words old) e part → new ≡ part ++ drop words old → result_of r ≡ ended e → Answers r new
        unfolding Outcome.check_steps Outcome.ready_to_run Outcome.checked_from Outcome.written
        call_ran l e part new r runs n q =
            let (c, a, h) = its in
            let p : Problem = problem_of c in
            let b = room_there (Outcome.state_length p) (length old) (subst (λ (k : ℕ). k ≤ length old) words_of l) in
            let g = Alone.ready L question site third Outcome.nothing Outcome.nothing rooms c a ks (λ _. t) (Asked.untested c) p (grounds L c _ _ h.grounded m o) (Asked.untested c) b in
            let ran = ran_of L c _ _ h.grounded m o question _ facts ks _ part e h.holds (sym (length-take-le words old l)) runs in
            let s : length (state_words p (run p ks).state) ≡ words = state_length_lem p (run p ks).state ∙ sym words_of in
            (rw g (q ∙ ran.answer), rw (g, s) (n ∙ ap (λ (x : List ℕ). x ++ drop words old) ran.state))
