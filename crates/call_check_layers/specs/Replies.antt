-- What the call that checks layered plans answers and leaves, one law for each place where it ends.
use Rattle.std.specs.Prelude.{ℕ, ◌+◌, ◌-◌, ◌/◌, ◌≤◌, ◌<◌, ◌≡◌, eqb, take, if◌then◌else◌, Ok, Err}
use Rattle.std.proofs.Math.Path.{refl, sym, ap}
use Rattle.std.proofs.Common.{subst, ◌∙◌, length-take-le}
use Rattle.std.proofs.Math.Option.{none}
use mathlib.Core.List.{List, ◌++◌}
use Rattle.std.proofs.Math.ListN.{length, drop}
use borrow.Author.Tests.{eq-eqb, ne_eqb}
use Rattle.definitions.specs.Limits.{CaseLimits, step_limit}
use Rattle.definitions.specs.Lists.{is_some}
use Rattle.definitions.specs.Refusal.{Result, refused, accepted, ◌>>=◌}
use Rattle.definitions.specs.Problem.Truth.{Case}
use Rattle.definitions.specs.Problem.Atoms.{Problem, problem_of, problem_with, state_words}
use Rattle.definitions.specs.Reply.Outcome
use Rattle.definitions.specs.Reply.Layers
use Rattle.laws.specs.Words.{state_length_lem}
use Rattle.laws.specs.Asked
use Rattle.laws.specs.Alone
use Rattle.meaning.specs.Grounded.{good}
use Rattle.meaning.specs.Layers.{NoEvery}
use Rattle.step_run.specs.declared.End.{End}
use Rattle.step_run.specs.Ended.{ended}
use Rattle.step_layers.specs.Checks.{RunsLayers}
use Rattle.open_case.specs.declared.Front.{Front}
use Rattle.refusal.specs.declared.Refusal.{Refusal}
use Rattle.refusal.specs.declared.Cause.TheVariants.{ShortBuffer, HasEvery}
use Rattle.refusal.specs.Numbers.{number_of}
use Rattle.problem_of_case.specs.declared.Sized.{Sized}
use Rattle.open_case.specs.Fronts.{Fronted}
use Rattle.open_case.specs.Known.{facts_held, every_none, every_some, case_over, grounds, tabled, words_are, room_short, room_there}
use Rattle.open_case.specs.Replies.{Reply, result_of, lent_many, lent_few}

-- ---- the third input: the number of steps, then the ends
module _ (steps ends : List ℕ) where
  pub layers_many : step_limit < length steps → Layers.take_layers steps ends ≡ refused 1 0
  unfolding Layers.take_layers ◌>>=◌
  layers_many h = rw (lent_many steps h) refl

  module _ (h : length steps ≤ step_limit) (r : ℕ) (e : Layers.ends_test (length steps) 0 0 ends ≡ (if eqb r 0 then accepted tt else refused 3 (r - 1))) where
    pub layers_wrong : (r ≡ 0 → ⊥) → Layers.take_layers steps ends ≡ refused 3 (r - 1)
    unfolding Layers.take_layers ◌>>=◌
    layers_wrong n = rw (lent_few steps h, e, ne_eqb r 0 n) refl

    pub layers_there : r ≡ 0 → Layers.take_layers steps ends ≡ accepted (Layers.layers_from 0 steps ends)
    unfolding Layers.take_layers ◌>>=◌
    layers_there z = rw (lent_few steps h, e, eq-eqb r 0 z) refl

no_rounds : (c : Case) → c.question.every ≡ none → NoEvery (problem_of c)
unfolding problem_of problem_with is_some
no_rounds c e = rw e tt

-- what a call answers and leaves, by the definitions
abbrev pub Checked : CaseLimits → (question site steps ends old : List ℕ) → Reply → List ℕ → Type 0
Checked L question site steps ends old r new =
    (result_of r ≡ (Layers.check_layers L question site steps ends old).answer) × (new ≡ (Layers.check_layers L question site steps ends old).state)

module _ (L : CaseLimits) (question site steps ends old : List ℕ) where
  abbrev third : Outcome.CaseRead → Result (List (List ℕ))
  third x = Layers.take_layers steps ends

  abbrev rooms : Problem → Result (Unit {0})
  rooms p = Outcome.room_for (Outcome.state_length p) (length old)

  abbrev Answers : Reply → List ℕ → Type 0
  Answers r new = Checked L question site steps ends old r new

  refused_with : (e : Refusal) → Outcome.asked L question site third Outcome.nothing Outcome.without_every rooms ≡ refused (number_of e.cause) e.place
      → Answers (Err e) old
  unfolding Layers.check_layers Layers.layers_checked_from
  refused_with e h = (rw h refl, rw h refl)

  pub call_case : (e : Refusal) → Outcome.read_case L question site ≡ refused (number_of e.cause) e.place → Answers (Err e) old
  call_case e h = refused_with e (Asked.case_refused L question site third _ _ rooms _ _ h)

  -- the case that was read
  module _ (f : Front) (facts table : List ℕ) (its : Fronted L question site (Ok f) facts table) where
    pub call_layers : (e : Refusal) → Layers.take_layers steps ends ≡ refused (number_of e.cause) e.place → Answers (Err e) old
    call_layers e t = refused_with e (Alone.third_refused L question site third _ _ rooms its.0 its.1 (number_of e.cause) e.place (λ _. t))

    module _ (t : Layers.take_layers steps ends ≡ accepted (Layers.layers_from 0 steps ends)) where
      pub call_over : (e : Refusal) → f.m ≡ Err e → Answers (Err e) old
      call_over e o =
          let (c, i, h) = its in
          refused_with e (Alone.limits_refused L question site third _ _ rooms c i _ (λ _. t) (Asked.untested c) _ _ (case_over L c _ _ h.grounded e o))

      module _ (m : Sized) (o : f.m ≡ Ok m) where
        pub call_every : (f.o.sig.every ≡ 0 → ⊥) → Answers (Err (record { cause = HasEvery; place = 0 })) old
        call_every n =
            let (c, e, h) = its in
            let (labels, g) = Asked.case_filed L question site c e in
            let (k, q) = every_some question c _ _ h.holds n in
            refused_with (record { cause = HasEvery; place = 0 }) (Asked.late_refused L question site third _ Outcome.without_every rooms _ g _ t (Asked.untested c) (problem_of c)
            (grounds L c _ _ h.grounded _ o) 23 0 (Asked.every_fails c k q))

        module _ (n : f.o.sig.every ≡ 0) where
          abbrev words : ℕ
          words = (m.atoms + 63) / 64

          words_of : words ≡ Outcome.state_length (problem_of its.0)
          words_of = words_are L its.0 _ _ its.2.grounded _ o

          plain : its.0.question.every ≡ none
          plain = every_none question its.0 _ _ its.2.holds n

          pub call_short : length old < words → Answers (Err (record { cause = ShortBuffer; place = words })) old
          call_short l =
              let (c, e, h) = its in
              let b : rooms (problem_of c) ≡ refused 12 words =
              ap (λ (k : ℕ). Outcome.room_for k (length old)) (sym words_of) ∙ room_short words (length old) l in
              refused_with (record { cause = ShortBuffer; place = words }) (Alone.room_refused L question site third _ _ rooms c e _ (λ _. t) (Asked.untested c) (problem_of c)
              (grounds L c _ _ h.grounded _ o) (Asked.every_passes c plain) 12 words b)

          pub call_ran : words ≤ length old → (e : End) (part new : List ℕ) (r : Reply) → RunsLayers table facts steps ends (take words old) e part
              → new ≡ part ++ drop words old → result_of r ≡ ended e → Answers r new
          unfolding Layers.check_layers Layers.layers_checked_from Outcome.written RunsLayers
          call_ran l e part new r runs v q =
              let (c, a, h) = its in
              let p : Problem = problem_of c in
              let b = room_there (Outcome.state_length p) (length old) (subst (λ (k : ℕ). k ≤ length old) words_of l) in
              let g =
              Alone.ready L question site third Outcome.nothing Outcome.without_every rooms c a _ (λ _. t) (Asked.untested c) p
              (grounds L c _ _ h.grounded _ o) (Asked.every_passes c plain) b in
              let k = tabled L c _ _ h.grounded _ o in
              let ran =
              runs p (good c h.accepts) (no_rounds c plain) k.is k.ends (facts_held question c _ facts h.holds)
              (length-take-le words old l ∙ words_of) in
              let left = (Layers.run_layers p (Layers.layers_from 0 steps ends)).state in
              let s : length (state_words p left) ≡ words = state_length_lem p left ∙ sym words_of in
              (rw g (q ∙ ran.answer), rw (g, s) (v ∙ ap (λ (x : List ℕ). x ++ drop words old) ran.state))
