-- A window as the definitions have it, and one law for each place where the call ends.
use Rattle.std.specs.Prelude.{ℕ, ◌≤◌, ◌≡◌, Bool, true, false, List, Ok, Err}
use Rattle.std.specs.Prelude as P
use Rattle.std.proofs.Math.Path.{refl, ap}
use Rattle.std.proofs.Common.{sym, ap₂, ◌∙◌}
use Rattle.definitions.specs.Limits.{CaseLimits}
use Rattle.definitions.specs.Lists.{is_some}
use Rattle.definitions.specs.Refusal.{Result, refused, accepted, ◌>>=◌, refuse_if}
use Rattle.definitions.specs.Problem.Truth.{Case}
use Rattle.definitions.specs.Problem.Atoms.{Problem, problem_of}
use Rattle.definitions.specs.Reply.Outcome.{read_case, ground, without_every, asked, nothing}
use Rattle.definitions.specs.Reply.Layers
use Rattle.laws.specs.Asked
use Rattle.laws.specs.Alone
use Rattle.laws.specs.Reader.{Accepted as Accepts, gives_if, case_fits}
use Rattle.read_sheets.specs.declared.Opened.{Opened}
use Rattle.read_sheets.specs.Opening.{Holds}
use Rattle.refusal.specs.declared.Refusal.{Refusal}
use Rattle.refusal.specs.declared.Cause.TheVariants.{HasEvery}
use Rattle.refusal.specs.Numbers.{number_of}
use Rattle.refusal.specs.Told.{told}
use Rattle.problem_window.specs.declared.Window.{Window}

abbrev pub windowed_of : P.Result Window Refusal → Result Layers.Window
windowed_of r = told (λ (w : Window). record { lower = w.lower; upper = w.upper }) r

module _ (L : CaseLimits) (question site : List ℕ) where
  refused_with : (e : Refusal) → asked L question site nothing nothing without_every nothing ≡ refused (number_of e.cause) e.place
      → windowed_of (Err e) ≡ Layers.window_of L question site
  unfolding Layers.window_of ◌>>=◌
  refused_with e h = rw h refl

  pub window_refused : (e : Refusal) → read_case L question site ≡ refused (number_of e.cause) e.place → windowed_of (Err e) ≡ Layers.window_of L question site
  window_refused e h = refused_with e (Asked.case_refused L question site nothing nothing without_every nothing _ _ h)

  module _ (o : Opened) (facts : ℕ → Bool) (its : (c : Case) × (read_case L question site ≡ accepted c) × Holds question c o facts) where
    abbrev p : Problem
    p = problem_of its.0

    pub window_over : (e : Refusal) → ground L its.0 ≡ refused (number_of e.cause) e.place → windowed_of (Err e) ≡ Layers.window_of L question site
    window_over e g = refused_with e (Alone.limits_refused L question site nothing nothing without_every nothing its.0 its.1 tt (λ _. Asked.untested _)
        (Asked.untested its.0) (number_of e.cause) e.place g)

    module _ (grounded : ground L its.0 ≡ accepted p) (every : Bool) (told : every ≡ is_some its.0.question.every) where
      tested : without_every its.0 ≡ refuse_if every 23 0
      unfolding without_every
      tested = ap (λ (b : Bool). refuse_if b 23 0) (sym told)

      pub window_every : every ≡ true → windowed_of (Err (record { cause = HasEvery; place = 0 })) ≡ Layers.window_of L question site
      unfolding refuse_if
      window_every e =
          let (labels, f) = Asked.case_filed L question site its.0 its.1 in
          let late : without_every its.0 ≡ refused 23 0 = tested ∙ ap (λ (b : Bool). refuse_if b 23 0) e in
          refused_with (record { cause = HasEvery; place = 0 }) (Asked.late_refused L question site nothing nothing without_every nothing _ f tt (Asked.untested _)
          (Asked.untested its.0) p grounded 23 0 late)

      module _ (few : L.elements ≤ 64) (alone : every ≡ false) where
        late : without_every its.0 ≡ accepted tt
        unfolding refuse_if
        late = tested ∙ ap (λ (b : Bool). refuse_if b 23 0) alone

        accepts : Accepts its.0
        accepts = gives_if Accepts (read_case L question site) its.0 its.1 (case_fits L few question site)

        pub window_told : (w : Window)
            → ((c : Case) → Accepts c → Holds question c o facts → (w.lower ≡ (Layers.case_window (problem_of c)).lower)
            × (w.upper ≡ (Layers.case_window (problem_of c)).upper))
            → windowed_of (Ok w) ≡ Layers.window_of L question site
        unfolding Layers.window_of ◌>>=◌
        window_told w e =
            let (c, a, h) = its in
            let (l, u) = e c accepts h in
            let g =
            Alone.ready L question site nothing nothing without_every nothing c a tt (λ _. Asked.untested _) (Asked.untested c) p grounded late
            (Asked.untested p) in
            rw g (ap accepted (ap₂ (λ (x y : ℕ). record { lower = x; upper = y }) l u))
