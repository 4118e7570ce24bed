-- What every call begins with: the order of its refusals, and what is known once it is ready.
use Rattle.std.specs.Prelude.{ℕ, zero, ◌≡◌, false, List, T}
use Rattle.std.proofs.Math.Path.{refl, subst}
use Rattle.std.proofs.Common.{sym, ap, ◌∙◌}
use Rattle.std.proofs.Math.Option.{Option, none, some}
use Rattle.definitions.specs.Limits.{CaseLimits}
use Rattle.definitions.specs.Lists.{is_some}
use Rattle.definitions.specs.Refusal.{Result, refused, accepted, ◌>>=◌, refuse_if}
use Rattle.definitions.specs.Sheet.Relations.{Relation}
use Rattle.definitions.specs.Sheet.Sheets.{Label}
use Rattle.definitions.specs.Problem.Truth.{Case}
use Rattle.definitions.specs.Problem.Atoms.{Problem}
use Rattle.definitions.specs.Reply.Outcome.{CaseRead, read_filed, read_case, ground, read_problem, Ready, asked, nothing, without_every}
use Rattle.laws.specs.Results.{accepted_eq, bind_parts, refused_accepted, not_refused}

-- where nothing is tested, nothing is refused
pub untested : {B : Type 0} (b : B) → nothing b ≡ accepted tt
unfolding nothing
untested b = refl

-- ---- the case alone, and the case with its labels
module _ (L : CaseLimits) (question site : List ℕ) where
  pub filed_case : (r : CaseRead) → read_filed L question site ≡ accepted r → read_case L question site ≡ accepted r.case
  unfolding read_case ◌>>=◌
  filed_case r e = rw e refl

  pub case_filed : (c : Case) → read_case L question site ≡ accepted c → (labels : List Label) × (read_filed L question site ≡ accepted (record { case = c; labels = labels }))
  unfolding read_case
  case_filed c e =
      let (r, a, f) = bind_parts (read_filed L question site) _ c e in
      (r.labels, subst (λ (x : Case). read_filed L question site ≡ accepted (record { case = x; labels = r.labels })) (accepted_eq r.case c f) a)

  pub case_fails : (k place : ℕ) → read_case L question site ≡ refused k place → read_filed L question site ≡ refused k place
  unfolding read_case ◌>>=◌
  case_fails k place e = by_result (read_filed L question site) refl e
    where
      by_result : (x : Result CaseRead) → read_filed L question site ≡ x → (x >>= λ r. accepted r.case) ≡ refused k place → read_filed L question site ≡ refused k place
      by_result (refused j at) q f = q ∙ cc
      by_result (accepted r) q f = absurd (refused_accepted (sym f))

module _ {A : Type 0} (L : CaseLimits) (question site : List ℕ) (third : CaseRead → Result A) (early late : Case → Result (Unit {0})) (rooms : Problem → Result (Unit {0})) where
  abbrev call : Result (Ready A)
  call = asked L question site third early late rooms

  -- ---- one refusal after another
  pub case_refused : (k place : ℕ) → read_case L question site ≡ refused k place → call ≡ refused k place
  unfolding asked ◌>>=◌
  case_refused k place e = rw (case_fails L question site k place e) refl

  module _ (c : CaseRead) (e : read_filed L question site ≡ accepted c) where
    pub third_refused : (k place : ℕ) → third c ≡ refused k place → call ≡ refused k place
    unfolding asked ◌>>=◌
    third_refused k place f = rw (e, f) refl

    module _ (t : A) (f : third c ≡ accepted t) where
      pub early_refused : (k place : ℕ) → early c.case ≡ refused k place → call ≡ refused k place
      unfolding asked ◌>>=◌
      early_refused k place g = rw (e, f, g) refl

      module _ (g : early c.case ≡ accepted tt) where
        pub limits_refused : (k place : ℕ) → ground L c.case ≡ refused k place → call ≡ refused k place
        unfolding asked ◌>>=◌
        limits_refused k place h = rw (e, f, g, h) refl

        module _ (p : Problem) (h : ground L c.case ≡ accepted p) where
          pub late_refused : (k place : ℕ) → late c.case ≡ refused k place → call ≡ refused k place
          unfolding asked ◌>>=◌
          late_refused k place i = rw (e, f, g, h, i) refl

          module _ (i : late c.case ≡ accepted tt) where
            pub room_refused : (k place : ℕ) → rooms p ≡ refused k place → call ≡ refused k place
            unfolding asked ◌>>=◌
            room_refused k place j = rw (e, f, g, h, i, j) refl

            pub ready : rooms p ≡ accepted tt → call ≡ accepted (record { case = c.case; labels = c.labels; problem = p; third = t })
            unfolding asked ◌>>=◌
            ready j = rw (e, f, g, h, i, j) refl

  -- ---- once it is ready, all of it was accepted
  pub record Parts (r : Ready A) : Type 0 where
    pub is_filed : read_filed L question site ≡ accepted (record { case = r.case; labels = r.labels })
    pub is_case : read_case L question site ≡ accepted r.case
    pub is_third : third (record { case = r.case; labels = r.labels }) ≡ accepted r.third
    pub is_problem : ground L r.case ≡ accepted r.problem
    pub is_late : late r.case ≡ accepted tt
    pub has_room : rooms r.problem ≡ accepted tt

  pub parts : (r : Ready A) → call ≡ accepted r → Parts r
  unfolding asked
  parts r e =
      let (c, rc, e₁) = bind_parts (read_filed L question site) _ r e in
      let (t, rt, e₂) = bind_parts (third c) _ r e₁ in
      let (u, ru, e₃) = bind_parts (early c.case) _ r e₂ in
      let (p, rp, e₄) = bind_parts (ground L c.case) _ r e₃ in
      let (v, rv, e₅) = bind_parts (late c.case) _ r e₄ in
      let (w, rw', e₆) = bind_parts (rooms p) _ r e₅ in
      subst Parts (accepted_eq _ r e₆) (record { is_filed = rc; is_case = filed_case L question site c rc; is_third = rt; is_problem = rp; is_late = rv; has_room = rw' })

-- ---- a test after 11 that is passed: the call is as without it
pub late_passed : {A : Type 0} (L : CaseLimits) (question site : List ℕ) (third : CaseRead → Result A) (early late : Case → Result (Unit {0})) (rooms : Problem → Result (Unit {0})) → ((c : Case) → read_case L question site ≡ accepted c → late c ≡ accepted tt)
    → asked L question site third early late rooms ≡ asked L question site third early nothing rooms
unfolding asked nothing ◌>>=◌
late_passed {A} L question site third early late rooms h = by_file (read_filed L question site) refl
  where
    by_file : (x : Result CaseRead) → read_filed L question site ≡ x
        → ◌≡◌ {A = Result (Ready A)} (x >>= λ r. third r >>= λ t. early r.case >>= λ _. ground L r.case >>= λ p. late r.case >>= λ _. rooms p >>= λ _. accepted (record { case = r.case; labels = r.labels; problem = p; third = t }))
        (x >>= λ r. third r >>= λ t. early r.case >>= λ _. ground L r.case >>= λ p. rooms p >>= λ _. accepted (record { case = r.case; labels = r.labels; problem = p; third = t }))
    by_file (refused k place) e = refl
    by_file (accepted r) e = rw (h r.case (filed_case L question site r e)) refl

-- the test of a call that takes no case with an `every` line
pub every_passes : (c : Case) → c.question.every ≡ none → without_every c ≡ accepted tt
unfolding without_every is_some refuse_if
every_passes c e = ap (λ (o : Option Relation). refuse_if (is_some o) 23 zero) e

pub passes_every : (c : Case) → without_every c ≡ accepted tt → c.question.every ≡ none
unfolding without_every is_some
passes_every c e = by_option c.question.every (not_refused (is_some c.question.every) 23 zero tt e)
  where
    by_option : (o : Option Relation) → is_some o ≡ false → o ≡ none
    by_option none e = refl
    by_option (some k) e = absurd (subst T e tt)

pub every_fails : (c : Case) (k : Relation) → c.question.every ≡ some k → without_every c ≡ refused 23 0
unfolding without_every is_some refuse_if
every_fails c k e = ap (λ (o : Option Relation). refuse_if (is_some o) 23 zero) e

-- a problem that is read is that of a case that is read
pub problem_parts : (L : CaseLimits) (question site : List ℕ) (p : Problem) → read_problem L question site ≡ accepted p → (c : Case) × (read_case L question site ≡ accepted c) × (ground L c ≡ accepted p)
unfolding read_problem
problem_parts L question site p e = bind_parts (read_case L question site) (ground L) p e

pub problem_from : (L : CaseLimits) (question site : List ℕ) (c : Case) (p : Problem) → read_case L question site ≡ accepted c → ground L c ≡ accepted p → read_problem L question site ≡ accepted p
unfolding read_problem ◌>>=◌
problem_from L question site c p e g = rw e g

-- and of one that is read with its labels
pub problem_filed : (L : CaseLimits) (question site : List ℕ) (p : Problem) → read_problem L question site ≡ accepted p → (r : CaseRead) × (read_filed L question site ≡ accepted r) × (ground L r.case ≡ accepted p)
problem_filed L question site p e =
    let (c, a, g) = problem_parts L question site p e in
    let (labels, f) = case_filed L question site c a in
    (record { case = c; labels = labels }, f, g)
