-- What the desk program prints, if it is no refusal: both records of one case, each of which tells the other.
use Rattle.std.specs.Prelude.{ℕ, zero, ◌≤◌, ◌≡◌, Bool, false, ltb, length, if◌then◌else◌}
use Rattle.std.proofs.Common.{sym, ◌∙◌, arith}
use Rattle.std.proofs.Math.Path.{subst}
use Rattle.std.proofs.Math.Bool.{true}
use mathlib.Core.List.{List}
use Rattle.definitions.specs.Limits.{CaseLimits, early, desk_bytes, desk_words, desk_steps}
use Rattle.definitions.specs.Sheet.Text.{lines}
use Rattle.definitions.specs.Refusal.{accepted, ◌>>=◌, refuse_if}
use Rattle.definitions.specs.Sheet.Relations.{Tuple}
use Rattle.definitions.specs.Problem.Truth.{Case, are_picks, are_of_kinds, rule_is_true}
use Rattle.definitions.specs.Problem.Atoms.{Problem, problem_of}
use Rattle.definitions.specs.Problem.Strips.{reaches_goal, run, picks_of}
use Rattle.definitions.specs.Problem.Built.{built_steps}
use Rattle.definitions.specs.Reply.Outcome.{CaseRead, read_filed, read_case, ground, nothing, room_for, state_length, ThirdInput, as_text, take_steps, ready_to_run, Plan, plan}
use Rattle.definitions.specs.Reply.Demand.{are_same_picks}
use Rattle.definitions.specs.Reply.Desk.{CaseSheets, sheets, checked_plan, starts_with_step, answer_of, answer}
use Rattle.laws.specs.Results.{accepted_eq, bind_parts, is_accepted_lem}
use Rattle.laws.specs.Asked
use Rattle.laws.specs.Reader.{Accepted, FiledFits, filed_fits, gives_if}
use Rattle.demands.specs.Accepting.{run_accepts}
use Rattle.demands.specs.Between.{same_picks, sound_case, complete_case}
use Rattle.meaning.specs.Building.{ground_is, given_picks, picks_given, plan_tells}

-- the two records of a case
abbrev pub Records : Case → Problem → List Tuple → List ℕ → Type 0
Records c p picks steps = (are_picks c picks ≡ true) × (are_of_kinds c picks ≡ true) × (rule_is_true c picks ≡ true) × (reaches_goal p steps ≡ true) × (are_same_picks (picks_of p steps) picks ≡ true)

abbrev pub Filed : CaseLimits → List ℕ → List ℕ → Plan → Type 0
Filed L question site b = (c : Case) × (read_case L question site ≡ accepted c) × (ground L c ≡ accepted b.problem) × Records c b.problem b.picks b.steps

module _ (L : CaseLimits) (few : L.elements ≤ 64) (question site : List ℕ) where
  fits : (r : CaseRead) → read_filed L question site ≡ accepted r → FiledFits r
  fits r e = gives_if FiledFits (read_filed L question site) r e (filed_fits L few question site)

  -- from picks
  plan_filed : (g : ThirdInput) (stateRoom stepsRoom : ℕ) (b : Plan) → plan L question site g stateRoom stepsRoom ≡ accepted b → Filed L question site b
  plan_filed g stateRoom stepsRoom b e =
      let t = plan_tells L question site g stateRoom stepsRoom b e in
      let c : Case = t.case in
      (c, t.is_case, t.is_problem, records (record { case = c; labels = b.labels }) (fits (record { case = c; labels = b.labels }) t.is_filed) b.problem b.picks b.steps (ground_is L c b.problem t.is_problem) t.steps t.given t.kinds t.rule)
    where
      records : (x : CaseRead) → FiledFits x → (p : Problem) (F : List Tuple) (steps : List ℕ) → p ≡ problem_of x.case → steps ≡ built_steps p F → picks_given x.case x.labels p g ≡ accepted F → are_of_kinds x.case F ≡ true → rule_is_true x.case F ≡ true → Records x.case p F steps
      records x A p F steps e s t k r =
          let c : Case = x.case in
          subst (λ (l : List ℕ). Records c p F l) (sym s) (subst (λ (q : Problem). Records c q F (built_steps q F)) (sym e)
          (let a = given_picks c A.case_fits x.labels A.labels_fit g F (subst (λ (q : Problem). picks_given c x.labels q g ≡ accepted F) e t) in let (y, z) = complete_case c A.case_fits F a k r in (a, k, r, y, z)))

  -- from steps
  checked_filed : (steps : List ℕ) (room : ℕ) (b : Plan)
      → (ready_to_run L question site (as_text steps) (λ p. room_for (state_length p) room) >>= λ r. (run r.problem r.third).answer >>= λ _. accepted (record { labels = r.labels; problem = r.problem; picks = picks_of r.problem r.third; steps = r.third })) ≡ accepted b
      → Filed L question site b
  unfolding ready_to_run
  checked_filed steps room b e =
      let (r, f, e₁) = bind_parts (ready_to_run L question site (as_text steps) (λ p. room_for (state_length p) room)) _ b e in
      let (n, h, e₂) = bind_parts (run r.problem r.third).answer _ b e₁ in
      let q = Asked.parts L question site (λ _. take_steps (as_text steps)) nothing nothing (λ p. room_for (state_length p) room) r f in
      subst (Filed L question site) (accepted_eq _ b e₂) (
        r.case,
        q.is_case,
        q.is_problem,
        records r.case (fits (record { case = r.case; labels = r.labels }) q.is_filed).case_fits
            r.problem r.third (ground_is L r.case r.problem q.is_problem)
            (sym (run_accepts r.problem r.third) ∙ is_accepted_lem (run r.problem r.third).answer n h),
      )
    where
      records : (c : Case) → Accepted c → (p : Problem) (ks : List ℕ) → p ≡ problem_of c → reaches_goal p ks ≡ true → Records c p (picks_of p ks) ks
      records c A p ks e g =
          let (a, k, r) = subst (λ (q : Problem). reaches_goal q ks ≡ true → (are_picks c (picks_of q ks) ≡ true) × (are_of_kinds c (picks_of q ks) ≡ true) × (rule_is_true c (picks_of q ks) ≡ true)) (sym e) (sound_case c A ks) g in
          (a, k, r, g, same_picks (picks_of p ks) (picks_of p ks) (λ t m. m) (λ t m. m))

pub desk_filed : (input : List ℕ) (b : Plan) → answer input ≡ accepted b → Filed early (sheets input).question (sheets input).site b
unfolding answer answer_of checked_plan
desk_filed input b e =
    let (u, f, g) = bind_parts (refuse_if (ltb desk_bytes (length input)) 1 zero) _ b e in
    by_sheets (sheets input) (starts_with_step (lines (sheets input).rest)) g
  where
    by_sheets : (s : CaseSheets) (t : Bool) → (if t then checked_plan s.question s.site s.rest else plan early s.question s.site (as_text s.rest) desk_words desk_steps) ≡ accepted b → Filed early s.question s.site b
    by_sheets s true e = checked_filed early (omega arith) s.question s.site s.rest desk_words b e
    by_sheets s false e = plan_filed early (omega arith) s.question s.site (as_text s.rest) desk_words desk_steps b e
