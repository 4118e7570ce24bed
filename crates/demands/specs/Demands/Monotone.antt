-- Document 02, job 13, section 21 of the demands: rules that only ever want more.
use Rattle.std.specs.Prelude.{ℕ, ◌≤◌, ◌≡◌, ◌↔◌, true, false, List, ◌++◌}
use Rattle.std.proofs.Common.{ap, ◌∙◌}
use Rattle.std.proofs.Math.Option.{some}
use Rattle.definitions.specs.Limits.{CaseLimits, step_limit}
use Rattle.definitions.specs.Lists.{is_in}
use Rattle.definitions.specs.Refusal.{refused, accepted, case_numbers, monotone_numbers}
use Rattle.definitions.specs.Sheet.Relations.{Relation, Tuple}
use Rattle.definitions.specs.Sheet.Sheets.{Label}
use Rattle.definitions.specs.Problem.Truth.{Case, are_picks, are_of_kinds, rule_is_true}
use Rattle.definitions.specs.Problem.Atoms.{Problem, problem_of}
use Rattle.definitions.specs.Problem.Strips.{reaches_goal}
use Rattle.definitions.specs.Reply.Outcome.{read_filed, ground, read_problem}
use Rattle.definitions.specs.Reply.Finding.{cells}
use Rattle.definitions.specs.Reply.Monotone.{only_wants_more, monotone}
use Rattle.laws.specs.Reader
use Reader.{Accepted}
use Rattle.laws.specs.Refusals
use Rattle.demands.specs.WantsMore
use Rattle.demands.specs.Demands

-- For every limits of at most 64 elements, with no more atoms and no larger a bound than steps may be handed over, and every question and site
-- that are accepted under them: c is the case read from the two texts, with its labels, and p its numbered problem.
module _ (L : CaseLimits) (few : L.elements ≤ 64) (lendable : L.atoms ≤ step_limit) (handed : L.steps ≤ step_limit) (question site : List ℕ) (c : Case) (labels : List Label) (p : Problem)
    (is_filed : read_filed L question site ≡ accepted (record { case = c; labels = labels })) (is_problem : read_problem L question site ≡ accepted p) where
  -- (what the proofs in this module start from)
  same_problem : p ≡ problem_of c
  same_problem = Demands.same_problem L few lendable handed question site c labels p is_filed is_problem

  grounds : ground L c ≡ accepted p
  grounds = Demands.grounds L few lendable handed question site c labels p is_filed is_problem

  A : Accepted c
  A = Demands.A L few lendable handed question site c labels p is_filed is_problem

  grounds_case : ground L c ≡ accepted (problem_of c)
  grounds_case = grounds ∙ ap accepted same_problem

  -- (picks that meet the rule)
  abbrev Solution : List Tuple → Type 0
  Solution picks = (are_picks c picks ≡ true) × (are_of_kinds c picks ≡ true) × (rule_is_true c picks ≡ true)

  -- ---- 21, document 02, job 13. Where there is no `every` line, each `choose` is plain and none is negated, some picks of the declared kinds make the rule true
  -- exactly if all tuples picked do.
  pub all_or_none : only_wants_more c.question ≡ true → ((picks : List Tuple) × Solution picks) ↔ (rule_is_true c (cells p) ≡ true)
  all_or_none = rw same_problem (WantsMore.all_or_none c A)

  -- The call says yes exactly if the case is of this profile and some picks do; 21 exactly if it is and none do; else 24.
  pub wants_some : (monotone L question site ≡ accepted 0) ↔ ((only_wants_more c.question ≡ true) × ((picks : List Tuple) × Solution picks))
  wants_some = WantsMore.wants_some c A L question site labels is_filed grounds_case

  pub wants_none : (monotone L question site ≡ refused 21 0) ↔ ((only_wants_more c.question ≡ true) × ((picks : List Tuple) → Solution picks → ⊥))
  wants_none = WantsMore.wants_none c A L question site labels is_filed grounds_case

  pub wants_else : (monotone L question site ≡ refused 24 0) ↔ (only_wants_more c.question ≡ false)
  wants_else = WantsMore.wants_else c A L question site labels is_filed grounds_case

  -- So with an `every` line it is 24.
  pub wants_every : (k : Relation) → c.question.every ≡ some k → monotone L question site ≡ refused 24 0
  wants_every = WantsMore.wants_every c A L question site labels is_filed grounds_case

  -- By 1, a yes is one exactly if some step list reaches the goal.
  pub wanted_steps : only_wants_more c.question ≡ true → (monotone L question site ≡ accepted 0) ↔ ((steps : List ℕ) × (reaches_goal p steps ≡ true))
  wanted_steps w = (
    (λ e. let (picks, s) = (wants_some.0 e).1 in (Demands.existence L few lendable handed question site c labels p is_filed is_problem).0 (picks, s.0, s.1, s.2)),
    (λ h. let (picks, a, k, r) = (Demands.existence L few lendable handed question site c labels p is_filed is_problem).1 h in wants_some.1 (w, (picks, (a, k, r)))),
  )

-- Whatever is handed over:
module _ (L : CaseLimits) (question site : List ℕ) where
  -- Asking writes nothing, and refuses with these numbers.
  pub monotone_refuse : (k place : ℕ) → monotone L question site ≡ refused k place → is_in k (case_numbers ++ monotone_numbers) ≡ true
  monotone_refuse k place e = Refusals.monotone_refuse L question site k place e
