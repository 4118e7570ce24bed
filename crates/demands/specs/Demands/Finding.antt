-- Document 02, job 7, section 20 of the demands: picks found.
use Rattle.std.specs.Prelude.{ℕ, ◌^◌, ◌<◌, ◌≤◌, ◌≡◌, ◌↔◌, true, length, drop}
use Rattle.std.proofs.Common.{sym, ap, subst, ◌∙◌}
use Rattle.std.proofs.Math.Option.{none, some}
use mathlib.Core.List.{List, ◌++◌}
use Rattle.definitions.specs.Limits.{CaseLimits, step_limit, cell_limit}
use Rattle.definitions.specs.Lists.{is_in}
use Rattle.definitions.specs.Refusal.{Result, refused, accepted, ready_numbers, find_numbers}
use Rattle.definitions.specs.Sheet.Relations.{Relation, Tuple, is_among}
use Rattle.definitions.specs.Sheet.Sheets.{Label}
use Rattle.definitions.specs.Problem.Truth.{Case, is_pick, are_picks, are_of_kinds, rule_is_true}
use Rattle.definitions.specs.Problem.Atoms.{Problem, problem_of}
use Rattle.definitions.specs.Problem.Strips.{reaches_goal, picks_of}
use Rattle.definitions.specs.Problem.Built.{built_steps}
use Rattle.definitions.specs.Reply.Outcome.{read_filed, ground, read_problem}
use Rattle.definitions.specs.Reply.Outcome.{written, picks_length, pick_words, ThirdInput, as_numbers}
use Rattle.definitions.specs.Reply.Demand.{are_same_picks}
use Rattle.definitions.specs.Reply.Judgement.{judge}
use Rattle.definitions.specs.Reply.Finding.{cells, numbered, find}
use Rattle.laws.specs.Reader
use Reader.{Accepted}
use Rattle.demands.specs.Judging
use Rattle.demands.specs.Finds
use Rattle.demands.specs.Demands

-- For every limits of at most 64 elements, with no more atoms and no larger a bound than steps may be handed over, and every question and site
-- that are accepted under them: c is the case read from the two texts, with its labels, and p its numbered problem.
module _ (L : CaseLimits) (few : L.elements ≤ 64) (lendable : L.atoms ≤ step_limit) (handed : L.steps ≤ step_limit) (question site : List ℕ) (c : Case) (labels : List Label) (p : Problem)
    (is_filed : read_filed L question site ≡ accepted (record { case = c; labels = labels })) (is_problem : read_problem L question site ≡ accepted p) where
  -- (what the proofs in this module start from)
  same_problem : p ≡ problem_of c
  same_problem = Demands.same_problem L few lendable handed question site c labels p is_filed is_problem

  grounds : ground L c ≡ accepted p
  grounds = Demands.grounds L few lendable handed question site c labels p is_filed is_problem

  A : Accepted c
  A = Demands.A L few lendable handed question site c labels p is_filed is_problem

  grounds_case : ground L c ≡ accepted (problem_of c)
  grounds_case = grounds ∙ ap accepted same_problem

  -- (the picks that are taken)
  abbrev taken : ThirdInput → Result (List Tuple)
  taken = Demands.taken L few lendable handed question site c labels p is_filed is_problem

  -- ---- 20, document 02, job 7. The cells are the tuples that may be picked; a number's picks are some of them, a set of picks;
  pub cells_are : (t : Tuple) → (is_among t (cells p) ≡ true) ↔ (is_pick c t ≡ true)
  cells_are = rw same_problem (Finds.cells_are c A)

  pub numbered_picks : (m : ℕ) → are_picks c (numbered (cells p) m) ≡ true
  numbered_picks = rw same_problem (Finds.numbered_picks c A)

  -- every set of picks is that of a number, and of one only.
  pub has_number : (picks : List Tuple) → are_picks c picks ≡ true → (m : ℕ) × (m < 2 ^ length (cells p)) × (are_same_picks (numbered (cells p) m) picks ≡ true)
  has_number = rw same_problem (Finds.has_number c A)

  pub one_number_lem : (m k : ℕ) → m < 2 ^ length (cells p) → k < 2 ^ length (cells p) → are_same_picks (numbered (cells p) m) (numbered (cells p) k) ≡ true → m ≡ k
  one_number_lem = rw same_problem (Finds.one_number_lem c A)

  -- Whenever finding succeeds, its place is 0, and it leaves the words of the picks of a number: these are of the declared kinds, the
  -- rule is true of them, and the picks of no smaller number are so.
  abbrev Solution : List Tuple → Type 0
  Solution picks = (are_picks c picks ≡ true) × (are_of_kinds c picks ≡ true) × (rule_is_true c picks ≡ true)

  pub found_least : (old : List ℕ) (k : ℕ) → (find L question site old).answer ≡ accepted k
      → (k ≡ 0) × (m : ℕ) × (m < 2 ^ length (cells p)) × Solution (numbered (cells p) m) × ((j : ℕ) → j < m → Solution (numbered (cells p) j) → ⊥)
      × ((find L question site old).picks ≡ written (pick_words p (numbered (cells p) m)) old)
  found_least = rw same_problem (λ old k e. let (z, m, h, w) = Finds.finds_least c A L question site old labels is_filed grounds_case k e in (z, m, h.below_all, h.solves, h.no_less, w))

  -- It succeeds exactly if there is no `every` line, the buffer is long enough, there are few enough cells, and some picks of the declared kinds make
  -- the rule true;
  pub finds : (old : List ℕ) → ((find L question site old).answer ≡ accepted 0) ↔ ((c.question.every ≡ none) × (picks_length p ≤ length old) × (length (cells p) ≤ cell_limit) × ((picks : List Tuple) × Solution picks))
  finds = rw same_problem (λ old. let (f, g) = Finds.finds c A L question site old labels is_filed grounds_case in (λ e. let ((u, r, l), s) = f e in (u, r, l, s), λ h. g ((h.0, h.1, h.2), h.3)))

  -- it is 21 exactly if there is no such line, the buffer is long enough, there are few enough cells, and no picks of the declared kinds make the rule
  -- true;
  pub finds_none : (old : List ℕ) → ((find L question site old).answer ≡ refused 21 0) ↔ ((c.question.every ≡ none) × (picks_length p ≤ length old) × (length (cells p) ≤ cell_limit) × ((picks : List Tuple) → Solution picks → ⊥))
  finds_none = rw same_problem (λ old. let (f, g) = Finds.finds_none c A L question site old labels is_filed grounds_case in (λ e. let ((u, r, l), s) = f e in (u, r, l, s), λ h. g ((h.0, h.1, h.2), h.3)))

  -- 20 exactly if there is none, the buffer is long enough and there are more cells than are searched; and 12 where there is none and the buffer is
  -- too short.
  pub finds_many : (old : List ℕ) → ((find L question site old).answer ≡ refused 20 0) ↔ ((c.question.every ≡ none) × (picks_length p ≤ length old) × (cell_limit < length (cells p)))
  finds_many = rw same_problem (λ old. Finds.finds_many c A L question site old labels is_filed grounds_case)

  pub finds_short : c.question.every ≡ none → (old : List ℕ) → length old < picks_length p → (find L question site old).answer ≡ refused 12 (picks_length p)
  finds_short = rw same_problem (λ plain old. Finds.finds_short c A L question site old labels is_filed grounds_case plain)

  -- With an `every` line it is 23, and the buffer stays as it was.
  pub finds_every : (k : Relation) → c.question.every ≡ some k → (old : List ℕ) → find L question site old ≡ record { answer = refused 23 0; picks = old }
  finds_every k e old = Finds.finds_every c A L question site old labels is_filed grounds_case k e

  -- By 1 this speaks of steps too: where it is 21, no step list reaches the goal, and where it succeeds, the steps built from what it
  -- leaves do.
  pub found_steps : c.question.every ≡ none → (old : List ℕ) → picks_length p ≤ length old → length (cells p) ≤ cell_limit → ((find L question site old).answer ≡ refused 21 0) ↔ ((steps : List ℕ) → reaches_goal p steps ≡ true → ⊥)
  found_steps plain old r l = (
    (λ e steps g. let (a, k, t) = Demands.sound L few lendable handed question site c labels p is_filed is_problem steps g in ((finds_none old).0 e).3 (picks_of p steps) (a, k, t)),
    (λ h. (finds_none old).1 (plain, r, l, λ picks s. let (a, k, t) = s in h (built_steps p picks) (Demands.complete L few lendable handed question site c labels p is_filed is_problem picks a k t).0)),
  )

  -- What it leaves, lent as it is, is judged with a yes.
  pub found_judged : (old : List ℕ) (k : ℕ) → (find L question site old).answer ≡ accepted k → judge L question site (as_numbers (find L question site old).picks) ≡ accepted 0
  unfolding written
  found_judged old k e =
      let (z, m, l, s, least, w) = found_least old k e in
      let F = numbered (cells p) m in
      let (again, t, same) = Demands.words_taken L few lendable handed question site c labels p is_filed is_problem F (drop (length (pick_words p F)) old) s.0 in
      let (kinds, rule) = Finds.same_solve c A again F same s.1 s.2 in
      Judging.judged_yes L question site (as_numbers (find L question site old).picks) c labels p again is_filed grounds (subst (λ (x : List ℕ). taken (as_numbers x) ≡ accepted again) (sym w) t) kinds rule

-- Whatever is handed over:
module _ (L : CaseLimits) (question site : List ℕ) where
  -- Finding: every refusal leaves the picks' buffer as it was.
  pub find_refuse : (old : List ℕ) (k place : ℕ) → (find L question site old).answer ≡ refused k place → (is_in k (ready_numbers ++ find_numbers) ≡ true) × ((find L question site old).picks ≡ old)
  find_refuse old k place e = Finds.find_refuse L question site old k place e

  pub find_length : (old : List ℕ) → length (find L question site old).picks ≡ length old
  find_length old = Finds.find_length L question site old
