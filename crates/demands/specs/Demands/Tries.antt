-- Document 02, job 8, section 11 of the demands: many step lists of one case, in one call.
use Rattle.std.specs.Prelude.{ℕ, ◌+◌, ◌<◌, ◌≤◌, ◌≡◌, ◌↔◌, true, List, map, ltb, length, take, drop, if◌then◌else◌}
use Rattle.std.proofs.Math.Path.{ap}
use Rattle.definitions.specs.Limits.{CaseLimits, step_limit}
use Rattle.definitions.specs.Lists.{is_in}
use Rattle.definitions.specs.Refusal.{Result, refused, accepted, ready_numbers}
use Rattle.definitions.specs.Sheet.Sheets.{Label}
use Rattle.definitions.specs.Problem.Truth.{Case}
use Rattle.definitions.specs.Problem.Atoms.{Problem, initial, state_words}
use Rattle.definitions.specs.Problem.Strips.{reaches_goal}
use Rattle.definitions.specs.Reply.Outcome.{reply_number, reply_place, read_filed, read_problem}
use Rattle.definitions.specs.Reply.Outcome.{state_length, written, as_numbers}
use Rattle.definitions.specs.Reply.Outcome.{check_steps}
use Rattle.definitions.specs.Reply.Tries.{Try, tried, try_lists}
use Rattle.demands.specs.Trying

-- For every limits of at most 64 elements, with no more atoms and no larger a bound than steps may be handed over, and every question and site
-- that are accepted under them: c is the case read from the two texts, with its labels, and p its numbered problem.
module _ (L : CaseLimits) (few : L.elements ≤ 64) (lendable : L.atoms ≤ step_limit) (handed : L.steps ≤ step_limit) (question site : List ℕ) (c : Case) (labels : List Label) (p : Problem)
    (is_filed : read_filed L question site ≡ accepted (record { case = c; labels = labels })) (is_problem : read_problem L question site ≡ accepted p) where
  -- ---- 11, many step lists of one case, in one call: it answers 0 and place 0, every record gets its list's reply, and the initial
  -- state is left;
  pub trying : (steps : List ℕ) (tries : List Try) (state : List ℕ) → state_length p ≤ length state
      → try_lists L question site steps tries state ≡ record { answer = accepted 0; tries = map (tried p steps) tries; state = written (state_words p (initial p)) state }
  trying steps tries state room = Trying.trying L question site p is_problem state room steps tries

  -- a record keeps its list, and one within the lent steps gets what a check of that list alone answers, as if it were lent by itself;
  pub tries_alone : (steps : List ℕ) (t : Try) (state : List ℕ) → state_length p ≤ length state → t.first + t.len ≤ length steps
      → let alone = (check_steps L question site (as_numbers (take t.len (drop t.first steps))) state).answer in
      tried p steps t ≡ record { first = t.first; len = t.len; number = reply_number alone; place = reply_place alone }
  unfolding tried
  tries_alone steps t state room h = ap (λ (r : Result ℕ). record { first = t.first; len = t.len; number = reply_number r; place = reply_place r }) (Trying.alone L question site p is_problem state room steps t.first t.len h)

  -- any other is 1 or 12;
  pub tries_outside : (steps : List ℕ) (t : Try) → length steps < t.first + t.len
      → tried p steps t ≡ record { first = t.first; len = t.len; number = if ltb step_limit t.len then 1 else 12; place = if ltb step_limit t.len then 0 else t.first + t.len }
  tries_outside steps t h = Trying.outside p steps t h

  -- so a record has 0 exactly if its list is short enough, lies within the lent steps and reaches the goal, and then its place is the
  -- length of the list.
  pub tries_accepts : (steps : List ℕ) (t : Try) → ((tried p steps t).number ≡ 0) ↔ ((t.len ≤ step_limit) × (t.first + t.len ≤ length steps) × (reaches_goal p (take t.len (drop t.first steps)) ≡ true))
  unfolding tried
  tries_accepts steps t = Trying.accepts p steps t.first t.len

  pub tries_place : (steps : List ℕ) (t : Try) → (tried p steps t).number ≡ 0 → (tried p steps t).place ≡ t.len
  unfolding tried
  tries_place steps t e = Trying.place_is p steps t.first t.len e

-- Whatever is handed over:
module _ (L : CaseLimits) (question site : List ℕ) where
  -- Many step lists: every refusal of the call leaves the records and the state's buffer as they were.
  pub tries_refuse : (steps : List ℕ) (tries : List Try) (state : List ℕ) (k place : ℕ) → (try_lists L question site steps tries state).answer ≡ refused k place
      → (is_in k ready_numbers ≡ true) × ((try_lists L question site steps tries state).tries ≡ tries) × ((try_lists L question site steps tries state).state ≡ state)
  tries_refuse steps tries state k place e = Trying.tries_refuse L question site steps tries state k place e

  pub tries_length : (steps : List ℕ) (tries : List Try) (state : List ℕ) → (length (try_lists L question site steps tries state).tries ≡ length tries) × (length (try_lists L question site steps tries state).state ≡ length state)
  tries_length steps tries state = Trying.tries_length L question site steps tries state
