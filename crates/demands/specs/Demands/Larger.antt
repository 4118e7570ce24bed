-- Document 02, job 10, section 15 of the demands: larger limits.
use Prim.Native.Nat.{ℕ, zero, ◌<◌, ◌≤◌}
use Rattle.std.specs.Prelude.{◌≡◌, refl, not, ltb, length}
use Rattle.std.proofs.Common.{sym, ◌∙◌, arith}
use Rattle.std.proofs.Math.Path.{ap}
use mathlib.Core.List.{List, map}
use Rattle.definitions.specs.Limits.{CaseLimits, usual, early, step_limit, text_limit, desk_bytes, desk_steps}
use Rattle.definitions.specs.Sheet.Text.{Line, lines}
use Rattle.definitions.specs.Reply.Desk.{sheets}
use Rattle.definitions.specs.Refusal.{Result, refused, accepted, ◌>>=◌, refuse_if, given, read_lines, read_text}
use Rattle.definitions.specs.Sheet.Relations.{Tuple}
use Rattle.definitions.specs.Sheet.Sheets.{read_steps}
use Rattle.definitions.specs.Problem.Truth.{Case, rule_is_true}
use Rattle.definitions.specs.Problem.Atoms.{Problem, problem_of}
use Rattle.definitions.specs.Problem.Actions.{action_at, action_number}
use Rattle.definitions.specs.Problem.Built.{built_steps}
use Rattle.definitions.specs.Reply.Outcome.{sizes, action, read_case, read_problem, nothing}
use Rattle.definitions.specs.Reply.Outcome.{pick_words, ThirdInput, as_numbers}
use Rattle.definitions.specs.Reply.Outcome.{take_steps, text_picks, ready_to_run, checked_from, check_steps}
use Rattle.definitions.specs.Reply.Outcome.{picks_read_from, picks_from_steps, plan, built_from, build_steps, Ready, sizes_of}
use Rattle.definitions.specs.Reply.Outcome.{satisfying, without_every}
use Rattle.definitions.specs.Reply.Layers.{case_window, built_layers, take_layers, window_of, layers_checked_from, check_layers, layered_plan, layers_built_from, build_layers}
use Rattle.definitions.specs.Reply.Tally.{tally_of, tally}
use Rattle.definitions.specs.Reply.Page.{paged_from, lay_page}
use Rattle.definitions.specs.Reply.Allowance.{allowed_from, allowances}
use Rattle.definitions.specs.Reply.Tries.{Try, try_lists, ready_to_try, tried_from}
use Rattle.definitions.specs.Reply.Judgement.{judge}
use Rattle.definitions.specs.Reply.Finding.{cells, least_picks, found_words, found_from, find}
use Rattle.definitions.specs.Reply.Monotone.{only_wants_more, monotone}
use Rattle.demands.specs.Short
use Rattle.demands.specs.Wider

-- ---- 15, limits: a case that is accepted is the same problem by larger limits, and each call answers about it as before.
module _ (L M : CaseLimits) (larger : Wider.Wider L M) (question site : List ℕ) (p : Problem) (is_problem : read_problem L question site ≡ accepted p) where
  pub kept_problem : read_problem M question site ≡ accepted p
  kept_problem = Wider.problem_wider L M larger question site p is_problem

  pub kept_sizes : sizes L question site ≡ sizes M question site
  unfolding sizes
  kept_sizes = ap (λ (r : Result (Ready (Unit {0}))). r >>= λ x. accepted (sizes_of x.problem)) (Wider.asked_wider L M larger question site p is_problem nothing nothing nothing nothing)

  pub kept_action : (k : ℕ) → action L question site k ≡ action M question site k
  unfolding action
  kept_action k = ap (λ (r : Result (Ready (Unit {0}))). r >>= λ x. given (action_at x.problem k) 13 k) (Wider.asked_wider L M larger question site p is_problem nothing nothing nothing nothing)

  pub kept_check : (steps : ThirdInput) (state : List ℕ) → check_steps L question site steps state ≡ check_steps M question site steps state
  unfolding check_steps ready_to_run
  kept_check steps state = ap (λ (r : Result (Ready (List ℕ))). checked_from r state) (Wider.asked_wider L M larger question site p is_problem (λ _. take_steps steps) nothing nothing _)

  pub kept_read : (steps : ThirdInput) (picks state : List ℕ) → picks_from_steps L question site steps picks state ≡ picks_from_steps M question site steps picks state
  unfolding picks_from_steps ready_to_run
  kept_read steps picks state = ap (λ (r : Result (Ready (List ℕ))). picks_read_from r picks state) (Wider.asked_wider L M larger question site p is_problem (λ _. take_steps steps) nothing nothing _)

  pub kept_build : (picks : ThirdInput) (state steps : List ℕ) → build_steps L question site picks state steps ≡ build_steps M question site picks state steps
  unfolding build_steps plan
  kept_build picks state steps = ap
      (λ (r : Result (Ready (List Tuple))). built_from (r >>= λ x. satisfying x.case x.problem picks x.third >>= λ F. accepted (record { labels = x.labels; problem = x.problem; picks = F; steps = built_steps x.problem F })) state steps)
      (Wider.asked_wider L M larger question site p is_problem (λ c. text_picks c.case c.labels picks) nothing nothing _)

  pub kept_judgement : (picks : ThirdInput) → judge L question site picks ≡ judge M question site picks
  unfolding judge
  kept_judgement picks = ap (λ (r : Result (Ready (List Tuple))). r >>= λ x. satisfying x.case x.problem picks x.third >>= λ _. accepted zero) (Wider.asked_wider L M larger question site p is_problem (λ c. text_picks c.case c.labels picks) nothing nothing _)

  pub kept_tries : (steps : List ℕ) (tries : List Try) (state : List ℕ) → try_lists L question site steps tries state ≡ try_lists M question site steps tries state
  unfolding try_lists ready_to_try
  kept_tries steps tries state = ap (λ (r : Result (Ready (Unit {0}))). tried_from r steps tries state) (Wider.asked_wider L M larger question site p is_problem nothing nothing nothing _)

  pub kept_allowances : (old : List ℕ) → allowances L question site old ≡ allowances M question site old
  unfolding allowances
  kept_allowances old = ap (λ (r : Result (Ready (Unit {0}))). allowed_from r old) (Wider.asked_wider L M larger question site p is_problem nothing nothing without_every _)

  pub kept_window : window_of L question site ≡ window_of M question site
  unfolding window_of
  kept_window = ap (λ (r : Result (Ready (Unit {0}))). r >>= λ x. accepted (case_window x.problem)) (Wider.asked_wider L M larger question site p is_problem nothing nothing without_every nothing)

  pub kept_check_layers : (steps ends state : List ℕ) → check_layers L question site steps ends state ≡ check_layers M question site steps ends state
  unfolding check_layers
  kept_check_layers steps ends state = ap (λ (r : Result (Ready (List (List ℕ)))). layers_checked_from r state) (Wider.asked_wider L M larger question site p is_problem (λ _. take_layers steps ends) nothing without_every _)

  pub kept_build_layers : (picks : ThirdInput) (state steps ends : List ℕ) → build_layers L question site picks state steps ends ≡ build_layers M question site picks state steps ends
  unfolding build_layers layered_plan
  kept_build_layers picks state steps ends = ap
      (λ (r : Result (Ready (List Tuple))). layers_built_from (r >>= λ x. satisfying x.case x.problem picks x.third >>= λ F. accepted (record { problem = x.problem; picks = F; layers = map (map (action_number x.problem)) (built_layers x.problem F) })) state steps ends)
      (Wider.asked_wider L M larger question site p is_problem (λ c. text_picks c.case c.labels picks) nothing without_every _)

  pub kept_page : (steps : ThirdInput) (m : ℕ) (state page : List ℕ) → lay_page L question site steps m state page ≡ lay_page M question site steps m state page
  unfolding lay_page ready_to_run
  kept_page steps m state page = ap (λ (r : Result (Ready (List ℕ))). paged_from r m state page) (Wider.asked_wider L M larger question site p is_problem (λ _. take_steps steps) nothing nothing _)

  pub kept_found : (old : List ℕ) → find L question site old ≡ find M question site old
  unfolding find found_words
  kept_found old = ap (λ (r : Result (Ready (Unit {0}))). found_from (r >>= λ x. least_picks x.case (cells x.problem) >>= λ F. accepted (pick_words x.problem F)) old) (Wider.asked_wider L M larger question site p is_problem nothing nothing without_every _)

  pub kept_monotone : monotone L question site ≡ monotone M question site
  unfolding monotone
  kept_monotone = ap
      (λ (r : Result (Ready (Unit {0}))). r >>= λ x. refuse_if (not (only_wants_more x.case.question)) 24 zero >>= λ _. refuse_if (not (rule_is_true x.case (cells x.problem))) 21 zero >>= λ _. accepted zero)
      (Wider.asked_wider L M larger question site p is_problem nothing nothing nothing nothing)

-- Of a case that is read, be it over the limits of 11 or not, larger limits keep what the walk counts.
pub kept_tally : (L M : CaseLimits) → Wider.Wider L M → (question site : List ℕ) (c : Case) → read_case L question site ≡ accepted c → tally L question site ≡ tally M question site
unfolding tally
kept_tally L M larger question site c e = ap (λ (r : Result Case). r >>= λ x. accepted (tally_of (problem_of x))) (e ∙ sym (Wider.case_wider L M larger question site c e))

-- Document 02, job 10: so every case of document 01 is the same problem by the limits that are usual now, and is answered as before.
pub grown : Wider.Wider early usual
grown = record { elements = omega arith; atoms = omega arith; actions = omega arith; steps = omega arith }

-- These are the limits: of document 02, of document 01, and the desk program's own.
pub limits_are : (usual ≡ record { elements = 64; atoms = 1048576; actions = 4194304; steps = 1048576 }) × (text_limit ≡ 1048576) × (step_limit ≡ 1048576)
    × (early ≡ record { elements = 16; atoms = 65536; actions = 131072; steps = 65536 }) × (desk_bytes ≡ 16384) × (desk_steps ≡ 8192)
limits_are = (refl, refl, refl, refl, refl, refl)

-- The limits of a text's bytes and of a list's steps stand in no record. Each is asked in one place; by a smaller one, what is within it is
-- read there just so.
pub kept_text : {S : Type 0} (line : S → Line → Result S) (s : S) (limit : ℕ) → limit ≤ text_limit → (text : List ℕ) → length text ≤ limit → read_text line s text ≡ (refuse_if (ltb limit (length text)) 1 zero >>= λ _. read_lines line s (lines text))
kept_text line s limit h text l = Short.text_kept line s limit h text l

pub kept_steps : (limit : ℕ) → limit ≤ step_limit → (steps : List ℕ) → length steps ≤ limit → take_steps (as_numbers steps) ≡ (refuse_if (ltb limit (length steps)) 1 zero >>= λ _. accepted steps)
kept_steps limit h steps l = Short.steps_kept limit h steps l

-- One byte more than a text may have, or one lent step more, is 1.
pub long_text : {S : Type 0} (line : S → Line → Result S) (s : S) (text : List ℕ) → text_limit < length text → read_text line s text ≡ refused 1 0
long_text line s text h = Short.text_long line s text h

pub many_steps : (steps : List ℕ) → step_limit < length steps → take_steps (as_numbers steps) ≡ refused 1 0
many_steps steps h = Short.lent_many steps h

-- The desk program meets neither: no sheet of an input that it reads, and no list of steps on one, is longer than that input.
pub desk_limits : (input : List ℕ) → length input ≤ desk_bytes → (length (sheets input).question ≤ desk_bytes) × (length (sheets input).site ≤ desk_bytes) × (length (sheets input).rest ≤ desk_bytes)
desk_limits input h = Short.sheets_short input desk_bytes h

pub desk_steps_lem : (input steps : List ℕ) → length input ≤ desk_bytes → read_steps (sheets input).rest ≡ accepted steps → length steps ≤ desk_bytes
desk_steps_lem input steps h e = let (q, s, r) = Short.sheets_short input desk_bytes h in omega (arith, r, Short.steps_fewer (sheets input).rest steps e)
