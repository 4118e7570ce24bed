-- Document 01, "Refusal sheet": what each call returns, and what each lent buffer then holds.
use Rattle.std.specs.Prelude.{ℕ, zero, ◌+◌, ◌*◌, ◌/◌, ◌%◌, ◌^◌, Bool, not, ◌&&◌, ◌||◌, List, [], ◌∷◌, ◌++◌, map, length, drop, get_or, eqb, leb, ltb}
use Rattle.std.proofs.Math.Option.{Option, none, some}
use Rattle.definitions.specs.Limits.{CaseLimits, step_limit, every_limit}
use Rattle.definitions.specs.Lists.{Steps, Text, Words, any, filter, option, is_some, position, below, from, sum, flat_map}
use Rattle.definitions.specs.Refusal.{Result, refused, accepted, ◌>>=◌, refuse_if, given}
use Rattle.definitions.specs.Sheet.Relations.{Tuple}
use Rattle.definitions.specs.Sheet.Sheets.{Question, Label, read_question, read_site, read_picks, read_steps, first_chosen}
use Rattle.definitions.specs.Problem.Truth.{Case, every_tuples, rule_is_true, first_of_other_kind}
use Rattle.definitions.specs.Problem.Atoms.{Problem, problem_of, relation_at, tuples_of, places_of, atoms, words_for, bits_from, state_words}
use Rattle.definitions.specs.Problem.Actions.{Action, actions, action_at}
use Rattle.definitions.specs.Problem.Strips.{run, picks_of}
use Rattle.definitions.specs.Problem.Built.{is_picked, chosen_numbers, built_steps, bound}

-- ---- a reply in the paper's numbers: a refusal is its number and place; success is 0 and the step count, or 0 and 0 where no steps
-- are counted, and the numbers of what was asked for (of sizes they are its fields, of an action `Actions.action_kind` and the three
-- after it), which stay as they were where the call is refused
unfoldable pub reply_number : {A : Type 0} → Result A → ℕ
reply_number (refused k place) = k
reply_number (accepted a) = zero

unfoldable pub reply_place : Result ℕ → ℕ
reply_place (refused k place) = place
reply_place (accepted count) = count

unfoldable pub refusal_place : {A : Type 0} → Result A → ℕ
refusal_place (refused k place) = place
refusal_place (accepted a) = zero

unfoldable pub told : {A : Type 0} → (A → ℕ) → Result A → ℕ → ℕ
told f (refused k place) old = old
told f (accepted a) old = f a

-- ---- reading a case: the question, then the site; L are the limits of its size. The labels of its elements stand beside the case: a
-- text of picks is read by them, and the desk program prints them.
pub record CaseRead : Type 0 where
  pub case : Case
  pub labels : List Label

unfoldable pub read_filed : CaseLimits → Text → Text → Result CaseRead
read_filed L question site = do
  q ← read_question question
  s ← read_site L q.rels q.types site
  accepted (record { case = record { question = q; site = s.site }; labels = s.labels })

-- the case alone
unfoldable pub read_case : CaseLimits → Text → Text → Result Case
read_case L question site = read_filed L question site >>= λ r. accepted r.case

-- 11: too many atoms or actions; 23 after it: an `every` relation with too many tuples, or with too large a bound
unfoldable pub too_many_values : CaseLimits → Problem → Bool
too_many_values L p = is_some p.source.question.every && (ltb every_limit (every_tuples p.source) || ltb L.steps (bound p))

unfoldable pub ground : CaseLimits → Case → Result Problem
ground L c =
    let p = problem_of c in
    refuse_if (ltb L.atoms (atoms p) || ltb L.actions (actions p)) 11 zero >>= λ _. refuse_if (too_many_values L p) 23 zero >>= λ _. accepted p

-- what a call tests after 11 that takes no case with an `every` line: 23
unfoldable pub without_every : Case → Result (Unit {0})
without_every c = refuse_if (is_some c.question.every) 23 zero

unfoldable pub read_problem : CaseLimits → Text → Text → Result Problem
read_problem L question site = read_case L question site >>= ground L

-- ---- What every call begins with, and the order of its refusals: the question, the site, the third input (picks or steps, where
-- there is one), what is tested of the case before 11, 11 and 23, what is tested of it after that, the lent buffers.
pub record Ready (A : Type 0) : Type 0 where
  pub case : Case
  pub labels : List Label
  pub problem : Problem
  pub third : A

unfoldable pub asked : {A : Type 0} → CaseLimits → Text → Text → (CaseRead → Result A) → (early late : Case → Result (Unit {0})) → (Problem → Result (Unit {0})) → Result (Ready A)
asked L question site third early late rooms = do
  r ← read_filed L question site
  t ← third r
  _ ← early r.case
  p ← ground L r.case
  _ ← late r.case
  _ ← rooms p
  accepted (record { case = r.case; labels = r.labels; problem = p; third = t })

-- nothing is tested, or no third input is handed over
unfoldable pub nothing : {B : Type 0} → B → Result (Unit {0})
nothing b = accepted tt

-- 12: a lent buffer is too short; the place is the length that is needed
unfoldable pub room_for : ℕ → ℕ → Result (Unit {0})
room_for needed room = refuse_if (ltb room needed) 12 needed

unfoldable pub state_length : Problem → ℕ
state_length p = words_for (atoms p)

-- a buffer into whose front something is written; what lies past it stays
unfoldable pub written : List ℕ → List ℕ → List ℕ
written new old = new ++ drop (length new) old

-- ---- the rule's formula as a part of the question's own bytes, empty where the question is refused
pub record Span : Type 0 where
  pub start : ℕ
  pub len : ℕ

unfoldable pub span_of : Result Question → Span
span_of (refused k place) = record { start = zero; len = zero }
span_of (accepted q) = record { start = q.rule.at; len = length q.rule.text }

unfoldable pub rule_part : Text → Span
rule_part question = span_of (read_question question)

-- ---- sizes (n, atoms, actions, bound)
pub record Sizes : Type 0 where
  pub elements : ℕ
  pub atom_count : ℕ
  pub action_count : ℕ
  pub step_bound : ℕ

unfoldable pub sizes_of : Problem → Sizes
sizes_of p = record { elements = p.size; atom_count = atoms p; action_count = actions p; step_bound = bound p }

unfoldable pub sizes : CaseLimits → Text → Text → Result Sizes
sizes L question site = asked L question site nothing nothing nothing nothing >>= λ r. accepted (sizes_of r.problem)

-- ---- an action by its number; 13 and that number where there is none
unfoldable pub action : CaseLimits → Text → Text → ℕ → Result Action
action L question site k = asked L question site nothing nothing nothing nothing >>= λ r. given (action_at r.problem k) 13 k

-- ---- picks as words: the rows of each `choose` as bits, as a state's atoms are, every `choose` from a new word on

unfoldable pub relation_words : Problem → ℕ → ℕ
relation_words p r = words_for (tuples_of p.size (relation_at p r))

unfoldable pub picks_length : Problem → ℕ
picks_length p = sum (map (relation_words p) (chosen_numbers p))

unfoldable pub pick_words : Problem → List Tuple → Words
pick_words p picks = flat_map
    (λ r.
    map (λ j. bits_from (λ row. ltb row (tuples_of p.size (relation_at p r)) && is_picked p picks r row) (64 * j) 64) (below (relation_words p r)))
    (chosen_numbers p)

-- bit i of words
unfoldable pub bit_of : Words → ℕ → Bool
bit_of words i = eqb (get_or words (i / 64) 0 / 2 ^ (i % 64) % 2) 1

-- the tuples of one relation's words, of all relations' words
unfoldable pub relation_picks : Problem → Words → ℕ → List Tuple
relation_picks p words r = map (λ row. record { relation = r; places = places_of p.size (relation_at p r).arity row })
    (filter (bit_of words) (below (tuples_of p.size (relation_at p r))))

unfoldable pub lent_picks : Problem → Words → List ℕ → List Tuple
lent_picks p words [] = []
lent_picks p words (r ∷ rs) = relation_picks p words r ++ lent_picks p (drop (relation_words p r) words) rs

-- whether word j of a relation's words has a spare bit set; the first such word of all relations' words
unfoldable pub has_spare : Problem → Words → ℕ → ℕ → Bool
has_spare p words r j = any (λ i. leb (tuples_of p.size (relation_at p r)) i && bit_of words i) (from (64 * j) 64)

unfoldable pub spare_word : Problem → Words → ℕ → List ℕ → Option ℕ
spare_word p words start [] = none
spare_word p words start (r ∷ rs) = option (position (has_spare p words r) (below (relation_words p r)))
    (spare_word p (drop (relation_words p r) words) (start + relation_words p r) rs) (λ j. some (start + j))

-- ---- what is handed to a call: a text, or numbers
pub data ThirdInput : Type 0 where
  as_text : Text → ThirdInput
  as_numbers : List ℕ → ThirdInput

-- steps as a text, or lent: these are refused here only if they are too many
unfoldable pub take_steps : ThirdInput → Result Steps
take_steps (as_text text) = read_steps text
take_steps (as_numbers steps) = refuse_if (ltb step_limit (length steps)) 1 zero >>= λ _. accepted steps

unfoldable pub text_picks : Case → List Label → ThirdInput → Result (List Tuple)
text_picks c labels (as_text text) = read_picks c.question.chosen (first_chosen c.question) c.site.size labels text
text_picks c labels (as_numbers words) = accepted []

unfoldable pub picks_room : Problem → ThirdInput → Result (Unit {0})
picks_room p (as_text text) = accepted tt
picks_room p (as_numbers words) = room_for (picks_length p) (length words)

-- 10: a bit of lent picks is set that is no tuple's; the place is its word
unfoldable pub spare_refusal : Option ℕ → Result (Unit {0})
spare_refusal none = accepted tt
spare_refusal (some j) = refused 10 j

unfoldable pub take_picks : Problem → ThirdInput → List Tuple → Result (List Tuple)
take_picks p (as_text text) picks = accepted picks
take_picks p (as_numbers words) picks =
    spare_refusal (spare_word p words zero (chosen_numbers p)) >>= λ _. accepted (lent_picks p words (chosen_numbers p))

-- ---- checking steps

-- everything before the steps go one by one; `rooms` tests the lent buffers
unfoldable pub ready_to_run : CaseLimits → Text → Text → ThirdInput → (Problem → Result (Unit {0})) → Result (Ready Steps)
ready_to_run L question site steps rooms = asked L question site (λ _. take_steps steps) nothing nothing rooms

pub record Checked : Type 0 where
  pub answer : Result ℕ
  pub state : Words

unfoldable pub checked_from : Result (Ready Steps) → Words → Checked
checked_from (refused k place) state = record { answer = refused k place; state = state }
checked_from (accepted r) state =
    let ran = run r.problem r.third in
    record { answer = ran.answer; state = written (state_words r.problem ran.state) state }

unfoldable pub check_steps : CaseLimits → Text → Text → ThirdInput → Words → Checked
check_steps L question site steps state = checked_from (ready_to_run L question site steps (λ p. room_for (state_length p) (length state))) state

-- ---- reading picks from steps

pub record PicksRead : Type 0 where
  pub answer : Result ℕ
  pub picks : Words
  pub state : Words

unfoldable pub picks_if_accepted : Result ℕ → Words → Words → Words
picks_if_accepted (refused k place) new old = old
picks_if_accepted (accepted count) new old = written new old

unfoldable pub picks_read_from : Result (Ready Steps) → Words → Words → PicksRead
picks_read_from (refused k place) picks state = record { answer = refused k place; picks = picks; state = state }
picks_read_from (accepted r) picks state =
    let ran = run r.problem r.third in
    record {
      answer = ran.answer;
      picks = picks_if_accepted ran.answer (pick_words r.problem (picks_of r.problem r.third)) picks;
      state = written (state_words r.problem ran.state) state;
    }

unfoldable pub picks_from_steps : CaseLimits → Text → Text → ThirdInput → Words → Words → PicksRead
picks_from_steps L question site steps picks state = picks_read_from
    (ready_to_run L question site steps (λ p.
    room_for (picks_length p) (length picks) >>= λ _. room_for (state_length p) (length state))) picks state

-- ---- building steps from picks

-- 16: the place is the index of the first `choose` of which the picks are not
unfoldable pub kind_refusal : Option ℕ → Result (Unit {0})
kind_refusal none = accepted tt
kind_refusal (some i) = refused 16 i

-- the picks that are taken, of the declared kinds, and of which the rule is true: 10, 16, 17
unfoldable pub satisfying : Case → Problem → ThirdInput → List Tuple → Result (List Tuple)
satisfying c p picks read = do
  tuples ← take_picks p picks read
  _ ← kind_refusal (first_of_other_kind c tuples)
  _ ← refuse_if (not (rule_is_true c tuples)) 17 zero
  accepted tuples

pub record Plan : Type 0 where
  pub labels : List Label
  pub problem : Problem
  pub picks : List Tuple
  pub steps : Steps

-- The refusals of building in their order: the texts, 11, 23, 12 (lent picks, state, steps; the steps need the bound), 10, 16, 17.
unfoldable pub plan : CaseLimits → Text → Text → ThirdInput → ℕ → ℕ → Result Plan
plan L question site picks stateRoom stepsRoom = do
  r ← asked L question site (λ c. text_picks c.case c.labels picks) nothing nothing (λ p. picks_room p picks >>= λ _. room_for (state_length p) stateRoom >>= λ _. room_for (bound p) stepsRoom)
  tuples ← satisfying r.case r.problem picks r.third
  accepted (record { labels = r.labels; problem = r.problem; picks = tuples; steps = built_steps r.problem tuples })

pub record StepsBuilt : Type 0 where
  pub answer : Result ℕ
  pub state : Words
  pub steps : Steps

unfoldable pub built_from : Result Plan → Words → Steps → StepsBuilt
built_from (refused k place) state steps = record { answer = refused k place; state = state; steps = steps }
built_from (accepted b) state steps =
    record {
      answer = accepted (length b.steps);
      state = written (state_words b.problem (run b.problem b.steps).state) state;
      steps = written b.steps steps;
    }

unfoldable pub build_steps : CaseLimits → Text → Text → ThirdInput → Words → Steps → StepsBuilt
build_steps L question site picks state steps = built_from (plan L question site picks (length state) (length steps)) state steps
