-- The theorems, about document 01's definitions alone: demands 2 and 3, what holds numbering, texts and lent words together, and what
-- of demand 1 is about definitions. Here are those about document 01; each job of document 02 has a file of its own in `Demands/`.
-- A word of document 01 stands here under the name that `definitions` gives it; the proofs are in the other modules.
-- Here (but for `built_exactly`, `degree` and `site_texts`, which stand in proofs/Demands under the numbers that they have here):
--       accepted_case, accepted_checks
--    1  existence
--    2  acceptance, lent_steps, checking, checking_accepts
--    3  soundness, tuples_set, reading; whenever_checked, whenever_read
--    4  text_picks_lem, lent_picks_lem, taken_picks; building, refused_16, refused_17, built_exactly; whenever_built, order_kinds, order_rule, order_steps, order_built,
--       built_accepted, built_same, built_read
--    5  count, at_most, count_plain, count_most
--    6  polynomial, degree
--    7  strips_1, never_twice
--    8  atom_number_lem, atoms_numbered, atoms_used, action_number_lem, actions_numbered; state_bit, state_spare, words_taken, words_written;
--       picks_texts, picks_said, picks_unlabelled, picks_printed; question_texts, site_texts, case_texts, number_texts, steps_texts
--    9  sizes_refuse, action_refuse, check_refuse, read_refuse, build_refuse; check_length, read_length, build_length
--   10  desk_records, desk_picks
-- In `Demands/`, by job:
--   Labels, job 1
--   16  labels_one_to_one, labels_are, said_label, said_number, said_pick; rewritten_case, rewritten_problem, rewritten_sizes,
--       rewritten_tally, rewritten_action, rewritten_check,
--       rewritten_read, rewritten_build, rewritten_judgement, rewritten_tries, rewritten_allowances, rewritten_found,
--       rewritten_monotone, rewritten_window, rewritten_check_layers, rewritten_build_layers; rewritten_picks, rewritten_build_text,
--       rewritten_layers_text, rewritten_judgement_text
--   Layers, job 2
--   23  layer_means, disturbs_means; window_is, checking_layers, flat, low_layers, layers_every, layers_plain; building_layers,
--       built_layers_lem, built_within, built_checked, same_steps, layers_exactly; window_refuse, layers_check_refuse, layers_check_length,
--       layers_build_refuse, layers_build_length
--   Tally, job 3
--   13  visited_are, visited_once, tallied, sizes_tallied
--   Types, job 4
--   17  rule_texts, rule_once; rule_typed, types_are, members_are, each_member, range_is, range_ascends; exists_actions,
--       forall_actions, forall_least, forall_next, outside_false, atoms_stay, count_stays; untyped_atom, untyped_atoms,
--       untyped_action, untyped_actions, untyped_needs, untyped_adds, untyped_removes, untyped_initial, untyped_bound, untyped_run;
--       plain_rule, plain_case_lem, plain_range
--   Kinds, job 5
--   18  kind_sorts, place_range, kinds_are, first_is, settable, set_counts
--   Judgement, job 6
--   14  judging, judge_refuse
--   Finding, job 7
--   20  cells_are, numbered_picks, has_number, one_number_lem; found_least, finds, finds_none, finds_many, finds_short, finds_every,
--       found_steps, found_judged; find_refuse, find_length
--   Tries, job 8
--   11  trying, tries_alone, tries_outside, tries_accepts, tries_place; tries_refuse, tries_length
--   Page, job 9
--   19  paper_uncut, paper_units, paper_bare, paper_marks, paper_lines, paper_page, paper_pages, paper_head, paper_number; paper_before,
--       paper_run, paper_none, paper_laid, paper_checked, paper_refuse, paper_bytes, paper_length
--   Larger, job 10
--   15  kept_problem, kept_sizes, kept_action, kept_check, kept_read, kept_build, kept_judgement, kept_tries, kept_allowances,
--       kept_window, kept_check_layers, kept_build_layers, kept_page, kept_found, kept_monotone, kept_tally, kept_text, kept_steps; grown,
--       limits_are, long_text, many_steps, desk_limits, desk_steps_lem
--   Pddl, job 11
--   24  plan_exists, unground, plan_accepted, texts_mean; domain_written, instance_written, plan_written_lem, plan_back, no_plan, plan_told,
--       plan_none, plan_letters; actions_apart, predicates_apart, objects_apart, patterns_formed, facts_formed, objects_once; typed_refused,
--       typed_plan, typed_read; every_refused, every_plan, every_read; domain_taken, instance_taken, plan_taken, read_taken; domain_refuse,
--       instance_refuse, plan_refuse, plan_read_refuse, pddl_length
--   Every, job 12
--   22  every_sets, value_is, rounds, few_values; no_every_relations, no_every_tuple, no_every_not, no_every_atoms, no_every_actions,
--       no_every_action, no_every_rule, no_every_built, no_every_ground
--   Monotone, job 13
--   21  all_or_none, wants_some, wants_none, wants_else, wants_every, wanted_steps; monotone_refuse
--   Allowance, job 14
--   12  one_pick, one_pick_built, allowances_are, allowances_every, allowances_refuse, allowances_length
pub mod Labels
pub mod Layers
pub mod Tally
pub mod Types
pub mod Kinds
pub mod Judgement
pub mod Finding
pub mod Tries
pub mod Page
pub mod Larger
pub mod Pddl
pub mod Every
pub mod Monotone
pub mod Allowance
use Prim.Native.Nat.{ℕ, zero, ◌+◌, ◌*◌, ◌^◌, ◌<◌, ◌≤◌}
use Rattle.std.proofs.Math.Path.{◌≡◌, refl, sym, ap, ap₂, subst, subst₂}
use Rattle.std.proofs.Common.{◌∙◌, inl, inr, ⊎_elim, arith, length-append}
use Rattle.std.specs.Prelude.{◌⊎◌, ◌↔◌, not, ◌&&◌, T, get_or, take}
use Rattle.std.proofs.Math.Bool.{Bool, true, false}
use Rattle.std.proofs.Math.Option.{Option, none, some}
use mathlib.Core.List.{List, [], ◌∷◌, ◌++◌, map, Memᴰ}
use Rattle.std.proofs.Math.Dec.{ltb}
use Rattle.std.proofs.Math.ListN.{length}
use borrow.Author.Tests.{le-ltb}
use Rattle.definitions.specs.Limits.{CaseLimits, early, step_limit, text_limit}
use Rattle.definitions.specs.Lists.{is_some, flat_map, is_in, sum}
use Rattle.definitions.specs.Sheet.Text.{bytes, number, decimal}
use Rattle.definitions.specs.Reply.Desk.{step_line, pick_line, sheets, answer}
use Rattle.definitions.specs.Refusal.{Result, refused, accepted, ◌>>=◌, refuse_if, case_numbers, ready_numbers, run_numbers, picks_numbers}
use Rattle.definitions.specs.Sheet.Relations.{Tuple, is_among}
use Rattle.definitions.specs.Sheet.Sheets.{Question, Label, Labelled, read_question, read_site, read_picks, first_chosen, read_steps}
use Rattle.definitions.specs.Problem.Truth.{Case, are_picks, are_of_kinds, first_of_other_kind, every_tuples, rule_is_true}
use Rattle.definitions.specs.Problem.Atoms.{Problem, problem_of, problem_with, node_atoms, Atom, item_at, atom_blocks, atoms, atom_number, relation_at, places_of, state_words, row_of}
use Rattle.definitions.specs.Problem.Actions.{Action, set, action_at, actions, action_number, needs, adds, removes}
use Rattle.definitions.specs.Problem.Strips.{reaches_goal, run, picks_of}
use Rattle.definitions.specs.Problem.Built.{chosen_numbers, true_rows, built_steps, true_atoms, built_count, bound, bound_exponents, bound_polynomial, picked_rows}
use Rattle.definitions.specs.Reply.Outcome.{sizes, action, CaseRead, read_filed, read_case, ground, read_problem, asked, nothing}
use Rattle.definitions.specs.Reply.Outcome.{room_for, state_length, written, picks_length, pick_words, bit_of, lent_picks, spare_word, ThirdInput, as_text, as_numbers}
use Rattle.definitions.specs.Reply.Outcome.{take_steps, text_picks, picks_room, take_picks, ready_to_run, Checked, checked_from, check_steps, picks_if_accepted}
use Rattle.definitions.specs.Reply.Outcome.{picks_read_from, picks_from_steps, kind_refusal, Plan, plan, StepsBuilt, built_from, build_steps, Ready, PicksRead}
use Rattle.definitions.specs.Reply.Demand.{is_accepted, case_is_accepted, steps_are_accepted, are_same_picks}
use Rattle.laws.specs.Numbers
use Rattle.laws.specs.Words
use Rattle.laws.specs.Members.{ascending_once}
use Rattle.laws.specs.Booleans.{T_of}
use Rattle.laws.specs.Results.{accepted_eq, accepted_is, is_accepted_lem}
use Rattle.laws.specs.Blocks.{item_lt}
use Rattle.laws.specs.Numbers.{IsAction, IsAtom}
use Rattle.laws.specs.Words.{words_for_lem}
use Rattle.laws.specs.Asked
use Rattle.meaning.specs.Count
use Rattle.laws.specs.Reader
use Reader.{Accepted, FiledFits, filed_fits, gives_if}
use Rattle.meaning.specs.Means.{Good}
use Rattle.meaning.specs.Grounded.{good}
use Rattle.meaning.specs.Valid.{needs_valid, adds_valid, removes_valid}
use Rattle.meaning.specs.Pairs
use Rattle.demands.specs.Between
use Rattle.demands.specs.Strips1
use Rattle.demands.specs.Accepting
use Rattle.demands.specs.AnyOrder
use Rattle.demands.specs.Answered
use Rattle.demands.specs.Polynomial
use Rattle.meaning.specs.Lent
use Rattle.demands.specs.States
use Rattle.meaning.specs.Building
use Rattle.laws.specs.Refusals
use Rattle.demands.specs.Buffers
use Rattle.demands.specs.Filed
use Rattle.demands.specs.Short
use Rattle.laws.specs.Decimals
use Rattle.laws.specs.Told
use Told.{TupleLine}
use Rattle.laws.specs.Lines.{LineByLine}
use Rattle.laws.specs.Labels.{LabelsFit}
use Rattle.demands.specs.Written
use Rattle.demands.specs.SiteTexts
use SiteTexts.{SiteLine, site_items, SiteIs}
use Rattle.demands.specs.QuestionTexts
use QuestionTexts.{QuestionLine, question_items, QuestionIs}

-- A question and a site are accepted exactly if a case is read from them, with its labels, and its problem is within the limits.
pub accepted_case : (L : CaseLimits) (question site : List ℕ)
    → (case_is_accepted L question site ≡ true) ↔ ((c : Case) × (labels : List Label) × (p : Problem) × (read_filed L question site ≡ accepted (record { case = c; labels = labels })) × (read_problem L question site ≡ accepted p))
unfolding case_is_accepted is_accepted
accepted_case L question site = (
  (λ e. let (p, r) = accepted_is (read_problem L question site) e in let (c, a, g) = Asked.problem_filed L question site p r in (c.case, c.labels, p, a, r)),
  (λ h. let (c, labels, p, a, r) = h in is_accepted_lem (read_problem L question site) p r),
)

-- That is so exactly if nothing in the two texts makes checking refuse with a number of theirs or 11, whatever the lent length.
pub accepted_checks : (L : CaseLimits) (question site : List ℕ)
    → (case_is_accepted L question site ≡ true) ↔ ((state : List ℕ) (k place : ℕ) → (check_steps L question site (as_numbers []) state).answer ≡ refused k place → is_in k case_numbers ≡ false)
accepted_checks L question site = Answered.accepted_checks L question site

-- ---- For every limits of at most 64 elements, with no more atoms and no larger a bound than steps may be handed over, and every question and
-- site that are accepted under them: c is the case read from the two texts, with its labels, and p its numbered problem.
module _ (L : CaseLimits) (few : L.elements ≤ 64) (lendable : L.atoms ≤ step_limit) (handed : L.steps ≤ step_limit) (question site : List ℕ) (c : Case) (labels : List Label) (p : Problem)
    (is_filed : read_filed L question site ≡ accepted (record { case = c; labels = labels })) (is_problem : read_problem L question site ≡ accepted p) where
  -- (what the proofs in this module start from; the theorems begin at 1)
  is_case : read_case L question site ≡ accepted c
  is_case = Asked.filed_case L question site (record { case = c; labels = labels }) is_filed

  grounds : ground L c ≡ accepted p
  unfolding read_problem ◌>>=◌
  grounds = rw is_case at is_problem

  same_problem : p ≡ problem_of c
  same_problem = Building.ground_is L c p grounds

  filed : FiledFits (record { case = c; labels = labels })
  filed = gives_if FiledFits (read_filed L question site) (record { case = c; labels = labels }) is_filed (filed_fits L few question site)

  pub A : Accepted c
  A = filed.case_fits

  K : LabelsFit c.site.size labels
  K = filed.labels_fit

  is_good : Good p
  is_good = rw same_problem (good c A)

  -- (without an `every` line)
  alone : c.question.every ≡ none → T (not (is_some p.source.question.every))
  unfolding problem_of problem_with is_some
  alone e = rw (same_problem, e) tt

  sound : (steps : List ℕ) → reaches_goal p steps ≡ true → (are_picks c (picks_of p steps) ≡ true) × (are_of_kinds c (picks_of p steps) ≡ true) × (rule_is_true c (picks_of p steps) ≡ true)
  sound = rw same_problem (Between.sound_case c A)

  complete : (picks : List Tuple) → are_picks c picks ≡ true → are_of_kinds c picks ≡ true → rule_is_true c picks ≡ true → (reaches_goal p (built_steps p picks) ≡ true) × (are_same_picks (picks_of p (built_steps p picks)) picks ≡ true)
  complete = rw same_problem (Between.complete_case c A)

  counts : (picks : List Tuple) → are_picks c picks ≡ true → are_of_kinds c picks ≡ true → (length (built_steps p picks) ≡ built_count p picks) × (built_count p picks ≤ bound p)
  counts = rw same_problem (Building.count_case c A)

  -- ---- 1, existence: some picks of the declared kinds make the rule true exactly when some step list, of whatever length,
  -- reaches the goal.
  pub existence : ((picks : List Tuple) × (are_picks c picks ≡ true) × (are_of_kinds c picks ≡ true) × (rule_is_true c picks ≡ true)) ↔ ((steps : List ℕ) × (reaches_goal p steps ≡ true))
  existence = (
    (λ h. let (picks, a, k, r) = h in (built_steps p picks, (complete picks a k r).0)),
    (λ h. let (steps, e) = h in let (a, k, r) = sound steps e in (picks_of p steps, a, k, r)),
  )

  -- ---- 2, acceptance: steps, as a text or as numbers, are accepted exactly if they reach the goal.
  pub acceptance : (given : ThirdInput) (steps : List ℕ) → take_steps given ≡ accepted steps → steps_are_accepted L question site given ≡ reaches_goal p steps
  acceptance given steps t = Accepting.steps_accepted L question site p given steps is_problem t

  -- Numbers are taken as they are, unless they are too many.
  pub lent_steps : (steps : List ℕ) → length steps ≤ step_limit → take_steps (as_numbers steps) ≡ accepted steps
  lent_steps steps h = Accepting.lent_steps steps h

  -- The checking call runs the steps, and leaves the last state's words at the front of its buffer.
  pub checking : (given : ThirdInput) (steps : List ℕ) → take_steps given ≡ accepted steps → (state : List ℕ) → state_length p ≤ length state
      → check_steps L question site given state ≡ record { answer = (run p steps).answer; state = written (state_words p (run p steps).state) state }
  unfolding check_steps ready_to_run asked nothing room_for refuse_if checked_from ◌>>=◌
  checking given steps t state h = let e : ltb (length state) (state_length p) ≡ false = le-ltb (length state) (state_length p) h in rw (is_filed, t, grounds, e) refl

  -- It accepts, with the step count, exactly the steps that reach the goal.
  pub checking_accepts : (given : ThirdInput) (steps : List ℕ) → take_steps given ≡ accepted steps → (state : List ℕ) → state_length p ≤ length state
      → ((check_steps L question site given state).answer ≡ accepted (length steps)) ↔ (reaches_goal p steps ≡ true)
  checking_accepts given steps t state h = let q = ap (λ (r : Checked). r.answer) (checking given steps t state h) in (
    (λ e. sym (Accepting.run_accepts p steps) ∙ is_accepted_lem (run p steps).answer (length steps) (sym q ∙ e)),
    (λ e. q ∙ Accepting.run_count p steps (T_of e)),
  )

  -- ---- 3, soundness: whatever steps are accepted, the picks read from them are picks, of the declared kinds, and make the rule
  -- true, totality included.
  pub soundness : (given : ThirdInput) → steps_are_accepted L question site given ≡ true
      → (steps : List ℕ) × (take_steps given ≡ accepted steps) × (are_picks c (picks_of p steps) ≡ true) × (are_of_kinds c (picks_of p steps) ≡ true) × (rule_is_true c (picks_of p steps) ≡ true)
  soundness given e =
      let (steps, t) = Accepting.steps_taken L question site given e in
      let (a, k, r) = sound steps (sym (acceptance given steps t) ∙ e) in
      (steps, t, a, k, r)

  -- The picks read from steps are exactly the tuples of the set actions among the steps.
  pub tuples_set : (steps : List ℕ) (t : Tuple)
      → (is_among t (picks_of p steps) ≡ true) ↔ ((k : ℕ) × Memᴰ k steps × ((r : ℕ) × (row : ℕ) × (action_at p k ≡ some (set r row)) × (t ≡ record { relation = r; places = places_of p.size (relation_at p r).arity row })))
  tuples_set steps t = Between.set_tuples p steps t

  -- The reading call runs the steps too; if they are accepted it leaves the words of these picks at the front of its buffer, and
  -- otherwise leaves the buffer alone.
  pub reading : (given : ThirdInput) (steps : List ℕ) → take_steps given ≡ accepted steps → (picks state : List ℕ) → picks_length p ≤ length picks → state_length p ≤ length state
      → picks_from_steps L question site given picks state
      ≡ record { answer = (run p steps).answer; picks = picks_if_accepted (run p steps).answer (pick_words p (picks_of p steps)) picks; state = written (state_words p (run p steps).state) state }
  unfolding picks_from_steps ready_to_run asked nothing room_for refuse_if picks_read_from ◌>>=◌
  reading given steps t picks state h g =
      let e : ltb (length picks) (picks_length p) ≡ false = le-ltb (length picks) (picks_length p) h in
      let f : ltb (length state) (state_length p) ≡ false = le-ltb (length state) (state_length p) g in
      rw (is_filed, t, grounds, e, f) refl

  -- Whatever the lent lengths: whenever checking answers with a count, the steps were taken, that is how many there are, they reach the
  -- goal, and the picks read from them are of the declared kinds and make the rule true.
  abbrev Counts : ThirdInput → ℕ → List ℕ → Type 0
  Counts given k steps =
      (take_steps given ≡ accepted steps) × (k ≡ length steps) × (reaches_goal p steps ≡ true)
      × (are_picks c (picks_of p steps) ≡ true) × (are_of_kinds c (picks_of p steps) ≡ true) × (rule_is_true c (picks_of p steps) ≡ true)

  -- (from what was read before the steps ran to this case and problem)
  counted : (given : ThirdInput) (k : ℕ) (r : Ready (List ℕ)) → Answered.Tells L question site given k r → (r.problem ≡ p) × Counts given k r.third
  counted given k r t =
      let same : r.problem ≡ p = accepted_eq r.problem p (sym t.is_problem ∙ ap (ground L) (accepted_eq r.case c (sym t.is_case ∙ is_case)) ∙ grounds) in
      let reached : reaches_goal p r.third ≡ true = subst (λ (x : Problem). reaches_goal x r.third ≡ true) same t.reached in
      let (a, b, d) = sound r.third reached in
      (same, (t.is_taken, t.counted, reached, a, b, d))

  pub whenever_checked : (given : ThirdInput) (state : List ℕ) (k : ℕ) → (check_steps L question site given state).answer ≡ accepted k → (steps : List ℕ) × Counts given k steps
  whenever_checked given state k e =
      let (r, h) = Answered.check_tells L question site given state k e in
      (r.third, (counted given k r h).1)

  -- The same of reading, which then has left the words of these picks.
  pub whenever_read : (given : ThirdInput) (picks state : List ℕ) (k : ℕ) → (picks_from_steps L question site given picks state).answer ≡ accepted k
      → (steps : List ℕ) × Counts given k steps × ((picks_from_steps L question site given picks state).picks ≡ written (pick_words p (picks_of p steps)) picks)
  whenever_read given picks state k e =
      let (r, h, w) = Answered.read_tells L question site given picks state k e in
      let (same, n) = counted given k r h in
      (r.third, n, w ∙ ap (λ (x : Problem). written (pick_words x (picks_of x r.third)) picks) same)

  -- ---- 4, completeness. Picks are handed over as a text or as words: these are the picks that are taken then.
  abbrev pub taken : ThirdInput → Result (List Tuple)
  taken given = text_picks c labels given >>= λ read. picks_room p given >>= λ _. take_picks p given read

  -- Of a text they are those that are read; of words that are long enough and have no spare bit set, the tuples whose bits are set.
  pub text_picks_lem : (text : List ℕ) → taken (as_text text) ≡ read_picks c.question.chosen (first_chosen c.question) c.site.size labels text
  text_picks_lem text = Building.given_text c labels p text

  pub lent_picks_lem : (words : List ℕ) → picks_length p ≤ length words → spare_word p words zero (chosen_numbers p) ≡ none → taken (as_numbers words) ≡ accepted (lent_picks p words (chosen_numbers p))
  lent_picks_lem words h e = Building.given_words c labels p words h e

  -- Whatever is taken is a set of tuples of the `choose` relations.
  pub taken_picks : (given : ThirdInput) (picks : List Tuple) → taken given ≡ accepted picks → are_picks c picks ≡ true
  taken_picks = rw same_problem (Building.given_picks c A labels K)

  module _ (given : ThirdInput) (picks : List Tuple) (is_taken : taken given ≡ accepted picks) (state steps : List ℕ) (room : state_length p ≤ length state) (space : bound p ≤ length steps) where
    plans : plan L question site given (length state) (length steps) ≡ (kind_refusal (first_of_other_kind c picks) >>= λ _. refuse_if (not (rule_is_true c picks)) 17 zero >>= λ _. accepted (record { labels = labels; problem = p; picks = picks; steps = built_steps p picks }))
    plans = Building.plan_is L question site given c labels p picks (length state) (length steps) is_filed grounds is_taken room space

    -- Picks of the declared kinds of which the rule is true always give the built steps.
    pub building : are_of_kinds c picks ≡ true → rule_is_true c picks ≡ true
        → build_steps L question site given state steps ≡ record { answer = accepted (built_count p picks); state = written (state_words p (run p (built_steps p picks)).state) state; steps = written (built_steps p picks) steps }
    unfolding build_steps built_from kind_refusal refuse_if ◌>>=◌
    building k r = rw (plans, Building.kinds_hold c picks k, r) (ap (λ (x : ℕ). record { answer = accepted x; state = written (state_words p (run p (built_steps p picks)).state) state; steps = written (built_steps p picks) steps }) (counts picks (taken_picks given picks is_taken) k).0)

    -- Picks that are not of the declared kinds give none: 16, with the index of the first `choose` of which they are not.
    pub refused_16 : are_of_kinds c picks ≡ false → (i : ℕ) × (first_of_other_kind c picks ≡ some i) × (build_steps L question site given state steps ≡ record { answer = refused 16 i; state = state; steps = steps })
    unfolding build_steps built_from kind_refusal ◌>>=◌
    refused_16 k = let (i, e) = Building.kinds_fail c picks k in (i, e, rw (plans, e) refl)

    -- Picks of the declared kinds of which the rule is false give none: 17, place 0.
    pub refused_17 : are_of_kinds c picks ≡ true → rule_is_true c picks ≡ false → build_steps L question site given state steps ≡ record { answer = refused 17 0; state = state; steps = steps }
    unfolding build_steps built_from kind_refusal refuse_if ◌>>=◌
    refused_17 k r = rw (plans, Building.kinds_hold c picks k, r) refl

  -- Whenever steps are built, it is from picks of the declared kinds of which the rule is true, and the built steps are handed back.
  pub whenever_built : (given : ThirdInput) (state steps : List ℕ) (k : ℕ) → (build_steps L question site given state steps).answer ≡ accepted k
      → (picks : List Tuple) × (taken given ≡ accepted picks) × (are_picks c picks ≡ true) × (are_of_kinds c picks ≡ true) × (rule_is_true c picks ≡ true) × (k ≡ length (built_steps p picks)) × ((build_steps L question site given state steps).steps ≡ written (built_steps p picks) steps)
  unfolding build_steps
  whenever_built given state steps k e =
      let (b, r, n, w) = Building.built_tells (plan L question site given (length state) (length steps)) state steps k e in
      let t = Building.plan_tells L question site given (length state) (length steps) b r in
      let same_case : t.case ≡ c = accepted_eq t.case c (sym t.is_case ∙ is_case) in
      let same : b.problem ≡ p = accepted_eq b.problem p (sym t.is_problem ∙ ap (ground L) same_case ∙ grounds) in
      let same_read : ◌≡◌ {A = CaseRead} (record { case = t.case; labels = b.labels }) (record { case = c; labels = labels }) = accepted_eq _ _ (sym t.is_filed ∙ is_filed) in
      let f : taken given ≡ accepted b.picks = subst₂ (λ (x : CaseRead) (y : Problem). Building.picks_given x.case x.labels y given ≡ accepted b.picks) same_read same t.given in
      let l : b.steps ≡ built_steps p b.picks = t.steps ∙ ap (λ (y : Problem). built_steps y b.picks) same in
      (b.picks, f, taken_picks given b.picks f, subst (λ (x : Case). are_of_kinds x b.picks ≡ true) same_case t.kinds, subst (λ (x : Case). rule_is_true x b.picks ≡ true) same_case t.rule, n ∙ ap length l, w ∙ ap (λ (x : List ℕ). written x steps) l)

  -- Picks are a set: the same tuples in another order are of the declared kinds alike, by 16 the same first `choose` of which they are not,
  -- make the rule true alike, and give the same built steps;
  pub order_kinds : (P Q : List Tuple) → are_same_picks P Q ≡ true → (are_of_kinds c P ≡ are_of_kinds c Q) × (first_of_other_kind c P ≡ first_of_other_kind c Q)
  order_kinds P Q e = (AnyOrder.same_kinds c P Q e, AnyOrder.same_first c P Q e)

  pub order_rule : (P Q : List Tuple) → are_same_picks P Q ≡ true → rule_is_true c P ≡ rule_is_true c Q
  order_rule P Q e = AnyOrder.same_rule c A P Q e

  pub order_steps : (P Q : List Tuple) → are_same_picks P Q ≡ true → built_steps p P ≡ built_steps p Q
  order_steps P Q e = AnyOrder.same_steps p P Q e

  -- so building from them, whichever way they are handed over, answers the same and leaves the same.
  pub order_built : (given other : ThirdInput) (P Q : List Tuple) → taken given ≡ accepted P → taken other ≡ accepted Q → are_same_picks P Q ≡ true
      → (state steps : List ℕ) → state_length p ≤ length state → bound p ≤ length steps → build_steps L question site given state steps ≡ build_steps L question site other state steps
  unfolding build_steps built_from kind_refusal refuse_if ◌>>=◌
  order_built given other P Q f g e state steps h k =
      ap (λ (r : Result Plan). built_from r state steps) (plans given P f state steps h k)
      ∙ ap₂ (λ (o : Option ℕ) (b : Bool). left o b P (built_steps p P)) (AnyOrder.same_first c P Q e) (AnyOrder.same_rule c A P Q e)
      ∙ ap (left (first_of_other_kind c Q) (rule_is_true c Q) P) (AnyOrder.same_steps p P Q e)
      ∙ no_picks (first_of_other_kind c Q) (rule_is_true c Q)
      ∙ sym (ap (λ (r : Result Plan). built_from r state steps) (plans other Q g state steps h k))
    where
      left : Option ℕ → Bool → List Tuple → List ℕ → StepsBuilt
      left o b F ss = built_from (kind_refusal o >>= λ _. refuse_if (not b) 17 zero >>= λ _. accepted (record { labels = labels; problem = p; picks = F; steps = ss })) state steps

      no_picks : (o : Option ℕ) (b : Bool) → left o b P (built_steps p Q) ≡ left o b Q (built_steps p Q)
      no_picks none true = refl
      no_picks none false = refl
      no_picks (some i) b = refl

  -- (they are few enough to be lent)
  built_few : (picks : List Tuple) → are_picks c picks ≡ true → are_of_kinds c picks ≡ true → length (built_steps p picks) ≤ step_limit
  built_few picks a k = let n = counts picks a k in by_test (is_some p.source.question.every) refl n.0 n.1
    where
      by_test : (b : Bool) → is_some p.source.question.every ≡ b → length (built_steps p picks) ≡ built_count p picks → built_count p picks ≤ bound p → length (built_steps p picks) ≤ step_limit
      by_test true e m n = let f = (Reader.acceptance L few question site p is_problem).few_steps (T_of e) in omega arith
      by_test false e m n =
          let b = Count.bound_below p is_good (T_of (ap not e)) in
          let f = (Reader.acceptance L few question site p is_problem).few_atoms in
          omega arith

  -- The built steps, lent as numbers, are accepted.
  pub built_accepted : (picks : List Tuple) → are_picks c picks ≡ true → are_of_kinds c picks ≡ true → rule_is_true c picks ≡ true → steps_are_accepted L question site (as_numbers (built_steps p picks)) ≡ true
  built_accepted picks a k r = acceptance (as_numbers (built_steps p picks)) (built_steps p picks) (lent_steps (built_steps p picks) (built_few picks a k)) ∙ (complete picks a k r).0

  -- The picks read from them are the same tuples, no more and no fewer.
  pub built_same : (picks : List Tuple) → are_picks c picks ≡ true → are_of_kinds c picks ≡ true → rule_is_true c picks ≡ true → are_same_picks (picks_of p (built_steps p picks)) picks ≡ true
  built_same picks a k r = (complete picks a k r).1

  -- Reading the built steps, lent as numbers, leaves the words of the picks that were given, word for word.
  pub built_read : (picks : List Tuple) → are_picks c picks ≡ true → are_of_kinds c picks ≡ true → rule_is_true c picks ≡ true → (words state : List ℕ) → picks_length p ≤ length words → state_length p ≤ length state
      → (picks_from_steps L question site (as_numbers (built_steps p picks)) words state).picks ≡ written (pick_words p picks) words
  unfolding picks_if_accepted
  built_read picks a k r words state h g =
      let (n, b) = counts picks a k in
      let t : take_steps (as_numbers (built_steps p picks)) ≡ accepted (built_steps p picks) = lent_steps (built_steps p picks) (built_few picks a k) in
      let goal = (complete picks a k r).0 in
      ap (λ (x : PicksRead). x.picks) (reading (as_numbers (built_steps p picks)) (built_steps p picks) t words state h g)
      ∙ ap (λ (x : Result ℕ). picks_if_accepted x (pick_words p (picks_of p (built_steps p picks))) words) (Accepting.run_count p (built_steps p picks) (T_of goal))
      ∙ ap (λ (x : List ℕ). written x words) (Answered.same_words p (picks_of p (built_steps p picks)) picks (built_same picks a k r))

  -- ---- 5, count: the built steps are picks + 1 + what each round has, which is the node atoms that are true with its value, its end, and its
  -- marks: a mark-in and a mark-out for each value but one. They are at most the bound.
  pub count : (picks : List Tuple) → are_picks c picks ≡ true → are_of_kinds c picks ≡ true → length (built_steps p picks) ≡ built_count p picks
  count picks a k = (counts picks a k).0

  pub at_most : (picks : List Tuple) → are_picks c picks ≡ true → are_of_kinds c picks ≡ true → built_count p picks ≤ bound p
  at_most picks a k = (counts picks a k).1

  -- Without an `every` line there is one value: picks + true node atoms + 2.
  pub count_plain : c.question.every ≡ none → (picks : List Tuple) → built_count p picks ≡ length picks + sum (map (λ t. length (true_rows p picks t)) p.node_list) + 2
  unfolding true_atoms
  count_plain e picks = Count.count_plain p is_good (alone e) picks

  -- With one that has m tuples, and so 2 to the m values: at most picks + 1 + 2^m × (node atoms + m + 1).
  pub count_most : (picks : List Tuple) → are_picks c picks ≡ true → are_of_kinds c picks ≡ true → length (built_steps p picks) ≤ length picks + 1 + 2 ^ every_tuples c * (node_atoms p + every_tuples c + 1)
  count_most picks a k = let n = (counts picks a k).0 in let m = most picks a k in omega arith
    where
      most : (picks : List Tuple) → are_picks c picks ≡ true → are_of_kinds c picks ≡ true → built_count p picks ≤ length picks + 1 + 2 ^ every_tuples c * (node_atoms p + every_tuples c + 1)
      most = rw same_problem (Building.count_most c A)

  -- ---- 6, polynomial: without an `every` line the bound is a polynomial in the number of elements; the question's text alone fixes its
  -- terms, whatever the site holds.
  pub polynomial : c.question.every ≡ none → (q : Question) → read_question question ≡ accepted q → bound p ≡ bound_polynomial q c.site.size
  polynomial plain q e = value ∙ ap (λ (x : Question). bound_polynomial x c.site.size) (accepted_eq c.question q (sym (Reader.case_question L question site c is_case) ∙ e))
    where
      value : bound p ≡ bound_polynomial c.question c.site.size
      value = rw same_problem (Polynomial.bound_value c plain)

  -- ---- 7, STRIPS-1: without an `every` line every action that removes something removes a need that no action adds;
  pub strips_1 : c.question.every ≡ none → (k : ℕ) (a : Action) → action_at p k ≡ some a
      → (removes p a ≡ []) ⊎ ((x : Atom) × Memᴰ x (removes p a) × Memᴰ x (needs p a) × ((j : ℕ) (b : Action) → action_at p j ≡ some b → Memᴰ x (adds p b) → ⊥))
  strips_1 e k a i = ⊎_elim (λ q. inl q) (λ q. let (x, r, n, f) = q in inr (x, r, n, λ j b d m. f b (Numbers.action_is p j b d) m)) (Strips1.strips_1 p is_good (alone e) a (Numbers.action_is p k a i))

  -- so it is taken at most once: if an action is taken twice in a run that is accepted or only lacks the goal, it removes nothing.
  pub never_twice : c.question.every ≡ none → (k : ℕ) (a : Action) → action_at p k ≡ some a → (before between after : List ℕ) (n : ℕ)
      → ((run p (before ++ (k ∷ (between ++ (k ∷ after))))).answer ≡ accepted n) ⊎ ((run p (before ++ (k ∷ (between ++ (k ∷ after))))).answer ≡ refused 15 n) → removes p a ≡ []
  never_twice e = Strips1.once_only p is_good (alone e)

  -- ---- 8, the numbering: a number decodes to the atom whose number it is, exactly the numbers below the count decode, and every
  -- atom that an action needs, adds or removes is among them. The same for actions.
  pub atom_number_lem : (i : ℕ) (a : Atom) → item_at (atom_blocks p) i ≡ some a → atom_number p a ≡ i
  atom_number_lem i a e = Numbers.atom_number_lem p i a e

  pub atoms_numbered : (i : ℕ) → (i < atoms p) ↔ ((a : Atom) × (item_at (atom_blocks p) i ≡ some a))
  unfolding atoms
  atoms_numbered i = (λ h. Numbers.atom_some p i h, λ q. item_lt (atom_blocks p) i q.0 q.1)

  pub atoms_used : (k : ℕ) (a : Action) → action_at p k ≡ some a → (x : Atom) → Memᴰ x (needs p a) ⊎ (Memᴰ x (adds p a) ⊎ Memᴰ x (removes p a)) → item_at (atom_blocks p) (atom_number p x) ≡ some x
  atoms_used k a e x m = Numbers.atom_at p x (valid k a (Numbers.action_is p k a e) x m)
    where
      valid : (k : ℕ) (a : Action) → IsAction p a → (x : Atom) → Memᴰ x (needs p a) ⊎ (Memᴰ x (adds p a) ⊎ Memᴰ x (removes p a)) → IsAtom p x
      valid = rw same_problem (λ k a v x m. ⊎_elim (λ q. needs_valid (problem_of c) (good c A) a v x q) (λ q. ⊎_elim (λ i. adds_valid (problem_of c) (good c A) a v x i) (λ i. removes_valid (problem_of c) (good c A) a v x i) q) m)

  pub action_number_lem : (k : ℕ) (a : Action) → action_at p k ≡ some a → action_number p a ≡ k
  action_number_lem = rw same_problem (Numbers.action_number_lem (problem_of c) (λ s. ascending_once ((problem_of c).range s) ((good c A).ranged s).ascends))

  pub actions_numbered : (k : ℕ) → (k < actions p) ↔ ((a : Action) × (action_at p k ≡ some a))
  actions_numbered k = (λ h. Numbers.action_some p k h, λ q. Numbers.action_below p k q.0 q.1)

  -- The words that are left: bit i of a state's words says whether atom i holds, and no other bit is set.
  pub state_bit : (steps : List ℕ) (i : ℕ) → i < atoms p → bit_of (state_words p (run p steps).state) i ≡ (run p steps).state i
  unfolding state_length
  state_bit steps i h = let w = words_for_lem (atoms p) in Words.state_bit p (run p steps).state i (omega (arith, w.0))

  pub state_spare : (steps : List ℕ) (i : ℕ) → atoms p ≤ i → i < 64 * state_length p → bit_of (state_words p (run p steps).state) i ≡ false
  state_spare steps i h l = Words.state_bit p (run p steps).state i l ∙ ends steps i h
    where
      ends : (steps : List ℕ) (i : ℕ) → atoms p ≤ i → (run p steps).state i ≡ false
      ends = rw same_problem (States.run_ends (problem_of c) (good c A))

  -- The words of picks, whatever stands behind them, are taken back as the same tuples;
  pub words_taken : (picks : List Tuple) (rest : List ℕ) → are_picks c picks ≡ true → (again : List Tuple) × (taken (as_numbers (pick_words p picks ++ rest)) ≡ accepted again) × (are_same_picks again picks ≡ true)
  words_taken picks rest a =
      let (l, s, t) = Lent.pick_words_lem p picks rest in
      let e = length-append (pick_words p picks) rest in
      (lent_picks p (pick_words p picks ++ rest) (chosen_numbers p), lent_picks_lem (pick_words p picks ++ rest) (omega arith) s, ap (λ (x : List Tuple). are_same_picks x picks) t ∙ order picks a)
    where
      order : (picks : List Tuple) → are_picks c picks ≡ true → are_same_picks (map (Pairs.tuple_of p) (Pairs.pairs p picks)) picks ≡ true
      order = rw same_problem (Between.in_order c A)

  -- and words that were taken are written again by the picks taken from them.
  pub words_written : (words : List ℕ) → ((j : ℕ) → get_or words j 0 < 2 ^ 64) → picks_length p ≤ length words → spare_word p words zero (chosen_numbers p) ≡ none → pick_words p (lent_picks p words (chosen_numbers p)) ≡ take (picks_length p) words
  words_written = rw same_problem (Lent.words_again (problem_of c) (good c A))

  -- A pick's line has the word `pick`, the relation's name, and for each place a field that spells it, by its number or its label.
  abbrev Spells : Tuple → List (List ℕ) → Type 0
  Spells t fs = TupleLine labels (bytes "pick") (λ u. (relation_at p u.relation).name) t fs

  -- A text is read as picks exactly if line by line it spells them.
  pub picks_texts : (text : List ℕ) (picks : List Tuple)
      → (read_picks c.question.chosen (first_chosen c.question) c.site.size labels text ≡ accepted picks) ↔ (LineByLine Spells picks text × (length text ≤ text_limit) × (are_picks c picks ≡ true))
  picks_texts = rw same_problem (λ text picks. (
    (λ e. let a = Building.given_picks c A labels K (as_text text) picks (Building.given_text c labels (problem_of c) text ∙ e) in let (f, l) = Written.picks_text c A labels K picks (T_of a) text e in (f, l, a)),
    (λ h. let (f, l, a) = h in Written.picks_back c A labels K picks (T_of a) text f l),
  ))

  -- What the desk program prints for them line by line is such a text, so every set of picks has one;
  pub picks_said : (picks : List Tuple) → are_picks c picks ≡ true → LineByLine Spells picks (flat_map (λ (t : Tuple). pick_line labels p t.relation (row_of p.size t.places)) picks)
  picks_said = rw same_problem (λ picks a. Written.picks_said c A labels K picks (T_of a))

  -- and without labels one only, in each order.
  pub picks_unlabelled : labels ≡ [] → (text : List ℕ) (picks : List Tuple)
      → (read_picks c.question.chosen (first_chosen c.question) c.site.size labels text ≡ accepted picks)
      ↔ ((text ≡ flat_map (λ (t : Tuple). pick_line labels p t.relation (row_of p.size t.places)) picks) × (length text ≤ text_limit) × (are_picks c picks ≡ true))
  picks_unlabelled e text picks = (
    (λ h. let (f, l, a) = (picks_texts text picks).0 h in (only text picks a f, l, a)),
    (λ h. let (f, l, a) = h in (picks_texts text picks).1 (subst (LineByLine Spells picks) (sym f) (picks_said picks a), l, a)),
  )
    where
      only : (text : List ℕ) (picks : List Tuple) → are_picks c picks ≡ true → LineByLine Spells picks text → text ≡ flat_map (λ (t : Tuple). pick_line labels p t.relation (row_of p.size t.places)) picks
      only = rw same_problem (λ text picks a. Written.picks_plain c A labels K picks (T_of a) e text)

  -- Printed in the order of the atoms, as the desk program prints them, they are read back as the same tuples.
  pub picks_printed : (picks : List Tuple) → are_picks c picks ≡ true → length (flat_map (λ r. flat_map (pick_line labels p r) (picked_rows p picks r)) (chosen_numbers p)) ≤ text_limit
      → (again : List Tuple) × (read_picks c.question.chosen (first_chosen c.question) c.site.size labels (flat_map (λ r. flat_map (pick_line labels p r) (picked_rows p picks r)) (chosen_numbers p)) ≡ accepted again) × (are_same_picks again picks ≡ true)
  picks_printed = rw same_problem (λ picks a h. (map (Pairs.tuple_of (problem_of c)) (Pairs.pairs (problem_of c) picks), Written.printed_back c A labels K picks (T_of a) h, Between.in_order c A picks a))

-- ---- A text is read as a question exactly if line by line it spells its relations, its types, what it chooses, its `every` line and its
-- rule, in this order (`QuestionLine`), the rule standing where its line says, and no test is broken (`QuestionIs`);
pub question_texts : (text : List ℕ) (q : Question)
    → (read_question text ≡ accepted q) ↔ (LineByLine (QuestionLine q.types) (question_items q) text × (length text ≤ text_limit) × (q.rule.at + length q.rule.text + 1 ≡ length text) × QuestionIs q)
question_texts = QuestionTexts.question_texts

-- Two texts are read as a case exactly if these two readings are.
pub case_texts : (L : CaseLimits) (question site : List ℕ) (q : Question) (s : Labelled)
    → (read_filed L question site ≡ accepted (record { case = record { question = q; site = s.site }; labels = s.labels })) ↔ ((read_question question ≡ accepted q) × (read_site L q.rels q.types site ≡ accepted s))
case_texts = QuestionTexts.filed_texts

-- A text is read as a number exactly if it is what is written for it and has at most 7 digits; and as steps exactly if it is what
-- the desk program writes for them. So every step list within the limits has a text, and one text only.
pub number_texts : (text : List ℕ) (n : ℕ) → (number text ≡ some n) ↔ ((text ≡ decimal n) × (n < 10 ^ 7))
number_texts text n = (λ e. Decimals.decimal_number text n e, λ h. ap number h.0 ∙ Decimals.number_decimal n h.1)

pub steps_texts : (text steps : List ℕ) → (read_steps text ≡ accepted steps) ↔ ((text ≡ flat_map step_line steps) × (length text ≤ text_limit) × ((k : ℕ) → Memᴰ k steps → k < 10 ^ 7))
steps_texts text steps = (
  (λ e. Told.steps_told text steps e),
  (λ h. let (e, l, f) = h in ap read_steps e ∙ Written.steps_back steps f (subst (λ (t : List ℕ). length t ≤ text_limit) e l)),
)

-- ---- 9, demand 1, for whatever is handed over: each call refuses only with numbers of its own, keeps every buffer's length, and a
-- refusal leaves what document 01 says it leaves.
module _ (L : CaseLimits) (question site : List ℕ) where
  pub sizes_refuse : (k place : ℕ) → sizes L question site ≡ refused k place → is_in k case_numbers ≡ true
  sizes_refuse k place e = Refusals.sizes_refuse L question site k place e

  pub action_refuse : (n k place : ℕ) → action L question site n ≡ refused k place → is_in k (13 ∷ case_numbers) ≡ true
  action_refuse n k place e = Refusals.action_refuse L question site n k place e

  -- Checking: a refusal before the steps run leaves the state's buffer as it was.
  pub check_refuse : (steps : ThirdInput) (state : List ℕ) (k place : ℕ) → (check_steps L question site steps state).answer ≡ refused k place
      → (is_in k (ready_numbers ++ run_numbers) ≡ true) × (is_in k ready_numbers ≡ true → (check_steps L question site steps state).state ≡ state)
  check_refuse steps state k place e = (Refusals.check_refuse L question site steps state k place e, Buffers.check_leaves L question site steps state k place e)

  pub check_length : (steps : ThirdInput) (state : List ℕ) → length (check_steps L question site steps state).state ≡ length state
  check_length steps state = Buffers.check_length L question site steps state

  -- Reading picks: every refusal leaves the picks' buffer as it was; one before the steps run leaves the state's too.
  pub read_refuse : (steps : ThirdInput) (picks state : List ℕ) (k place : ℕ) → (picks_from_steps L question site steps picks state).answer ≡ refused k place
      → (is_in k (ready_numbers ++ run_numbers) ≡ true) × ((picks_from_steps L question site steps picks state).picks ≡ picks) × (is_in k ready_numbers ≡ true → (picks_from_steps L question site steps picks state).state ≡ state)
  read_refuse steps picks state k place e = let (f, g) = Buffers.read_leaves L question site steps picks state k place e in (Refusals.read_refuse L question site steps picks state k place e, f, g)

  pub read_length : (steps : ThirdInput) (picks state : List ℕ) → (length (picks_from_steps L question site steps picks state).picks ≡ length picks) × (length (picks_from_steps L question site steps picks state).state ≡ length state)
  read_length steps picks state = Buffers.read_length L question site steps picks state

  -- Building: every refusal leaves both buffers as they were.
  pub build_refuse : (picks : ThirdInput) (state steps : List ℕ) (k place : ℕ) → (build_steps L question site picks state steps).answer ≡ refused k place
      → (is_in k (ready_numbers ++ picks_numbers) ≡ true) × ((build_steps L question site picks state steps).state ≡ state) × ((build_steps L question site picks state steps).steps ≡ steps)
  build_refuse picks state steps k place e = let (f, g) = Buffers.build_leaves L question site picks state steps k place e in (Refusals.build_refuse L question site picks state steps k place e, f, g)

  pub build_length : L.elements ≤ 64 → (picks : ThirdInput) (state steps : List ℕ) → (length (build_steps L question site picks state steps).state ≡ length state) × (length (build_steps L question site picks state steps).steps ≡ length steps)
  build_length few picks state steps = Buffers.build_length L question site picks state steps few

-- ---- 10, the desk program: unless it refuses, what it prints (`Desk.report`) are the two records of one case: picks of the declared
-- kinds of which the rule is true, and steps that reach the goal and are read as the same tuples.
pub desk_records : (input : List ℕ) (b : Plan) → answer input ≡ accepted b
    → (c : Case) × (read_case early (sheets input).question (sheets input).site ≡ accepted c) × (ground early c ≡ accepted b.problem)
    × (are_picks c b.picks ≡ true) × (are_of_kinds c b.picks ≡ true) × (rule_is_true c b.picks ≡ true)
    × (reaches_goal b.problem b.steps ≡ true) × (are_same_picks (picks_of b.problem b.steps) b.picks ≡ true)
desk_records input b e = let (c, rc, rg, h) = Filed.desk_filed input b e in let (a, k, r, g, s) = h in (c, rc, rg, a, k, r, g, s)

-- It never prints more than 2,340 `pick` lines: a line of picks or of steps has at least 7 bytes.
pub desk_picks : (input : List ℕ) (b : Plan) → answer input ≡ accepted b → (length b.picks ≤ 2340) × (sum (map (λ r. length (picked_rows b.problem b.picks r)) (chosen_numbers b.problem)) ≤ 2340)
desk_picks input b e = Short.desk_picks input b e
