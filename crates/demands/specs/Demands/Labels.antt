-- Document 02, job 1, section 16 of the demands: names for elements.
use Rattle.std.specs.Prelude.{ℕ, ◌<◌, ◌≤◌, ◌≡◌, ◌↔◌, true, length}
use Rattle.std.proofs.Math.Path.{refl}
use Rattle.std.proofs.Math.Option.{some}
use mathlib.Core.List.{List, [], ◌∷◌, map, Memᴰ}
use Rattle.definitions.specs.Limits.{CaseLimits, text_limit}
use Rattle.definitions.specs.Lists.{option}
use Rattle.definitions.specs.Sheet.Text.{bytes, decimal, is_relation_name}
use Rattle.definitions.specs.Reply.Rewritten.{in_numbers}
use Rattle.definitions.specs.Reply.Desk.{print_line, said, pick_line}
use Rattle.definitions.specs.Reply.Layers.{window_of, check_layers, build_layers}
use Rattle.definitions.specs.Reply.Tally.{tally}
use Rattle.definitions.specs.Refusal.{accepted}
use Rattle.definitions.specs.Sheet.Relations.{Tuple}
use Rattle.definitions.specs.Sheet.Sheets.{Label, element_named, name_of, read_picks, first_chosen}
use Rattle.definitions.specs.Problem.Truth.{Case}
use Rattle.definitions.specs.Problem.Atoms.{Problem, relation_at, places_of}
use Rattle.definitions.specs.Reply.Outcome.{sizes, action, read_filed, read_problem}
use Rattle.definitions.specs.Reply.Outcome.{ThirdInput, as_text, as_numbers}
use Rattle.definitions.specs.Reply.Outcome.{text_picks, check_steps}
use Rattle.definitions.specs.Reply.Outcome.{picks_from_steps, build_steps}
use Rattle.definitions.specs.Reply.Allowance.{allowances}
use Rattle.definitions.specs.Reply.Tries.{Try, try_lists}
use Rattle.definitions.specs.Reply.Judgement.{judge}
use Rattle.definitions.specs.Reply.Finding.{find}
use Rattle.definitions.specs.Reply.Monotone.{monotone}
use Rattle.laws.specs.Booleans.{T_true}
use Rattle.laws.specs.Reader
use Reader.{FiledFits, filed_fits, gives_if}
use Rattle.laws.specs.Labels
use Rattle.demands.specs.BothSides
use Rattle.demands.specs.InNumbers
use Rattle.demands.specs.SameReplies

-- ---- 16, document 02, job 1. For every limits of at most 64 elements, and every question and site that a case is read from: c is the
-- case, with its labels. They are one to one: an element has a name exactly if the name means that element;
module _ (L : CaseLimits) (few : L.elements ≤ 64) (question site : List ℕ) (c : Case) (labels : List Label) (is_filed : read_filed L question site ≡ accepted (record { case = c; labels = labels })) where
  fits : FiledFits (record { case = c; labels = labels })
  fits = gives_if FiledFits (read_filed L question site) (record { case = c; labels = labels }) is_filed (filed_fits L few question site)

  pub labels_one_to_one : (x : ℕ) (name : List ℕ) → (name_of labels x ≡ some name) ↔ (element_named labels name ≡ some x)
  labels_one_to_one x name = Labels.one_to_one labels fits.labels_fit.one x name

  -- each is the name of an element of the site, in the form of a relation's name, and is found from either side.
  pub labels_are : (l : Label) → Memᴰ l labels
      → (l.element < c.site.size) × (is_relation_name l.name ≡ true) × (name_of labels l.element ≡ some l.name) × (element_named labels l.name ≡ some l.element)
  labels_are l m = let K = fits.labels_fit in (K.small l m, T_true (is_relation_name l.name) (K.formed l m), Labels.name_found labels l K.one m, Labels.element_found labels l K.one m)

  -- What is printed for an element is its label where it has one, and otherwise its number;
  pub said_label : (l : Label) → Memᴰ l labels → said labels l.element ≡ l.name
  unfolding said option
  said_label l m = rw (labels_are l m).2 refl

  pub said_number : (x : ℕ) → ((l : Label) → Memᴰ l labels → l.element ≡ x → ⊥) → said labels x ≡ decimal x
  said_number x none_has = BothSides.said_unnamed labels x none_has

  -- and so are all elements of a line that is printed for a pick.
  pub said_pick : (p : Problem) (r row : ℕ) → pick_line labels p r row ≡ print_line (bytes "pick" ∷ (relation_at p r).name ∷ map (said labels) (places_of p.size (relation_at p r).arity row))
  unfolding pick_line
  said_pick p r row = refl

  -- Picks rewritten with numbers, where that stays within the text limit, are the same picks without labels.
  pub rewritten_picks : (text : List ℕ) (picks : List Tuple) → read_picks c.question.chosen (first_chosen c.question) c.site.size labels text ≡ accepted picks → length (in_numbers labels text) ≤ text_limit
      → read_picks c.question.chosen (first_chosen c.question) c.site.size [] (in_numbers labels text) ≡ accepted picks
  rewritten_picks text picks e l = InNumbers.picks_in_numbers c fits.case_fits labels fits.labels_fit picks text e l

  -- The site rewritten so is read as the same case, and has no labels;
  module _ (within : length (in_numbers labels site) ≤ text_limit) where
    pub rewritten_case : read_filed L question (in_numbers labels site) ≡ accepted (record { case = c; labels = [] })
    rewritten_case = InNumbers.filed_in_numbers L few question site (record { case = c; labels = labels }) is_filed within

    -- so the problem is the same, with the same numbers for its steps, and every call replies the same.
    pub rewritten_problem : read_problem L question (in_numbers labels site) ≡ read_problem L question site
    rewritten_problem = SameReplies.same_problem L question site (in_numbers labels site) (record { case = c; labels = labels }) [] is_filed rewritten_case

    pub rewritten_sizes : sizes L question (in_numbers labels site) ≡ sizes L question site
    rewritten_sizes = SameReplies.same_sizes L question site (in_numbers labels site) (record { case = c; labels = labels }) [] is_filed rewritten_case

    pub rewritten_tally : tally L question (in_numbers labels site) ≡ tally L question site
    rewritten_tally = SameReplies.same_tally L question site (in_numbers labels site) (record { case = c; labels = labels }) [] is_filed rewritten_case

    pub rewritten_action : (k : ℕ) → action L question (in_numbers labels site) k ≡ action L question site k
    rewritten_action = SameReplies.same_action L question site (in_numbers labels site) (record { case = c; labels = labels }) [] is_filed rewritten_case

    pub rewritten_check : (steps : ThirdInput) (state : List ℕ) → check_steps L question (in_numbers labels site) steps state ≡ check_steps L question site steps state
    rewritten_check = SameReplies.same_check L question site (in_numbers labels site) (record { case = c; labels = labels }) [] is_filed rewritten_case

    pub rewritten_read : (steps : ThirdInput) (picks state : List ℕ) → picks_from_steps L question (in_numbers labels site) steps picks state ≡ picks_from_steps L question site steps picks state
    rewritten_read = SameReplies.same_read L question site (in_numbers labels site) (record { case = c; labels = labels }) [] is_filed rewritten_case

    pub rewritten_tries : (steps : List ℕ) (tries : List Try) (state : List ℕ) → try_lists L question (in_numbers labels site) steps tries state ≡ try_lists L question site steps tries state
    rewritten_tries = SameReplies.same_tries L question site (in_numbers labels site) (record { case = c; labels = labels }) [] is_filed rewritten_case

    pub rewritten_allowances : (old : List ℕ) → allowances L question (in_numbers labels site) old ≡ allowances L question site old
    rewritten_allowances = SameReplies.same_allowances L question site (in_numbers labels site) (record { case = c; labels = labels }) [] is_filed rewritten_case

    pub rewritten_window : window_of L question (in_numbers labels site) ≡ window_of L question site
    rewritten_window = SameReplies.same_window L question site (in_numbers labels site) (record { case = c; labels = labels }) [] is_filed rewritten_case

    pub rewritten_check_layers : (steps ends state : List ℕ) → check_layers L question (in_numbers labels site) steps ends state ≡ check_layers L question site steps ends state
    rewritten_check_layers = SameReplies.same_check_layers L question site (in_numbers labels site) (record { case = c; labels = labels }) [] is_filed rewritten_case

    pub rewritten_found : (old : List ℕ) → find L question (in_numbers labels site) old ≡ find L question site old
    rewritten_found = SameReplies.same_found L question site (in_numbers labels site) (record { case = c; labels = labels }) [] is_filed rewritten_case

    pub rewritten_monotone : monotone L question (in_numbers labels site) ≡ monotone L question site
    rewritten_monotone = SameReplies.same_monotone L question site (in_numbers labels site) (record { case = c; labels = labels }) [] is_filed rewritten_case

    -- Building and judging: from lent picks,
    pub rewritten_build : (words state steps : List ℕ) → build_steps L question (in_numbers labels site) (as_numbers words) state steps ≡ build_steps L question site (as_numbers words) state steps
    rewritten_build = SameReplies.same_build_words L question site (in_numbers labels site) (record { case = c; labels = labels }) [] is_filed rewritten_case

    pub rewritten_build_layers : (words state steps ends : List ℕ) → build_layers L question (in_numbers labels site) (as_numbers words) state steps ends ≡ build_layers L question site (as_numbers words) state steps ends
    rewritten_build_layers = SameReplies.same_layers_words L question site (in_numbers labels site) (record { case = c; labels = labels }) [] is_filed rewritten_case

    pub rewritten_judgement : (words : List ℕ) → judge L question (in_numbers labels site) (as_numbers words) ≡ judge L question site (as_numbers words)
    rewritten_judgement = SameReplies.same_judge_words L question site (in_numbers labels site) (record { case = c; labels = labels }) [] is_filed rewritten_case

    -- and from a text of picks that is rewritten too.
    module _ (text : List ℕ) (picks : List Tuple) (is_read : read_picks c.question.chosen (first_chosen c.question) c.site.size labels text ≡ accepted picks) (short : length (in_numbers labels text) ≤ text_limit) where
      pub rewritten_build_text : (state steps : List ℕ) → build_steps L question (in_numbers labels site) (as_text (in_numbers labels text)) state steps ≡ build_steps L question site (as_text text) state steps
      unfolding text_picks
      rewritten_build_text = SameReplies.same_build_text L question site (in_numbers labels site) (record { case = c; labels = labels }) [] is_filed rewritten_case text (in_numbers labels text) picks is_read (rewritten_picks text picks is_read short)

      pub rewritten_layers_text : (state steps ends : List ℕ) → build_layers L question (in_numbers labels site) (as_text (in_numbers labels text)) state steps ends ≡ build_layers L question site (as_text text) state steps ends
      unfolding text_picks
      rewritten_layers_text = SameReplies.same_layers_text L question site (in_numbers labels site) (record { case = c; labels = labels }) [] is_filed rewritten_case text (in_numbers labels text) picks is_read (rewritten_picks text picks is_read short)

      pub rewritten_judgement_text : judge L question (in_numbers labels site) (as_text (in_numbers labels text)) ≡ judge L question site (as_text text)
      unfolding text_picks
      rewritten_judgement_text = SameReplies.same_judge_text L question site (in_numbers labels site) (record { case = c; labels = labels }) [] is_filed rewritten_case text (in_numbers labels text) picks is_read (rewritten_picks text picks is_read short)
