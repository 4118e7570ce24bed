-- Document 02, job 9, section 19 of the demands: steps on paper.
use Rattle.std.specs.Prelude.{ℕ, suc, ◌-◌, ◌*◌, ◌^◌, ◌<◌, ◌≤◌, ◌≡◌, ◌⊎◌, true, false, length, take, drop, replicate}
use Rattle.std.proofs.Math.Option.{some}
use mathlib.Core.List.{List, [], ◌∷◌, ◌++◌, map, Memᴰ}
use Rattle.definitions.specs.Limits.{CaseLimits, usual}
use Rattle.definitions.specs.Lists.{flat_map, below, is_in}
use Rattle.definitions.specs.Sheet.Text.{is_between, number, decimal}
use Rattle.definitions.specs.Reply.Desk.{said}
use Rattle.definitions.specs.Refusal.{Result, refused, accepted, ready_numbers, run_numbers}
use Rattle.definitions.specs.Sheet.Relations.{Relation}
use Rattle.definitions.specs.Sheet.Sheets.{Label}
use Rattle.definitions.specs.Problem.Truth.{Case}
use Rattle.definitions.specs.Problem.Atoms.{Problem, problem_of, places_of, state_words}
use Rattle.definitions.specs.Problem.Actions.{Action, begin_proof, prove_goal, round_end, mark_in, mark_out, action_at}
use Rattle.definitions.specs.Problem.Strips.{run}
use Rattle.definitions.specs.Reply.Outcome.{written, ThirdInput}
use Rattle.definitions.specs.Reply.Outcome.{read_case, ready_to_run, check_steps}
use Rattle.definitions.specs.Reply.Outcome.{Ready}
use Rattle.definitions.specs.Reply.Page.{spaces, left, right, kind_word, subject_word, shown_elements, part_word, units, step_lines, lines_of, blank_line, pages, page_lines, page_text, page_rooms, lay_page}
use Rattle.laws.specs.Reader
use Reader.{Accepted, case_fits, gives_if}
use Rattle.laws.specs.Pages
use Pages.{joined, commas}
use Rattle.meaning.specs.Shown
use Rattle.demands.specs.Paper
use Rattle.demands.specs.Columns.{columns, unspaced, head_read, page_read}
use Rattle.laws.specs.Refusals

-- ---- 19, document 02, job 9. A step's lines have its head beside the first, and beside all of them, in order, its units: none is cut, and
-- none is lost. (`lines_are` and `units_are` say so.)
pub paper_uncut : (labels : List Label) (p : Problem) (i k : ℕ) (a : Action) → Paper.Uncut labels p i k a
paper_uncut = Paper.uncut

-- What the units hold are the action's elements as they are printed, parted by commas, and its part.
pub paper_units : (labels : List Label) (p : Problem) (a : Action) → joined (units labels (part_word a) (shown_elements p a)) ≡ commas (map (said labels) (shown_elements p a)) ++ part_word a
paper_units labels p a = Pages.units_joined labels (part_word a) (shown_elements p a)

-- Begin-proof, prove-goal and a round's end are one line, blank from column 29 on.
pub paper_bare : (labels : List Label) (p : Problem) (i k : ℕ) (a : Action) → (a ≡ begin_proof) ⊎ ((a ≡ prove_goal) ⊎ (a ≡ round_end))
    → step_lines labels p i k a ≡ ((right 7 (decimal i) ++ (32 ∷ (right 7 (decimal k) ++ (32 ∷ left 12 (kind_word a))))) ++ spaces 44) ∷ []
paper_bare = Paper.bare

-- In a case that is read, a mark shows the name of its `every` line and the places of the tuple.
pub paper_marks : (L : CaseLimits) → L.elements ≤ 64 → (question site : List ℕ) (c : Case) → read_case L question site ≡ accepted c → (e : Relation) → c.question.every ≡ some e
    → (k r row : ℕ) (a : Action) → (a ≡ mark_in r row) ⊎ (a ≡ mark_out r row) → action_at (problem_of c) k ≡ some a
    → (subject_word (problem_of c) a ≡ e.name) × (shown_elements (problem_of c) a ≡ places_of c.site.size e.arity row)
paper_marks L few question site c is_case = Paper.mark_shows c (gives_if Accepted (read_case L question site) c is_case (case_fits L few question site))

-- A page has the 59 lines of its place, and blank ones where there are fewer; all pages together have all lines of all steps, in order.
pub paper_page : (lines : List (List ℕ)) (m : ℕ) → page_lines lines m ≡ take 59 (drop (59 * m) lines) ++ replicate (59 - length (drop (59 * m) lines)) blank_line
paper_page = Pages.page_lines_are

pub paper_pages : (lines : List (List ℕ)) → flat_map (λ m. take 59 (drop (59 * m) lines)) (below (pages lines)) ≡ lines
paper_pages = Pages.pages_together

-- A step's index and its action's number are read back from columns 1 to 7 and 9 to 15 of its first line, a page's number from columns 67 to
-- 72 of its last.
pub paper_head : (labels : List Label) (p : Problem) (i k : ℕ) (a : Action) → i < 10 ^ 7 → k < 10 ^ 7 → (line : List ℕ) (further : List (List ℕ)) → step_lines labels p i k a ≡ line ∷ further
    → (number (unspaced (columns 1 7 line)) ≡ some i) × (number (unspaced (columns 9 7 line)) ≡ some k)
paper_head = head_read

pub paper_number : (lines : List (List ℕ)) → ((line : List ℕ) → Memᴰ line lines → length line ≡ 72) → (m : ℕ) → suc m < 10 ^ 6 → number (unspaced (columns 67 6 (drop 4307 (page_text lines m)))) ≡ some (suc m)
paper_number = page_read

-- Whatever is handed over: where something is refused before the steps run, nothing is written.
module _ (L : CaseLimits) (question site : List ℕ) (steps : ThirdInput) (m : ℕ) (state page : List ℕ) where
  pub paper_before : (k place : ℕ) → ready_to_run L question site steps (page_rooms (length state) (length page)) ≡ refused k place → lay_page L question site steps m state page ≡ record { answer = refused k place; state = state; page = page }
  paper_before = Paper.before L question site steps m state page

  -- Otherwise the state left is that of the run. A step that is refused, and then a page that is not there, are told, and no page is written;
  module _ (r : Ready (List ℕ)) (is_ready : ready_to_run L question site steps (page_rooms (length state) (length page)) ≡ accepted r) where
    pub paper_run : (k place : ℕ) → (run r.problem r.third).answer ≡ refused k place
        → lay_page L question site steps m state page ≡ record { answer = refused k place; state = written (state_words r.problem (run r.problem r.third).state) state; page = page }
    paper_run = Paper.in_run L question site steps m state page r is_ready

    pub paper_none : (n : ℕ) → (run r.problem r.third).answer ≡ accepted n → is_between 1 (pages (lines_of r.labels r.problem r.third)) m ≡ false
        → lay_page L question site steps m state page ≡ record { answer = refused 13 m; state = written (state_words r.problem (run r.problem r.third).state) state; page = page }
    paper_none = Paper.no_page L question site steps m state page r is_ready

    -- and a page that is there is written.
    pub paper_laid : (n : ℕ) → (run r.problem r.third).answer ≡ accepted n → is_between 1 (pages (lines_of r.labels r.problem r.third)) m ≡ true
        → lay_page L question site steps m state page
        ≡ record { answer = accepted (length (page_text (lines_of r.labels r.problem r.third) (m - 1))); state = written (state_words r.problem (run r.problem r.third).state) state; page = written (page_text (lines_of r.labels r.problem r.third) (m - 1)) page }
    paper_laid = Paper.a_page L question site steps m state page r is_ready

  -- With room for a page the state left is that of checking the same steps, and what checking refuses is refused so.
  pub paper_checked : 4380 ≤ length page
      → ((lay_page L question site steps m state page).state ≡ (check_steps L question site steps state).state)
      × ((k place : ℕ) → (check_steps L question site steps state).answer ≡ refused k place → (lay_page L question site steps m state page).answer ≡ refused k place)
  paper_checked h = (Paper.state_checked L question site steps m state page h, Paper.refusal_checked L question site steps m state page h)

  -- Its numbers are those of checking; every refusal leaves the page's buffer as it was, and one before the steps run the state's too.
  pub paper_refuse : (k place : ℕ) → (lay_page L question site steps m state page).answer ≡ refused k place
      → (is_in k (ready_numbers ++ run_numbers) ≡ true) × ((lay_page L question site steps m state page).page ≡ page) × (is_in k ready_numbers ≡ true → (lay_page L question site steps m state page).state ≡ state)
  paper_refuse k place e = let (f, g) = Paper.page_leaves L question site steps m state page k place e in (Refusals.page_refuse L question site steps m state page k place e, f, g)

-- By the usual limits every line has 72 columns and every page 4,380 bytes, and both buffers keep their length.
module _ (question site : List ℕ) (steps : ThirdInput) where
  pub paper_lines : (rooms : Problem → Result (Unit {0})) (r : Ready (List ℕ)) → ready_to_run usual question site steps rooms ≡ accepted r
      → (line : List ℕ) → Memᴰ line (lines_of r.labels r.problem r.third) → length line ≡ 72
  paper_lines rooms r e = Shown.ready_lines question site steps rooms r e

  pub paper_bytes : (m : ℕ) (state page : List ℕ) (n : ℕ) → (lay_page usual question site steps m state page).answer ≡ accepted n → n ≡ 4380
  paper_bytes = Paper.page_bytes question site steps

  pub paper_length : (m : ℕ) (state page : List ℕ) → (length (lay_page usual question site steps m state page).state ≡ length state) × (length (lay_page usual question site steps m state page).page ≡ length page)
  paper_length = Paper.page_length question site steps
