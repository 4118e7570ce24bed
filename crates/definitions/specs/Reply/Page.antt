-- Document 02, job 9, "The proof on paper": the steps of a checked case on pages of 60 lines, each of 72 columns and byte 10.
use Rattle.std.specs.Prelude.{ℕ, zero, suc, ◌+◌, ◌-◌, ◌*◌, ◌/◌, not, List, [], ◌∷◌, ◌++◌, map, length, take, drop, replicate, leb, if◌then◌else◌}
use Rattle.definitions.specs.Limits.{CaseLimits}
use Rattle.definitions.specs.Lists.{Steps, Text, Words, option, flat_map, map_from}
use Rattle.definitions.specs.Sheet.Text.{bytes, decimal, is_between}
use Rattle.definitions.specs.Refusal.{Result, refused, accepted, ◌>>=◌, refuse_if}
use Rattle.definitions.specs.Sheet.Sheets.{Label}
use Rattle.definitions.specs.Problem.Tree.{free}
use Rattle.definitions.specs.Problem.Atoms.{Problem, relation_at, node_at, places_of, state_words}
use Rattle.definitions.specs.Problem.Actions.{Action, set, begin_proof, prove_and, prove_or, prove_exists, prove_forall, prove_goal, round_end, mark_in, mark_out, action_at}
use Rattle.definitions.specs.Problem.Strips.{run}
use Rattle.definitions.specs.Reply.Outcome.{ThirdInput, Ready, ready_to_run, room_for, state_length, written}
use Rattle.definitions.specs.Reply.Desk.{said}

-- ---- columns: a text in k of them, left or right, the others filled with spaces (byte 32)
unfoldable pub spaces : ℕ → Text
spaces k = replicate k 32

unfoldable pub left : ℕ → Text → Text
left k text = text ++ spaces (k - length text)

unfoldable pub right : ℕ → Text → Text
right k text = spaces (k - length text) ++ text

-- ---- an action in words: its kind; its relation, or its node's preorder number; its elements, a node's free values before its
-- element or z; and what stands right after the last of them, of an `or` `/` (byte 47) and its part
unfoldable pub kind_word : Action → Text
kind_word (set r row) = bytes "set"
kind_word begin_proof = bytes "begin-proof"
kind_word (prove_and v row) = bytes "and"
kind_word (prove_or v row i) = bytes "or"
kind_word (prove_exists v row x) = bytes "exists"
kind_word (prove_forall v row z) = bytes "forall"
kind_word prove_goal = bytes "prove-goal"
kind_word round_end = bytes "round-end"
kind_word (mark_in r row) = bytes "mark-in"
kind_word (mark_out r row) = bytes "mark-out"

unfoldable pub subject_word : Problem → Action → Text
subject_word p (set r row) = (relation_at p r).name
subject_word p begin_proof = []
subject_word p (prove_and v row) = decimal v
subject_word p (prove_or v row i) = decimal v
subject_word p (prove_exists v row x) = decimal v
subject_word p (prove_forall v row z) = decimal v
subject_word p prove_goal = []
subject_word p round_end = []
subject_word p (mark_in r row) = (relation_at p r).name
subject_word p (mark_out r row) = (relation_at p r).name

unfoldable pub free_values : Problem → ℕ → ℕ → List ℕ
free_values p v row = places_of p.size (length (free (node_at p v))) row

unfoldable pub shown_elements : Problem → Action → List ℕ
shown_elements p (set r row) = places_of p.size (relation_at p r).arity row
shown_elements p begin_proof = []
shown_elements p (prove_and v row) = free_values p v row
shown_elements p (prove_or v row i) = free_values p v row
shown_elements p (prove_exists v row x) = free_values p v row ++ (x ∷ [])
shown_elements p (prove_forall v row z) = free_values p v row ++ (z ∷ [])
shown_elements p prove_goal = []
shown_elements p round_end = []
shown_elements p (mark_in r row) = places_of p.size (relation_at p r).arity row
shown_elements p (mark_out r row) = places_of p.size (relation_at p r).arity row

unfoldable pub part_word : Action → Text
part_word (set r row) = []
part_word begin_proof = []
part_word (prove_and v row) = []
part_word (prove_or v row i) = 47 ∷ decimal i
part_word (prove_exists v row x) = []
part_word (prove_forall v row z) = []
part_word prove_goal = []
part_word round_end = []
part_word (mark_in r row) = []
part_word (mark_out r row) = []

-- ---- What is never cut: each element as it is printed, its label or its number, with the comma (byte 44) or the part right after it.
-- Without elements the part stands alone.
unfoldable pub units : List Label → Text → List ℕ → List Text
units labels part [] = part ∷ []
units labels part (x ∷ []) = (said labels x ++ part) ∷ []
units labels part (x ∷ y ∷ ys) = (said labels x ++ (44 ∷ [])) ∷ units labels part (y ∷ ys)

-- units side by side while they fit in 30 columns; one that does not fit begins a further line. `line` is what the first line has so far.
unfoldable pub packed : Text → List Text → List Text
packed line [] = line ∷ []
packed line (u ∷ us) = if leb (length line + length u) 30 then packed (line ++ u) us else line ∷ packed u us

-- ---- the lines of a step: what stands before column 43 of the first, which is blank in the further ones; the elements
unfoldable pub step_head : Problem → ℕ → ℕ → Action → Text
step_head p i k a =
    right 7 (decimal i)
    ++ (32 ∷ (right 7 (decimal k) ++ (32 ∷ (left 12 (kind_word a) ++ (32 ∷ (left 12 (subject_word p a) ++ (32 ∷ [])))))))

unfoldable pub headed : Text → List Text → List Text
headed head [] = []
headed head (x ∷ xs) = (head ++ left 30 x) ∷ map (λ y. spaces 42 ++ left 30 y) xs

unfoldable pub step_lines : List Label → Problem → ℕ → ℕ → Action → List Text
step_lines labels p i k a = headed (step_head p i k a) (packed [] (units labels (part_word a) (shown_elements p a)))

-- all lines of all steps, in order; steps have their index, from 0
unfoldable pub lines_of : List Label → Problem → Steps → List Text
lines_of labels p steps = flat_map (λ (ls : List Text). ls) (map_from (λ i k. option (action_at p k) [] (step_lines labels p i k)) zero steps)

-- ---- pages: 59 lines each, blank ones at the end of the last, and a line with the page's number in columns 67 to 72
abbrev pub page_bytes : ℕ
page_bytes = 4380

unfoldable pub blank_line : Text
blank_line = spaces 72

unfoldable pub ended_line : Text → Text
ended_line line = line ++ (10 ∷ [])

unfoldable pub pages : List Text → ℕ
pages ls = (length ls + 58) / 59

-- the step lines of a page, which is the m-th from 0, and its text
unfoldable pub page_lines : List Text → ℕ → List Text
page_lines ls m = take 59 (drop (59 * m) ls ++ replicate 59 blank_line)

unfoldable pub page_text : List Text → ℕ → Text
page_text ls m = flat_map ended_line (page_lines ls m) ++ ended_line (spaces 66 ++ right 6 (decimal (suc m)))

-- page number m, from 1; 13 and m where there is none
unfoldable pub page_of : List Text → ℕ → Result Text
page_of ls m = refuse_if (not (is_between 1 (pages ls) m)) 13 m >>= λ _. accepted (page_text ls (m - 1))

-- ---- the call: 12 for the state, then for the page, which has 4,380 bytes; 13, 14 and 15 of the steps; the page's 13. The state left is
-- that of checking the steps. Success tells how many bytes were written; a refusal writes no page.
pub record Paged : Type 0 where
  pub answer : Result ℕ
  pub state : Words
  pub page : Text

unfoldable pub laid : Ready Steps → ℕ → Result Text
laid r m = (run r.problem r.third).answer >>= λ _. page_of (lines_of r.labels r.problem r.third) m

unfoldable pub page_if_laid : Result Text → Text → Text
page_if_laid (refused k place) old = old
page_if_laid (accepted text) old = written text old

unfoldable pub paged_from : Result (Ready Steps) → ℕ → Words → Text → Paged
paged_from (refused k place) m state page = record { answer = refused k place; state = state; page = page }
paged_from (accepted r) m state page =
    record {
      answer = laid r m >>= λ text. accepted (length text);
      state = written (state_words r.problem (run r.problem r.third).state) state;
      page = page_if_laid (laid r m) page;
    }

unfoldable pub page_rooms : ℕ → ℕ → Problem → Result (Unit {0})
page_rooms stateRoom pageRoom p = room_for (state_length p) stateRoom >>= λ _. room_for page_bytes pageRoom

unfoldable pub lay_page : CaseLimits → Text → Text → ThirdInput → ℕ → Words → Text → Paged
lay_page L question site steps m state page = paged_from (ready_to_run L question site steps (page_rooms (length state) (length page))) m state page
