-- Document 01, "The desk program": the bytes it prints for the bytes it reads; elements by their labels since document 02, job 1.
use Rattle.std.specs.Prelude.{ℕ, zero, ◌+◌, Bool, false, ◌||◌, List, [], ◌∷◌, ◌++◌, map, length, take, drop, ltb, if◌then◌else◌}
use Rattle.definitions.specs.Limits.{early, desk_bytes, desk_steps, desk_words}
use Rattle.definitions.specs.Lists.{Text, same, option, flat_map}
use Rattle.definitions.specs.Sheet.Text.{bytes, decimal, Line, lines, fields}
use Rattle.definitions.specs.Refusal.{Result, refused, accepted, ◌>>=◌, refuse_if}
use Rattle.definitions.specs.Sheet.Relations.{Tuple}
use Rattle.definitions.specs.Sheet.Sheets.{Label, name_of}
use Rattle.definitions.specs.Problem.Atoms.{Problem, relation_at, places_of}
use Rattle.definitions.specs.Problem.Strips.{run, picks_of}
use Rattle.definitions.specs.Problem.Built.{chosen_numbers, picked_rows}
use Rattle.definitions.specs.Reply.Outcome.{as_text, ready_to_run, Plan, plan, room_for, state_length, Sizes, sizes_of}

-- ---- the three sheets of one input: the question ends with the first `rule` line, or is all there is; the site ends before the
-- first `pick` or `step` line; the rest is picks or steps. A line's record word is all before its first tab.

unfoldable pub is_record : Text → List Text → Bool
is_record w [] = false
is_record w (f ∷ fs) = same f w

unfoldable pub is_rule : Line → Bool
is_rule l = is_record (bytes "rule") (fields l)

unfoldable pub is_step : Line → Bool
is_step l = is_record (bytes "step") (fields l)

unfoldable pub is_pick_or_step : Line → Bool
is_pick_or_step l = is_record (bytes "pick") (fields l) || is_step l

-- the place after the first `rule` line, and the place of the first `pick` or `step` line; the length where there is none
unfoldable pub after_rule : ℕ → List Line → ℕ
after_rule end [] = end
after_rule end (l ∷ ls) = if is_rule l then l.at + length l.content + 1 else after_rule end ls

unfoldable pub first_pick_or_step : ℕ → List Line → ℕ
first_pick_or_step end [] = end
first_pick_or_step end (l ∷ ls) = if is_pick_or_step l then l.at else first_pick_or_step end ls

pub record CaseSheets : Type 0 where
  pub question : Text
  pub site : Text
  pub rest : Text

unfoldable pub site_and_rest : Text → Text → ℕ → CaseSheets
site_and_rest question more cut = record { question = question; site = take cut more; rest = drop cut more }

unfoldable pub after_question : Text → Text → CaseSheets
after_question question more = site_and_rest question more (first_pick_or_step (length more) (lines more))

unfoldable pub cut_at : Text → ℕ → CaseSheets
cut_at input cut = after_question (take cut input) (drop cut input)

unfoldable pub sheets : Text → CaseSheets
sheets input = cut_at input (after_rule (length input) (lines input))

-- ---- what is printed

unfoldable pub print_line : List Text → Text
print_line [] = 10 ∷ []
print_line (f ∷ []) = f ++ (10 ∷ [])
print_line (f ∷ g ∷ fs) = f ++ (9 ∷ print_line (g ∷ fs))

unfoldable pub sizes_line : Sizes → Text
sizes_line s = print_line (bytes "sizes" ∷ decimal s.elements ∷ decimal s.atom_count ∷ decimal s.action_count ∷ decimal s.step_bound ∷ [])

unfoldable pub count_line : Problem → List Tuple → ℕ → Text
count_line p picks r = print_line (bytes "count" ∷ (relation_at p r).name ∷ decimal (length (picked_rows p picks r)) ∷ [])

-- an element as it is printed: its label, or its number where it has none
unfoldable pub said : List Label → ℕ → Text
said labels x = option (name_of labels x) (decimal x) (λ name. name)

unfoldable pub pick_line : List Label → Problem → ℕ → ℕ → Text
pick_line labels p r row = print_line (bytes "pick" ∷ (relation_at p r).name ∷ map (said labels) (places_of p.size (relation_at p r).arity row))

unfoldable pub step_line : ℕ → Text
step_line k = print_line (bytes "step" ∷ decimal k ∷ [])

-- the sizes; for each `choose` how many tuples are picked; the picks in the order of the atoms; the steps; the step count
unfoldable pub report : Plan → Text
report r =
    sizes_line (sizes_of r.problem)
    ++ (flat_map (count_line r.problem r.picks) (chosen_numbers r.problem)
    ++ (flat_map (λ k. flat_map (pick_line r.labels r.problem k) (picked_rows r.problem r.picks k)) (chosen_numbers r.problem)
    ++ (flat_map step_line r.steps ++ print_line (bytes "ok" ∷ decimal (length r.steps) ∷ []))))

-- a refusal is one line
unfoldable pub printed : Result Plan → Text
printed (refused k place) = print_line (bytes "no" ∷ decimal k ∷ decimal place ∷ [])
printed (accepted r) = report r

-- ---- a third sheet that begins with a `step` line is checked, any other is built from

unfoldable pub checked_plan : Text → Text → Text → Result Plan
checked_plan question site steps = do
  r ← ready_to_run early question site (as_text steps) (λ p. room_for (state_length p) desk_words)
  _ ← (run r.problem r.third).answer
  accepted (record { labels = r.labels; problem = r.problem; picks = picks_of r.problem r.third; steps = r.third })

unfoldable pub starts_with_step : List Line → Bool
starts_with_step [] = false
starts_with_step (l ∷ ls) = is_step l

unfoldable pub answer_of : CaseSheets → Result Plan
answer_of s =
    if starts_with_step (lines s.rest) then checked_plan s.question s.site s.rest
    else plan early s.question s.site (as_text s.rest) desk_words desk_steps

-- more input than the program reads is 1
unfoldable pub answer : Text → Result Plan
answer input = refuse_if (ltb desk_bytes (length input)) 1 zero >>= λ _. answer_of (sheets input)

unfoldable pub desk : Text → Text
desk input = printed (answer input)
