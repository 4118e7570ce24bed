-- Document 02, job 7: the least picks that make the rule true.
use Rattle.std.specs.Prelude.{ℕ, zero, ◌/◌, ◌%◌, ◌^◌, Bool, ◌&&◌, List, [], ◌∷◌, map, length, eqb, ltb, if◌then◌else◌}
use Rattle.std.proofs.Math.Option.{Option}
use Rattle.definitions.specs.Limits.{CaseLimits, cell_limit}
use Rattle.definitions.specs.Lists.{Text, Words, position, below, flat_map}
use Rattle.definitions.specs.Refusal.{Result, refused, accepted, ◌>>=◌, refuse_if, given}
use Rattle.definitions.specs.Sheet.Relations.{Tuple}
use Rattle.definitions.specs.Problem.Truth.{Case, are_of_kinds, rule_is_true}
use Rattle.definitions.specs.Problem.Atoms.{Problem, relation_at, tuples_of, places_of}
use Rattle.definitions.specs.Problem.Built.{chosen_numbers}
use Rattle.definitions.specs.Reply.Outcome.{without_every, asked, nothing, room_for, picks_length, pick_words, written}

-- the cells: all tuples of each `choose`, in the order of the lines, and of the rows; of a function kind n × n, whatever its types
unfoldable pub cells_of : Problem → ℕ → List Tuple
cells_of p r = map (λ row. record { relation = r; places = places_of p.size (relation_at p r).arity row }) (below (tuples_of p.size (relation_at p r)))

unfoldable pub cells : Problem → List Tuple
cells p = flat_map (cells_of p) (chosen_numbers p)

-- the picks of a number: the cells whose binary digit is 1, where the first cell's is the most significant
unfoldable pub numbered : List Tuple → ℕ → List Tuple
numbered [] m = []
numbered (t ∷ ts) m = if eqb (m / 2 ^ length ts % 2) 1 then t ∷ numbered ts m else numbered ts m

-- of the declared kinds, and the rule is true of them
unfoldable pub meets : Case → List Tuple → Bool
meets c picks = are_of_kinds c picks && rule_is_true c picks

-- the least number whose picks are so
unfoldable pub least_number : Case → List Tuple → Option ℕ
least_number c ts = position (λ m. meets c (numbered ts m)) (below (2 ^ length ts))

-- 20: too many cells; 21: no picks are so
unfoldable pub least_picks : Case → List Tuple → Result (List Tuple)
least_picks c ts = do
  _ ← refuse_if (ltb cell_limit (length ts)) 20 zero
  m ← given (least_number c ts) 21 zero
  accepted (numbered ts m)

-- ---- the call: the words of these picks at the front of a lent buffer. Refusals in their order: the question, the site, 11, 23 of any
-- case with an `every` line, 12 where the buffer is too short, 20, 21. Success is 0, place 0.
unfoldable pub found_words : CaseLimits → (question site : Text) → (room : ℕ) → Result Words
found_words L question site room = do
  r ← asked L question site nothing nothing without_every (λ p. room_for (picks_length p) room)
  F ← least_picks r.case (cells r.problem)
  accepted (pick_words r.problem F)

pub record Found : Type 0 where
  pub answer : Result ℕ
  pub picks : Words

unfoldable pub found_from : Result Words → Words → Found
found_from (refused k place) old = record { answer = refused k place; picks = old }
found_from (accepted words) old = record { answer = accepted zero; picks = written words old }

unfoldable pub find : CaseLimits → (question site : Text) → Words → Found
find L question site old = found_from (found_words L question site (length old)) old
