-- The bytes of a step's lines, as the code writes them: unit after unit, and where one does not fit the rest of the line, its end, and the blank
-- columns of the next. Assumes nothing.
use Rattle.std.specs.Prelude.{Option, ℕ, ◌+◌, ◌-◌, ◌≤◌, ◌<◌, ◌≡◌, refl, Bool, false, List, [], ◌∷◌, ◌++◌, map, get_or, drop, if◌then◌else◌}
use Rattle.std.proofs.Common.{sym, ◌∙◌, append_assoc, append-nil, length-append, length-drop}
use Rattle.std.proofs.Math.Path.{ap}
use Rattle.std.proofs.Math.Bool.{true}
use native.Mathlib.Omega.{arith}
use Rattle.std.proofs.Math.Dec.{leb}
use Rattle.std.proofs.Math.ListN.{length}
use borrow.Author.Tests.{le-leb, lt-leb}
use Rattle.definitions.specs.Lists.{flat_map}
use Rattle.definitions.specs.Reply.Page.{spaces, left, packed, headed, ended_line}
use Rattle.print_units.specs.Units.{part_text, after, units_from, all_units, some_units, no_units, next_unit, last_unit}

-- what ends a line of which so many columns are used
unfoldable pub filled : ℕ → List ℕ
filled used = spaces (30 - used) ++ (10 ∷ [])

-- what stands before a unit: nothing where it fits, else the end of the line and the next one's blank columns
unfoldable pub further : (used len : ℕ) → List ℕ
further used len = if leb (used + len) 30 then [] else filled used ++ spaces 42

unfoldable pub used_after : (used len : ℕ) → ℕ
used_after used len = if leb (used + len) 30 then used + len else len

unfoldable pub streamed : ℕ → List (List ℕ) → List ℕ
streamed used [] = filled used
streamed used (u ∷ us) = further used (length u) ++ (u ++ streamed (used_after used (length u)) us)

-- the lines of units, of which the first has so many columns used
unfoldable pub lines_in : ℕ → List (List ℕ) → ℕ
lines_in used [] = 1
lines_in used (u ∷ us) = (if leb (used + length u) 30 then 0 else 1) + lines_in (used_after used (length u)) us

-- all further lines are headed by blanks
blank_head : (xs : List (List ℕ)) → map (λ y. spaces 42 ++ left 30 y) xs ≡ headed (spaces 42) xs
unfolding headed
blank_head [] = refl
blank_head (x ∷ xs) = refl

pub streamed_is : (head line : List ℕ) (us : List (List ℕ)) → flat_map ended_line (headed head (packed line us)) ≡ (head ++ line) ++ streamed (length line) us
unfolding flat_map ended_line headed packed left filled further used_after streamed
streamed_is head line [] = simp (append_assoc, append-nil)
streamed_is head line (u ∷ us) = by_test (leb (length line + length u) 30) (streamed_is head (line ++ u) us) (streamed_is (spaces 42) u us)
  where
    by_test : (b : Bool) → flat_map ended_line (headed head (packed (line ++ u) us)) ≡ (head ++ (line ++ u)) ++ streamed (length (line ++ u)) us
        → flat_map ended_line (headed (spaces 42) (packed u us)) ≡ (spaces 42 ++ u) ++ streamed (length u) us
        → flat_map ended_line (headed head (if b then packed (line ++ u) us else line ∷ packed u us))
        ≡ (head ++ line) ++ ((if b then [] else filled (length line) ++ spaces 42) ++ (u ++ streamed (if b then length line + length u else length u) us))
    by_test true e _ = e ∙ ap (λ (k : ℕ). (head ++ (line ++ u)) ++ streamed k us) (length-append line u) ∙ simp append_assoc
    by_test false _ e =
        ap (λ (l : List (List ℕ)). ended_line (head ++ left 30 line) ++ flat_map ended_line l) (blank_head (packed u us))
        ∙ ap (λ (t : List ℕ). ended_line (head ++ left 30 line) ++ t) e ∙ simp append_assoc

pub lines_are : (line : List ℕ) (us : List (List ℕ)) → length (packed line us) ≡ lines_in (length line) us
unfolding packed lines_in used_after
lines_are line [] = refl
lines_are line (u ∷ us) = by_test (leb (length line + length u) 30) (lines_are (line ++ u) us) (lines_are u us)
  where
    by_test : (b : Bool) → length (packed (line ++ u) us) ≡ lines_in (length (line ++ u)) us → length (packed u us) ≡ lines_in (length u) us
        → length (if b then packed (line ++ u) us else line ∷ packed u us) ≡ (if b then 0 else 1) + lines_in (if b then length line + length u else length u) us
    by_test true e _ = let d = ap (λ (k : ℕ). lines_in k us) (length-append line u) in omega arith
    by_test false _ e = omega arith

-- ---- by the test
pub fits_further : (used len : ℕ) → used + len ≤ 30 → (further used len ≡ []) × (used_after used len ≡ used + len)
unfolding further used_after
fits_further used len h = (rw (le-leb (used + len) 30 h) refl, rw (le-leb (used + len) 30 h) refl)

pub over_further : (used len : ℕ) → 30 < used + len → (further used len ≡ spaces (30 - used) ++ ((10 ∷ []) ++ spaces 42)) × (used_after used len ≡ len)
unfolding further used_after filled
over_further used len h = (rw (lt-leb (used + len) 30 h) (append_assoc (spaces (30 - used)) (10 ∷ []) (spaces 42)), rw (lt-leb (used + len) 30 h) refl)

pub filled_is : (used j : ℕ) → j ≡ 30 - used → filled used ≡ spaces j ++ (10 ∷ [])
unfolding filled
filled_is used j e = rw e

-- ---- from one unit to the next
unfoldable pub new_line : (used len : ℕ) → ℕ
new_line used len = if leb (used + len) 30 then 0 else 1

module _ (say : ℕ → List ℕ) (part : Option ℕ) (xs : List ℕ) where
  pub left_over : (j : ℕ) → length (drop (j + 1) xs) ≡ length xs - (j + 1)
  left_over j = length-drop (j + 1) xs

  module _ (used len j : ℕ) (h : j < length xs) (is-length : (ys : List ℕ) → length ys ≡ length xs - (j + 1) → len ≡ length (say (get_or xs j 0) ++ after part ys)) where
    abbrev x : ℕ
    x = get_or xs j 0

    unit_at : units_from say part (drop j xs) ≡ (say x ++ after part (drop (j + 1) xs)) ∷ units_from say part (drop (j + 1) xs)
    unit_at = next_unit say part xs j h

    pub stream_next : streamed used (units_from say part (drop j xs)) ≡ (further used len ++ (say x ++ after part (drop (j + 1) xs))) ++ streamed (used_after used len) (units_from say part (drop (j + 1) xs))
    unfolding streamed
    stream_next =
        ap (streamed used) unit_at ∙ rw (sym (is-length (drop (j + 1) xs) (left_over j)))
        (sym (append_assoc (further used len) (say x ++ after part (drop (j + 1) xs)) _))

    pub lines_next : lines_in used (units_from say part (drop j xs)) ≡ new_line used len + lines_in (used_after used len) (units_from say part (drop (j + 1) xs))
    unfolding lines_in new_line
    lines_next = ap (lines_in used) unit_at ∙ rw (sym (is-length (drop (j + 1) xs) (left_over j)))

  pub stream_end : (used j : ℕ) → length xs ≤ j → streamed used (units_from say part (drop j xs)) ≡ filled used
  unfolding streamed
  stream_end used j h = ap (streamed used) (last_unit say part xs j h)

  pub lines_end : (used j : ℕ) → length xs ≤ j → lines_in used (units_from say part (drop j xs)) ≡ 1
  unfolding lines_in
  lines_end used j h = ap (lines_in used) (last_unit say part xs j h)

  -- all units are those from the first on; where there is no element, the part
  pub all_from : 0 < length xs → all_units say part xs ≡ units_from say part (drop 0 xs)
  all_from h = some_units say part xs h

  pub stream_part : length xs ≡ 0 → length (part_text part) ≤ 30 → streamed 0 (all_units say part xs) ≡ part_text part ++ filled (length (part_text part))
  unfolding streamed
  stream_part e h =
      let (a, b) = fits_further 0 (length (part_text part)) (omega arith) in
      let z : 0 + length (part_text part) ≡ length (part_text part) = omega arith in
      ap (streamed 0) (no_units say part xs e) ∙ rw (a, b, z)

  pub lines_part : length xs ≡ 0 → length (part_text part) ≤ 30 → lines_in 0 (all_units say part xs) ≡ 1
  unfolding lines_in
  lines_part e h =
      let z : leb (0 + length (part_text part)) 30 ≡ true = le-leb (0 + length (part_text part)) 30 (omega arith) in
      ap (lines_in 0) (no_units say part xs e) ∙ rw z

pub new_none : (used len : ℕ) → used + len ≤ 30 → new_line used len ≡ 0
unfolding new_line
new_none used len h = rw (le-leb (used + len) 30 h) refl

pub new_one : (used len : ℕ) → 30 < used + len → new_line used len ≡ 1
unfolding new_line
new_one used len h = rw (lt-leb (used + len) 30 h) refl
