-- The units of a step's elements, as the code goes through them: by the words of labels, and one element after another. Assumes nothing.
use Prim.Native.Nat.{ℕ, zero, suc, ◌+◌, ◌-◌, ◌*◌, ◌≤◌, ◌<◌}
use Rattle.std.specs.Prelude.{◌≡◌, length, Option, Some, None}
use Rattle.std.proofs.Math.Path.{refl, sym, ap}
use Rattle.std.proofs.Common.{◌∙◌, add-one, arith, length-drop, drop_of_length-le, length-take-le}
use mathlib.Core.List.{List, [], ◌∷◌, ◌++◌}
use Rattle.std.proofs.Math.ListN.{get_or, take, drop}
use Rattle.std.proofs.Math.Seq.{drop-cons}
use Rattle.definitions.specs.Sheet.Text.{decimal}
use Rattle.definitions.specs.Sheet.Sheets.{Label}
use Rattle.definitions.specs.Reply.Desk.{said}
use Rattle.definitions.specs.Reply.Page.{units}
use Rattle.print_line.specs.Lines.{Spans, spelled, said_by, part_is, fewer as fewer-spans}
use Rattle.print_bytes.specs.Emitted.{few_digits}

-- the words of labels have short spans of the site's text, for n elements
pub record Short (site labels : List ℕ) (n : ℕ) : Type 0 where
  pub spans : Spans site labels n
  pub short : (x : ℕ) → get_or labels (2 * x + 1) 0 ≤ get_or labels (2 * x) 0 + 12

-- a part by its number, where there is one
unfoldable pub part_text : Option ℕ → List ℕ
part_text None = []
part_text (Some i) = 47 ∷ decimal i

-- what stands right after an element that others follow, or none
unfoldable pub after : Option ℕ → List ℕ → List ℕ
after part [] = part_text part
after part (y ∷ ys) = 44 ∷ []

-- the units of elements that are left, and of all of them, said by any words
module _ (say : ℕ → List ℕ) (part : Option ℕ) where
  unfoldable pub units_from : List ℕ → List (List ℕ)
  units_from [] = []
  units_from (x ∷ xs) = (say x ++ after part xs) ∷ units_from xs

  unfoldable pub all_units : List ℕ → List (List ℕ)
  all_units [] = part_text part ∷ []
  all_units (x ∷ xs) = units_from (x ∷ xs)

  pub some_units : (xs : List ℕ) → 0 < length xs → all_units xs ≡ units_from xs
  unfolding all_units
  some_units [] h = absurd (omega arith)
  some_units (x ∷ xs) h = refl

  pub no_units : (xs : List ℕ) → length xs ≡ 0 → all_units xs ≡ part_text part ∷ []
  unfolding all_units
  no_units [] e = refl
  no_units (x ∷ xs) e = absurd (omega arith)

pub units_are : (labels : List Label) (part : Option ℕ) (xs : List ℕ) → units labels (part_text part) xs ≡ all_units (said labels) part xs
unfolding units all_units units_from after
units_are labels part [] = refl
units_are labels part (x ∷ []) = refl
units_are labels part (x ∷ y ∷ ys) = ap (λ (l : List (List ℕ)). (said labels x ++ (44 ∷ [])) ∷ l) (units_are labels part (y ∷ ys))

-- ---- an element's own text
module _ (site labels : List ℕ) (x from to : ℕ) (a : from ≡ get_or labels (2 * x) 0) (e : to ≡ get_or labels (2 * x + 1) 0) where
  pub said_number : to ≡ 0 → said_by site labels x ≡ decimal x
  unfolding said_by spelled
  said_number z = rw (sym a, sym e) (by_number to z)
    where
      by_number : (to : ℕ) → to ≡ 0 → spelled site x from to ≡ decimal x
      by_number zero z = refl
      by_number (suc to) z = absurd (omega arith)

  pub said_label : 0 < to → said_by site labels x ≡ take (to - from) (drop from site)
  unfolding said_by spelled
  said_label h = rw (sym a, sym e) (by_number to h)
    where
      by_number : (to : ℕ) → 0 < to → spelled site x from to ≡ take (to - from) (drop from site)
      by_number zero h = absurd (omega arith)
      by_number (suc to) h = part_is from (suc to) site

  pub its_span : (n : ℕ) → Short site labels n → x < n → (from ≤ to) × (to ≤ length site) × (to ≤ from + 12)
  its_span n S l = rw (a, e) ((S.spans.in_text x l).0, (S.spans.in_text x l).1, S.short x)

  pub label_length : (n : ℕ) → Short site labels n → x < n → 0 < to → to - from ≡ length (said_by site labels x)
  label_length n S i h =
      let (l, m, k) = its_span n S i in
      sym (ap length (said_label h) ∙ length-take-le (to - from) (drop from site) (omega (arith, length-drop from site)))

pub fewer : {site labels : List ℕ} {m n : ℕ} → Short site labels n → m ≤ n → Short site labels m
fewer S h = record { spans = fewer-spans S.spans h; short = S.short }

-- ---- a part, and what stands after an element
pub part_none : (part : Option ℕ) → part ≡ None → part_text part ≡ []
unfolding part_text
part_none part e = rw e

pub part_some : (part : Option ℕ) (i : ℕ) → part ≡ Some i → part_text part ≡ (47 ∷ []) ++ decimal i
unfolding part_text
part_some part i e = rw e

pub after_more : (part : Option ℕ) (xs : List ℕ) → 0 < length xs → after part xs ≡ 44 ∷ []
unfolding after
after_more part [] h = absurd (omega arith)
after_more part (x ∷ xs) h = refl

pub after_last : (part : Option ℕ) (xs : List ℕ) → length xs ≡ 0 → after part xs ≡ part_text part
unfolding after
after_last part [] e = refl
after_last part (x ∷ xs) e = absurd (omega arith)

-- ---- the units that are left, from index j on
module _ (say : ℕ → List ℕ) (part : Option ℕ) where
  pub next_unit : (xs : List ℕ) (j : ℕ) → j < length xs → units_from say part (drop j xs) ≡ (say (get_or xs j 0) ++ after part (drop (j + 1) xs)) ∷ units_from say part (drop (j + 1) xs)
  unfolding units_from
  next_unit xs j h = let e : drop j xs ≡ get_or xs j 0 ∷ drop (j + 1) xs = rw (add-one, drop-cons xs j 0) in ap (units_from say part) e

  pub last_unit : (xs : List ℕ) (j : ℕ) → length xs ≤ j → units_from say part (drop j xs) ≡ []
  unfolding units_from
  last_unit xs j h = ap (units_from say part) (drop_of_length-le xs h)

pub part_short : (part : Option ℕ) → length (part_text part) ≤ 21
unfolding part_text
part_short None = omega arith
part_short (Some i) = omega (arith, few_digits i)
