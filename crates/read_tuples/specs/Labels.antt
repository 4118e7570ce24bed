-- The labels of a site's elements as numbers: two for each of 64 elements, the span of its label in the site's text. Of the 256 after
-- them every second one is a hint, some element or 0, of which nothing is promised; the others are 0, so that nobody has a label there.
use Rattle.std.specs.Prelude.{ℕ, zero, suc, ◌+◌, ◌*◌, ◌≤◌, ◌<◌, ◌≡◌, Bool, not, List, [], ◌∷◌, ◌++◌, map, eqb, length, get_or, Result, Ok, Err}
use Rattle.std.proofs.Math.Option.{Option, none, some}
use Rattle.std.proofs.Math.Seq.{slice}
use Rattle.definitions.specs.Lists.{option}
use Rattle.definitions.specs.Refusal.{refused, accepted}
use Rattle.definitions.specs.Sheet.Sheets.{Element, Label, name_of, element_of, add_label}
use Rattle.laws.specs.Labels.{LabelsFit}
use Rattle.refusal.specs.declared.Cause.{Cause}
use Rattle.refusal.specs.Numbers.{number_of}

-- the name at a span, none where that ends at 0: a name is never empty
unfoldable pub spanned : List ℕ → ℕ → ℕ → Option (List ℕ)
spanned site a zero = none
spanned site a (suc e) = some (slice a (suc e) site)

-- the words say these labels of n elements
pub record LabelsAre (site words : List ℕ) (n : ℕ) (ls : List Label) : Type 0 where
  pub room : length words ≡ 384
  pub says : (x : ℕ) → name_of ls x ≡ spanned site (get_or words (2 * x) 0) (get_or words (2 * x + 1) 0)
  pub in_text : (x : ℕ) → x < 64 → (get_or words (2 * x) 0 ≤ get_or words (2 * x + 1) 0) × (get_or words (2 * x + 1) 0 ≤ length site)
  pub past : (x : ℕ) → 64 ≤ x → get_or words (2 * x + 1) 0 ≡ 0
  pub fit : LabelsFit n ls

-- words that say none, before a site is read
pub record NoLabels (words : List ℕ) : Type 0 where
  pub room : length words ≡ 384
  pub zeros : (i : ℕ) → get_or words i 0 ≡ 0

-- an element, or n where there is none; what fields mean so
unfoldable pub meant : ℕ → Option ℕ → ℕ
meant n o = option o n (λ x. x)

unfoldable pub values : ℕ → List Label → List Element → List ℕ
values n ls es = map (λ e. meant n (element_of ls e)) es

-- a field's number is not that of a name
unfoldable pub is_number : ℕ → Bool
is_number k = not (eqb k 10000000)

-- what adding a label gives, by the answer
unfoldable pub LabelAdds : List ℕ → ℕ → Element → List ℕ → List Label → ℕ → List ℕ → Result (Unit {0}) Cause → Type 0
LabelAdds site n e name ls at new (Ok u) =
    (l : Label) × (add_label (record { sized = some n; labels = ls; members = []; facts = [] }) at e name ≡ accepted (record { sized = some n; labels = ls ++ (l ∷ []); members = []; facts = [] })) × LabelsAre site new n (ls ++ (l ∷ []))
LabelAdds site n e name ls at new (Err k) = add_label (record { sized = some n; labels = ls; members = []; facts = [] }) at e name ≡ refused (number_of k) at

-- the same for any labels so far that the words say
unfoldable pub LabelAdded : List ℕ → ℕ → Element → List ℕ → List ℕ → List ℕ → Result (Unit {0}) Cause → Type 0
LabelAdded site n e name old new r = (ls : List Label) → (at : ℕ) → LabelsAre site old n ls → LabelAdds site n e name ls at new r
