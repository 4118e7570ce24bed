-- The lines as parts one after another: words, names, and fields each after a tab. Assumes nothing.
use Prim.Native.Nat.{ℕ, zero, suc, ◌+◌, ◌-◌, ◌*◌, ◌/◌, ◌%◌, ◌^◌, ◌≤◌, ◌<◌}
use Rattle.std.specs.Prelude.{◌≡◌, length, get_or, take, drop}
use Rattle.std.proofs.Math.Path.{refl, ap}
use Rattle.std.proofs.Common.{sym, ◌∙◌, add-one, pow-suc, mul-div_cancel, drop_of_length-le, drop-cons}
use mathlib.Core.List.{List, [], ◌∷◌, ◌++◌, map, append_assoc}
use native.Mathlib.Omega.{arith}
use Rattle.std.proofs.Math.Seq.{slice, take-nil}
use Rattle.definitions.specs.Lists.{flat_map}
use Rattle.definitions.specs.Sheet.Text.{bytes, decimal}
use Rattle.definitions.specs.Reply.Outcome.{Sizes}
use Rattle.definitions.specs.Problem.Atoms.{places_of}
use Rattle.definitions.specs.Reply.Desk.{print_line, sizes_line, step_line}

-- ---- a text byte by byte

pub next_byte : (s : List ℕ) (i : ℕ) → i < length s → drop i s ≡ get_or s i 0 ∷ drop (i + 1) s
next_byte s i h = rw (add-one, drop-cons s i 0)

pub no_byte : (s : List ℕ) (i : ℕ) → length s ≤ i → drop i s ≡ []
no_byte s i h = drop_of_length-le s h

-- a part of a text, as the code lends it
pub part_is : (a e : ℕ) (q : List ℕ) → slice a e q ≡ take (e - a) (drop a q)
part_is zero e q = let z : e - 0 ≡ e = omega arith in rw z
part_is (suc a) zero [] = let z : 0 - suc a ≡ 0 = omega arith in rw z
part_is (suc a) zero (x ∷ q) = let z : 0 - suc a ≡ 0 = omega arith in rw z
part_is (suc a) (suc e) [] = sym (take-nil (suc e - suc a))
part_is (suc a) (suc e) (x ∷ q) = let z : suc e - suc a ≡ e - a = omega arith in rw z (part_is a e q)

-- a number as a field after another
unfoldable pub field : ℕ → List ℕ
field k = 9 ∷ decimal k

pub field_is : (k : ℕ) → field k ≡ (9 ∷ []) ++ decimal k
unfolding field
field_is k = refl

-- ---- Elements by their labels. Of each element the words of labels have the span of its label in the site's text, which ends at 0
-- where it has none.

unfoldable pub spelled : List ℕ → ℕ → (from to : ℕ) → List ℕ
spelled site x from zero = decimal x
spelled site x from (suc to) = slice from (suc to) site

unfoldable pub said_by : List ℕ → List ℕ → ℕ → List ℕ
said_by site labels x = spelled site x (get_or labels (2 * x) 0) (get_or labels (2 * x + 1) 0)

-- there are words for n elements, and the spans lie in the text
pub record Spans (site labels : List ℕ) (n : ℕ) : Type 0 where
  pub room : 2 * n ≤ length labels
  pub in_text : (x : ℕ) → x < n → (get_or labels (2 * x) 0 ≤ get_or labels (2 * x + 1) 0) × (get_or labels (2 * x + 1) 0 ≤ length site)

pub fewer : {site labels : List ℕ} {m n : ℕ} → Spans site labels n → m ≤ n → Spans site labels m
fewer S h = record { room = omega (arith, S.room); in_text = λ x l. S.in_text x (omega arith) }

-- an element as a field after another; several
unfoldable pub element : List ℕ → List ℕ → ℕ → List ℕ
element site labels x = 9 ∷ said_by site labels x

unfoldable pub elements : List ℕ → List ℕ → List ℕ → List ℕ
elements site labels xs = flat_map (element site labels) xs

pub element_is : (site labels : List ℕ) (x : ℕ) → element site labels x ≡ (9 ∷ []) ++ said_by site labels x
unfolding element
element_is site labels x = refl

module _ (site labels : List ℕ) (x from to : ℕ) (a : from ≡ get_or labels (2 * x) 0) (e : to ≡ get_or labels (2 * x + 1) 0) where
  its_element : element site labels x ≡ (9 ∷ []) ++ spelled site x from to
  unfolding element said_by
  its_element = rw (a, e)

  pub its_span : (n : ℕ) → Spans site labels n → x < n → (from ≤ to) × (to ≤ length site)
  its_span n S l = rw (a, e) (S.in_text x l)

  pub numbered : to ≡ 0 → element site labels x ≡ (9 ∷ []) ++ decimal x
  unfolding spelled
  numbered z = its_element ∙ rw z

  pub labelled : 0 < to → element site labels x ≡ (9 ∷ []) ++ take (to - from) (drop from site)
  unfolding spelled
  labelled h = its_element ∙ ap (λ (t : List ℕ). (9 ∷ []) ++ t) (by_number to h ∙ part_is from to site)
    where
      by_number : (to : ℕ) → 0 < to → spelled site x from to ≡ slice from to site
      by_number zero h = absurd (omega arith)
      by_number (suc to) h = refl

-- a line of a first field and elements
fields_is : (site labels f : List ℕ) (xs : List ℕ) → print_line (f ∷ map (said_by site labels) xs) ≡ f ++ (elements site labels xs ++ (10 ∷ []))
unfolding print_line element elements flat_map
fields_is site labels f [] = refl
fields_is site labels f (x ∷ xs) = ap (λ (t : List ℕ). f ++ (9 ∷ t)) (fields_is site labels (said_by site labels x) xs ∙ sym (append_assoc (said_by site labels x) (elements site labels xs) (10 ∷ [])))

-- ---- a line of a word and numbers, a field each
unfoldable pub fields : List ℕ → List ℕ
fields ks = flat_map field ks

pub line_is : (word ks : List ℕ) → print_line (word ∷ map decimal ks) ≡ word ++ (fields ks ++ (10 ∷ []))
unfolding print_line field flat_map fields
line_is word [] = refl
line_is word (k ∷ ks) = ap (λ (t : List ℕ). word ++ (9 ∷ t)) (line_is (decimal k) ks ∙ sym (append_assoc (decimal k) (fields ks) (10 ∷ [])))

-- the fields that are left, and the line's end
pub next_field : (ks : List ℕ) (i : ℕ) → i < length ks → fields (drop i ks) ++ (10 ∷ []) ≡ field (get_or ks i 0) ++ (fields (drop (i + 1) ks) ++ (10 ∷ []))
unfolding flat_map fields
next_field ks i h = ap (λ (l : List ℕ). fields l ++ (10 ∷ [])) (next_byte ks i h) ∙ append_assoc (field (get_or ks i 0)) (fields (drop (i + 1) ks)) (10 ∷ [])

pub no_field : (ks : List ℕ) (i : ℕ) → length ks ≤ i → fields (drop i ks) ++ (10 ∷ []) ≡ 10 ∷ []
unfolding flat_map fields
no_field ks i h = ap (λ (l : List ℕ). fields l ++ (10 ∷ [])) (no_byte ks i h)

-- ---- the lines, their words byte by byte

pub no_is : (k place : ℕ) → print_line (bytes "no" ∷ decimal k ∷ decimal place ∷ []) ≡ (110 ∷ 111 ∷ []) ++ (field k ++ (field place ++ (10 ∷ [])))
unfolding print_line field
no_is k place = refl

pub ok_is : (k : ℕ) → print_line (bytes "ok" ∷ decimal k ∷ []) ≡ (111 ∷ 107 ∷ []) ++ (field k ++ (10 ∷ []))
unfolding print_line field
ok_is k = refl

pub step_is : (k : ℕ) → step_line k ≡ (115 ∷ 116 ∷ 101 ∷ 112 ∷ []) ++ (field k ++ (10 ∷ []))
unfolding step_line print_line field
step_is k = refl

pub sizes_is : (s : Sizes) → sizes_line s ≡ (115 ∷ 105 ∷ 122 ∷ 101 ∷ 115 ∷ []) ++ (field s.elements ++ (field s.atom_count ++ (field s.action_count ++ (field s.step_bound ++ (10 ∷ [])))))
unfolding sizes_line print_line field
sizes_is s = refl

pub count_is : (name : List ℕ) (k : ℕ) → print_line (bytes "count" ∷ name ∷ decimal k ∷ []) ≡ (99 ∷ 111 ∷ 117 ∷ 110 ∷ 116 ∷ 9 ∷ []) ++ (name ++ (field k ++ (10 ∷ [])))
unfolding print_line field
count_is name k = refl

pub pick_is : (site labels name xs : List ℕ) → print_line (bytes "pick" ∷ name ∷ map (said_by site labels) xs) ≡ (112 ∷ 105 ∷ 99 ∷ 107 ∷ 9 ∷ []) ++ (name ++ (elements site labels xs ++ (10 ∷ [])))
unfolding print_line
pick_is site labels name xs = ap (λ (t : List ℕ). 112 ∷ 105 ∷ 99 ∷ 107 ∷ 9 ∷ t) (fields_is site labels name xs)

-- ---- the places of a row, the most significant first

module _ (site labels : List ℕ) where
  pub no_places : (n k row : ℕ) → k ≤ 0 → elements site labels (places_of n k row) ≡ []
  unfolding places_of elements flat_map
  no_places n zero row h = refl
  no_places n (suc k) row h = absurd (omega arith)

  pub next_place : (n k row : ℕ) → 0 < k → elements site labels (places_of n k row) ≡ element site labels (row / n ^ (k - 1) % n) ++ elements site labels (places_of n (k - 1) row)
  unfolding places_of elements flat_map
  next_place n zero row h = absurd (omega arith)
  next_place n (suc k) row h = let e : suc k - 1 ≡ k = omega arith in rw e

pub narrower : (n k w : ℕ) → 0 < n → 0 < k → w ≡ n ^ k → w / n ≡ n ^ (k - 1)
narrower n zero w p h e = absurd (omega arith)
narrower n (suc k) w p h e =
    let d : suc k - 1 ≡ k = omega arith in
    rw (e, d, pow-suc n k, mul-div_cancel (n ^ k) p)

-- ---- steps, one line after another

pub first_step : (ks : List ℕ) (i : ℕ) → i < length ks → flat_map step_line (drop i ks) ≡ step_line (get_or ks i 0) ++ flat_map step_line (drop (i + 1) ks)
unfolding flat_map
first_step ks i h = ap (flat_map step_line) (next_byte ks i h)

pub no_step : (ks : List ℕ) (i : ℕ) → length ks ≤ i → flat_map step_line (drop i ks) ≡ []
unfolding flat_map
no_step ks i h = ap (flat_map step_line) (no_byte ks i h)
