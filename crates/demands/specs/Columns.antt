-- Numbers on paper, read back from the columns they stand in.
use Rattle.std.specs.Prelude.{ℕ, zero, suc, ◌-◌, ◌^◌, ◌≤◌, ◌<◌, ◌≡◌, refl, true, ◌&&◌, eqb, leb, length, drop, if◌then◌else◌}
use Rattle.std.proofs.Common.{sym, ◌∙◌, arith, leb→le, length-append, ne_eqb}
use Rattle.std.proofs.Math.Path.{ap}
use Rattle.std.proofs.Math.Option.{some}
use mathlib.Core.List.{List, [], ◌∷◌, ◌++◌, map, append_assoc}
use Rattle.std.proofs.Math.ListN.{take}
use Rattle.std.proofs.Math.Seq.{take_at, drop_at}
use Rattle.definitions.specs.Lists.{all, flat_map}
use Rattle.definitions.specs.Sheet.Text.{decimal, is_between, is_digit, number}
use Rattle.definitions.specs.Sheet.Sheets.{Label}
use Rattle.definitions.specs.Problem.Atoms.{Problem}
use Rattle.definitions.specs.Problem.Actions.{Action}
use Rattle.definitions.specs.Reply.Page.{spaces, left, right, kind_word, subject_word, part_word, shown_elements, units, step_head, headed, step_lines, ended_line, page_lines, page_text}
use Rattle.laws.specs.Booleans.{T_of, T_and_l}
use Rattle.laws.specs.Decimals.{digits_of, number_decimal, decimal_length}
use Rattle.laws.specs.Pages.{Each, joined, packed_groups, spaces_length, right_length, ended_length, page_lines_count, page_lines_long}

-- so many columns of a line, from one on, which are counted from 1
unfoldable pub columns : (from count : ℕ) → List ℕ → List ℕ
columns from count line = take count (drop (from - 1) line)

-- the number that stands there, after spaces
unfoldable pub unspaced : List ℕ → List ℕ
unspaced [] = []
unspaced (b ∷ bs) = if eqb b 32 then unspaced bs else b ∷ bs

after_spaces : (k : ℕ) (text : List ℕ) → unspaced (spaces k ++ text) ≡ unspaced text
unfolding unspaced spaces
after_spaces zero text = refl
after_spaces (suc k) text = after_spaces k text

digits_stay : (bs : List ℕ) → all is_digit bs ≡ true → unspaced bs ≡ bs
unfolding unspaced all is_digit is_between
digits_stay [] e = refl
digits_stay (b ∷ bs) e =
    let l : 48 ≤ b = leb→le 48 b (T_and_l (leb 48 b) (leb b 57) (T_and_l (leb 48 b && leb b 57) (all is_digit bs) (T_of e))) in
    rw (ne_eqb b 32 (λ q. omega arith)) refl

-- a number that stands right is read
right_read : (k n : ℕ) → n < 10 ^ 7 → number (unspaced (right k (decimal n))) ≡ some n
unfolding right decimal
right_read k n h = ap number (after_spaces (k - length (decimal n)) (decimal n) ∙ digits_stay (decimal n) (digits_of 20 n)) ∙ number_decimal n h

-- ---- the index of a step and the number of its action, in its first line
module _ (p : Problem) (i k : ℕ) (a : Action) (hi : i < 10 ^ 7) (hk : k < 10 ^ 7) (rest : List ℕ) where
  abbrev behind : List ℕ
  behind = left 12 (kind_word a) ++ (32 ∷ (left 12 (subject_word p a) ++ (32 ∷ [])))

  index_long : length (right 7 (decimal i)) ≡ 7
  index_long = right_length 7 (decimal i) (decimal_length 6 i hi)

  number_long : length (right 7 (decimal k)) ≡ 7
  number_long = right_length 7 (decimal k) (decimal_length 6 k hk)

  head_is : step_head p i k a ++ rest ≡ right 7 (decimal i) ++ (32 ∷ (right 7 (decimal k) ++ ((32 ∷ behind) ++ rest)))
  unfolding step_head
  head_is = append_assoc (right 7 (decimal i)) (32 ∷ (right 7 (decimal k) ++ (32 ∷ behind))) rest ∙ ap (λ (l : List ℕ). right 7 (decimal i) ++ (32 ∷ l)) (append_assoc (right 7 (decimal k)) (32 ∷ behind) rest)

  index_columns : columns 1 7 (step_head p i k a ++ rest) ≡ right 7 (decimal i)
  unfolding columns
  index_columns = ap (take 7) head_is ∙ take_at (right 7 (decimal i)) _ 7 index_long

  number_columns : columns 9 7 (step_head p i k a ++ rest) ≡ right 7 (decimal k)
  unfolding columns
  number_columns =
      ap (λ (l : List ℕ). take 7 (drop 8 l)) head_is
      ∙ ap (take 7) (ap (drop 8) (sym (append_assoc (right 7 (decimal i)) (32 ∷ []) (right 7 (decimal k) ++ ((32 ∷ behind) ++ rest))))
      ∙ drop_at (right 7 (decimal i) ++ (32 ∷ [])) (right 7 (decimal k) ++ ((32 ∷ behind) ++ rest)) 8 (length-append (right 7 (decimal i)) (32 ∷ []) ∙ omega (arith, index_long)))
      ∙ take_at (right 7 (decimal k)) _ 7 number_long

pub head_read : (labels : List Label) (p : Problem) (i k : ℕ) (a : Action) → i < 10 ^ 7 → k < 10 ^ 7 → (line : List ℕ) (further : List (List ℕ)) → step_lines labels p i k a ≡ line ∷ further
    → (number (unspaced (columns 1 7 line)) ≡ some i) × (number (unspaced (columns 9 7 line)) ≡ some k)
unfolding step_lines headed
head_read labels p i k a hi hk line further e =
    let (g, gs, q, f) = packed_groups [] (units labels (part_word a) (shown_elements p a)) in
    let rest : List ℕ = left 30 (joined g) in
    let same : (step_head p i k a ++ rest) ∷ map (λ y. spaces 42 ++ left 30 y) (map joined gs) ≡ line ∷ further = sym (ap (headed (step_head p i k a)) q) ∙ e in
    let is : step_head p i k a ++ rest ≡ line = cc in (
      ap (λ (l : List ℕ). number (unspaced (columns 1 7 l))) (sym is) ∙ ap (λ (l : List ℕ). number (unspaced l)) (index_columns p i k a hi hk rest) ∙ right_read 7 i hi,
      ap (λ (l : List ℕ). number (unspaced (columns 9 7 l))) (sym is) ∙ ap (λ (l : List ℕ). number (unspaced l)) (number_columns p i k a hi hk rest) ∙ right_read 7 k hk,
    )

-- ---- the number of a page, in its last line
pub page_read : (lines : List (List ℕ)) → Each (λ y. length y ≡ 72) lines → (m : ℕ) → suc m < 10 ^ 6 → number (unspaced (columns 67 6 (drop 4307 (page_text lines m)))) ≡ some (suc m)
unfolding page_text columns ended_line
page_read lines L m h =
    let body : List ℕ = flat_map ended_line (page_lines lines m) in
    let foot : List ℕ = right 6 (decimal (suc m)) in
    let long : length body ≡ 4307 = ended_length (page_lines lines m) (page_lines_long lines L m) ∙ omega (arith, page_lines_count lines m) in
    let last : drop 4307 (body ++ ((spaces 66 ++ foot) ++ (10 ∷ []))) ≡ spaces 66 ++ (foot ++ (10 ∷ [])) = drop_at body _ 4307 long ∙ append_assoc (spaces 66) foot (10 ∷ []) in
    let part : take 6 (drop 66 (spaces 66 ++ (foot ++ (10 ∷ [])))) ≡ foot = ap (take 6) (drop_at (spaces 66) _ 66 (spaces_length 66)) ∙ take_at foot (10 ∷ []) 6 (right_length 6 (decimal (suc m)) (decimal_length 5 (suc m) h)) in
    ap (λ (l : List ℕ). number (unspaced (take 6 (drop 66 l)))) last ∙ ap (λ (l : List ℕ). number (unspaced l)) part ∙ right_read 6 (suc m) (omega arith)
