-- Cells and words of picks, counted through the relations of a table, and the words of a number's picks.
use Prim.Native.Nat.{ℕ, zero, suc, ◌+◌, ◌-◌, ◌*◌, ◌/◌, ◌%◌, ◌^◌, ◌<◌, ◌≤◌}
use Rattle.std.specs.Prelude.{◌≡◌, Bool, ◌&&◌, length, set, if◌then◌else◌}
use Rattle.std.proofs.Math.Path.{refl, sym, ap, ap₂, fun_ext}
use Rattle.std.proofs.Common.{subst, ◌∙◌, add-zero, ltb-true, ltb-false, pow_mono}
use Rattle.std.proofs.Math.Bool.{true, false}
use mathlib.Core.List.{List, [], ◌∷◌, ◌++◌, append-nil}
use native.Mathlib.Omega.{arith}
use Rattle.std.proofs.Math.Numerals.{add-one}
use Rattle.std.proofs.Math.Nat.{zero-add}
use Rattle.std.proofs.Math.Dec.{ltb}
use Rattle.std.proofs.Math.ListN.{take}
use Rattle.std.proofs.Math.Seq.{take-set-le, take-suc-set}
use Rattle.definitions.specs.Problem.Atoms.{words_for}
use Rattle.bits.specs.Table.{digit, word, words, num}
use Rattle.bits.proofs.Digit.{digit_ext, digit_word, word_lt, num_mod}
use Rattle.bits.proofs.Shifts.{right_digit, past_digit}
use Rattle.problem_table.specs.Lines.{relation_line, relation_place, relations_in, Fits}
use Rattle.problem_table.specs.declared.RelationLine.{RelationLine}
use Rattle.step_picks.specs.Words.{is_open, words_in}
use Rattle.step_picks.specs.Copies.{count_from, picks_in}

unfoldable pub cells_in : RelationLine → ℕ
cells_in x = if is_open x.kind then x.nots - x.tuples else zero

-- of the relations before r
unfoldable pub cells_to : List ℕ → ℕ → ℕ
cells_to w zero = zero
cells_to w (suc r) = cells_to w r + cells_in (relation_line w r)

unfoldable pub words_to : List ℕ → ℕ → ℕ
words_to w zero = zero
words_to w (suc r) = words_to w r + words_in (relation_line w r)

-- a relation's rows as number m picks them, where `before` cells stand before it, and the words of all relations before r
unfoldable pub row_picked : (cells m before : ℕ) → RelationLine → ℕ → Bool
row_picked cells m before x row = ltb row (cells_in x) && digit m (cells - 1 - (before + row))

unfoldable pub digits_to : List ℕ → (cells m r : ℕ) → List ℕ
digits_to w cells m zero = []
digits_to w cells m (suc r) = digits_to w cells m r ++ words (row_picked cells m (cells_to w r) (relation_line w r)) (words_in (relation_line w r))

module _ (x : RelationLine) where
  pub no_cells : is_open x.kind ≡ false → 0 ≡ cells_in x
  unfolding cells_in
  no_cells e = rw e

  pub some_cells : is_open x.kind ≡ true → (k : ℕ) → k ≡ x.nots - x.tuples → k ≡ cells_in x
  unfolding cells_in
  some_cells h k e = rw h e

  pub words_are : words_in x ≡ words_for (cells_in x)
  unfolding words_in cells_in words_for
  words_are = by_test (is_open x.kind)
    where
      by_test : (b : Bool) → (if b then (x.nots - x.tuples + 63) / 64 else zero) ≡ ((if b then x.nots - x.tuples else zero) + 63) / 64
      by_test true = refl
      by_test false = refl

  -- no words without cells, and never more; up to 64 cells have one
  pub words_few : (words_in x ≤ cells_in x) × (0 < cells_in x → 0 < words_in x) × (cells_in x ≤ 64 → words_in x ≤ 1)
  unfolding words_for
  words_few = let e = words_are in (omega arith, λ h. omega arith, λ h. omega arith)

module _ (w : List ℕ) where
  pub cells_next : (r : ℕ) → cells_to w (r + 1) ≡ cells_to w r + cells_in (relation_line w r)
  unfolding cells_to
  cells_next r = rw add-one refl

  pub words_next : (r : ℕ) → words_to w (r + 1) ≡ words_to w r + words_in (relation_line w r)
  unfolding words_to
  words_next r = rw add-one refl

  cells_grow : (r k : ℕ) → cells_to w r ≤ cells_to w (r + k)
  unfolding cells_to
  cells_grow r zero = rw (add-zero r) (omega arith)
  cells_grow r (suc k) = let e : r + suc k ≡ suc (r + k) = omega arith in rw e (omega (arith, cells_grow r k))

  words_grow : (r k : ℕ) → words_to w r ≤ words_to w (r + k)
  unfolding words_to
  words_grow r zero = rw (add-zero r) (omega arith)
  words_grow r (suc k) = let e : r + suc k ≡ suc (r + k) = omega arith in rw e (omega (arith, words_grow r k))

  -- the cells of a relation stand before those of a later one
  pub cells_before : (r s : ℕ) → r < s → cells_to w r + cells_in (relation_line w r) ≤ cells_to w s
  cells_before r s h =
      let e : r + 1 + (s - (r + 1)) ≡ s = omega arith in
      omega (arith, cells_next r, subst (λ (z : ℕ). cells_to w (r + 1) ≤ cells_to w z) e (cells_grow (r + 1) (s - (r + 1))))

  -- so does its word
  pub word_before : (r s row : ℕ) → r < s → row < cells_in (relation_line w r) → words_to w r + 1 ≤ words_to w s
  word_before r s row h l =
      let e : r + 1 + (s - (r + 1)) ≡ s = omega arith in
      omega (arith, words_next r, (words_few (relation_line w r)).1 (omega arith), subst (λ (z : ℕ). words_to w (r + 1) ≤ words_to w z) e (words_grow (r + 1) (s - (r + 1))))

  pub words_le : (r : ℕ) → words_to w r ≤ cells_to w r
  unfolding words_to cells_to
  words_le zero = omega arith
  words_le (suc r) = omega (arith, words_le r, (words_few (relation_line w r)).0)

  -- all words, counted from either end
  count_to : (k r : ℕ) → words_to w r + count_from w r k ≡ words_to w (r + k)
  unfolding count_from words_to
  count_to zero r = rw (add-zero r) (add-zero (words_to w r))
  count_to (suc k) r =
      let e : r + suc k ≡ suc r + k = omega arith in
      let z : words_to w r + (words_in (relation_line w r) + count_from w (suc r) k) ≡ words_to w r + words_in (relation_line w r) + count_from w (suc r) k = omega arith in
      z ∙ count_to k (suc r) ∙ ap (words_to w) (sym e)

  pub words_all : words_to w (relations_in w) ≡ picks_in w
  unfolding picks_in words_to
  words_all = ap (words_to w) (sym (zero-add (relations_in w))) ∙ sym (count_to (relations_in w) 0) ∙ zero-add (picks_in w)

-- the cells of a table are not many
cells_le : (x : RelationLine) → x.nots ≤ 2 ^ 32 → cells_in x ≤ 2 ^ 32
unfolding cells_in
cells_le x h = by_test (is_open x.kind)
  where
    by_test : (b : Bool) → (if b then x.nots - x.tuples else zero) ≤ 2 ^ 32
    by_test true = omega arith
    by_test false = omega arith

pub line_cells : (w : List ℕ) (r : ℕ) → Fits w → cells_in (relation_line w r) ≤ 2 ^ 32
unfolding relation_line
line_cells w r F = cells_le (relation_line w r) (F.entry (relation_place r + 2))

-- a line's cells, counted on
module _ (w : List ℕ) (r : ℕ) (x : RelationLine) (count : ℕ) where
  pub line_few : Fits w → x ≡ relation_line w r → count ≡ cells_in x → count ≤ 2 ^ 32
  line_few F e k = let q = ap cells_in e in omega (arith, line_cells w r F)

  pub cells_sum : (sum : ℕ) → x ≡ relation_line w r → count ≡ cells_in x → sum ≡ cells_to w r → sum + count ≡ cells_to w (r + 1)
  cells_sum sum e k s = let q = ap cells_in e in omega (arith, cells_next w r)

  pub words_sum : (word : ℕ) → x ≡ relation_line w r → word ≡ words_to w r → word + words_in x ≡ words_to w (r + 1)
  words_sum word e s = let q = ap words_in e in omega (arith, words_next w r)

  pub words_more : (word after : ℕ) → count ≡ words_in x → word + words_in x ≡ after → word + count ≡ after
  words_more word after e s = omega arith

  pub cells_at : x ≡ relation_line w r → count ≡ cells_in x → count ≡ cells_in (relation_line w r)
  cells_at e k = k ∙ ap cells_in e

pub cells_first : (w : List ℕ) (cells : ℕ) → cells + cells_to w 0 ≡ cells
unfolding cells_to
cells_first w cells = add-zero cells

pub digits_start : (w : List ℕ) (cells m : ℕ) (t : List ℕ) → take 0 t ≡ digits_to w cells m 0
unfolding digits_to
digits_start w cells m t = refl

pub cells_start : (w : List ℕ) → 0 ≡ cells_to w 0
unfolding cells_to
cells_start w = refl

pub words_start : (w : List ℕ) → 0 ≡ words_to w 0
unfolding words_to
words_start w = refl

-- ---- one relation more of a number's picks: the word after those written is the relation's, if it has one
module _ (w : List ℕ) (cells m r : ℕ) where
  words_one : (f : ℕ → Bool) (k v : ℕ) → k ≤ 1 → v ≡ word f 64 → (t : List ℕ) (i : ℕ) → i < length t → take (i + k) (set t i v) ≡ take i t ++ words f k
  unfolding words
  words_one f zero v h e t i l = let z : i + 0 ≡ i = omega arith in ap (λ (n : ℕ). take n (set t i v)) z ∙ take-set-le i t i v (omega arith) ∙ sym (append-nil (take i t))
  words_one f (suc zero) v h e t i l = ap (λ (n : ℕ). take n (set t i v)) (add-one i) ∙ take-suc-set t i v l ∙ ap (λ (n : ℕ). take i t ++ (n ∷ [])) e
  words_one f (suc (suc k)) v h e t i l = absurd (omega arith)

  pub digits_next : (t : List ℕ) (i v left count : ℕ) (x : RelationLine) → x ≡ relation_line w r → count ≡ cells_in x → count ≤ 64 → left + cells_to w r ≡ cells → v ≡ word (λ row. ltb row count && digit m (left - 1 - row)) 64
      → i ≡ words_to w r → i < length t → take i t ≡ digits_to w cells m r → take (i + words_in x) (set t i v) ≡ digits_to w cells m (r + 1)
  unfolding digits_to row_picked
  digits_next t i v left count x e k few s is at l done =
      rw add-one (words_one (row_picked cells m (cells_to w r) x) (words_in x) v ((words_few x).2 (omega arith)) (is ∙ same) t i l
      ∙ ap₂ (λ (a : List ℕ) (y : RelationLine). a ++ words (row_picked cells m (cells_to w r) y) (words_in y)) done e)
    where
      same : word (λ row. ltb row count && digit m (left - 1 - row)) 64 ≡ word (row_picked cells m (cells_to w r) x) 64
      same = ap (λ (f : ℕ → Bool). word f 64) (fun_ext (λ row. ap₂ (λ (a b : ℕ). ltb row a && digit m b) k (let q : left - 1 - row ≡ cells - 1 - (cells_to w r + row) = omega arith in q)))

-- ---- a relation's rows as bits, the last row first
module _ (m left count : ℕ) where
  -- the last i rows
  abbrev last_row : ℕ → ℕ → Bool
  last_row i k = digit m (left - count + i - 1 - k)

  pub rows_start : 0 ≡ word (last_row 0) 0
  unfolding word
  rows_start = refl

  pub rows_next : (i w : ℕ) → w ≡ word (last_row i) i → w * 2 + m / 2 ^ (left - count + i) % 2 ≡ word (last_row (i + 1)) (i + 1)
  unfolding word
  rows_next i w e = ap₂ (λ (a b : ℕ). a * 2 + b) (e ∙ ap (λ (f : ℕ → Bool). word f i) (fun_ext (λ k. ap (digit m) (let q : left - count + i - 1 - k ≡ left - count + suc i - 1 - suc k = omega arith in q)))) last
      ∙ sym (ap (λ (x : ℕ). word (last_row x) x) (add-one i))
    where
      last : m / 2 ^ (left - count + i) % 2 ≡ num (digit m (left - count + suc i - 1 - 0))
      last = sym (num_mod (m / 2 ^ (left - count + i))) ∙ ap num (right_digit m (left - count + i) 0 ∙ ap (digit m) (let q : left - count + i + 0 ≡ left - count + suc i - 1 - 0 = omega arith in q))

  pub rows_few : (i w : ℕ) → i ≤ 20 → w ≡ word (last_row i) i → w < 2 ^ 20
  rows_few i w h e = let p = pow_mono {i = i} {j = 20} h in let q = word_lt (last_row i) i in omega arith

  pub rows_end : count ≤ left → left ≤ 20 → (i w : ℕ) → i ≡ count → w ≡ word (last_row i) i → w ≡ word (λ row. ltb row count && digit m (left - 1 - row)) 64
  rows_end h few i w z e = digit_ext 64 w (word (λ row. ltb row count && digit m (left - 1 - row)) 64) (let p = pow_mono {i = count} {j = 64} (omega arith) in omega (arith, small)) (word_lt _ 64)
      (λ k l. by_row k (ltb k count) refl ∙ sym (digit_word (λ row. ltb row count && digit m (left - 1 - row)) 64 k l))
    where
      is : w ≡ word (last_row count) count
      is = e ∙ ap (λ (x : ℕ). word (last_row x) x) z

      small : w < 2 ^ count
      small = subst (λ (x : ℕ). x < 2 ^ count) (sym is) (word_lt (last_row count) count)

      by_row : (k : ℕ) (b : Bool) → ltb k count ≡ b → digit w k ≡ (ltb k count && digit m (left - 1 - k))
      by_row k true q =
          ap (λ (x : ℕ). digit x k) is ∙ digit_word (last_row count) count k (ltb-true k count q) ∙ ap (digit m) (let s : left - count + count - 1 - k ≡ left - 1 - k = omega arith in s)
          ∙ sym (ap (λ (b : Bool). b && digit m (left - 1 - k)) q)
      by_row k false q = past_digit w count k small (ltb-false k count q) ∙ sym (ap (λ (b : Bool). b && digit m (left - 1 - k)) q)

-- a table, its cells counted, and not too many to be searched
pub record Searchable (w : List ℕ) (cells : ℕ) : Type 0 where
  pub fits : Fits w
  pub counted : cells ≡ cells_to w (relations_in w)
  pub few : cells ≤ 20

-- a walk of its relations: what is left of the cells, and the words so far, at relation r
module _ (w : List ℕ) (cells r left word count : ℕ) (x : RelationLine) (s : Searchable w cells) (h : r < relations_in w) (e : x ≡ relation_line w r) (k : count ≡ cells_in x) (l : left + cells_to w r ≡ cells) (at : word ≡ words_to w r) where
  pub walk_few : (count ≤ left) × (left ≤ 20) × (word ≤ 20) × (words_in x ≤ 20) × (cells_to w (r + 1) ≤ 64)
  walk_few =
      let q = ap cells_in e in
      let v = ap words_in e in
      let a = cells_before w r (relations_in w) h in
      let b = s.counted in
      let d = s.few in
      let f = (words_few (relation_line w r)).0 in
      let g = words_le w r in
      let n = cells_next w r in
      (omega arith, omega arith, omega arith, omega arith, omega arith)

  pub walk_left : left - count + cells_to w (r + 1) ≡ cells
  walk_left = let q = walk_few.0 in let n = cells_sum w r x count (cells_to w r) e k refl in omega arith
