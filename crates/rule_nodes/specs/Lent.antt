-- Rows that are lent as bytes: which row stands where, and what a row that is written changes. Assumes nothing.
use Prim.Native.Nat.{ℕ, zero, suc, ◌+◌, ◌*◌, ◌≤◌, ◌<◌}
use Rattle.std.proofs.Common.{not-suc-le-zero, add-zero, zero-add, sym, ◌∙◌, inl, inr, length-set, get_or-set_same, get_or-set_other}
use Rattle.std.proofs.Math.Numerals.{unary_clauses}
use Rattle.std.proofs.Math.Decide.{dec_lt}
use native.Mathlib.Omega.{arith}
use Rattle.std.specs.Prelude.{◌≡◌, ◌⊎◌, length}
use Rattle.std.proofs.Math.Path.{refl, ap}
use mathlib.Core.List.{List, [], ◌∷◌, map}
use Rattle.std.proofs.Math.ListN.{get_or, set}
use Rattle.std.proofs.lemmas.List.Edits.{sets}
use Rattle.definitions.specs.Lists.{from, below}
use Rattle.rule_nodes.specs.Postorder.{row_at, rows_from, with_row}
use Rattle.rule_nodes.specs.declared.Row.{Row}

-- what stands past the end of the rows
abbrev pub no_row : Row
no_row = record { kind = 0; which = 0; many = 0; sort = 0; width = 0; levels = [] }

-- ---- the values of a function at the numbers from a on
module _ {A : Type 0} where
  at_from : (f : ℕ → A) (n a i : ℕ) (d : A) → i < n → get_or (map f (from a n)) i d ≡ f (a + i)
  unfolding from
  at_from f zero a i d h = absurd (not-suc-le-zero h)
  at_from f (suc n) a zero d h = let e : a ≡ a + 0 = omega arith in ap f e
  at_from f (suc n) a (suc i) d h = let e : suc a + i ≡ a + suc i = omega arith in at_from f n (suc a) i d (omega arith) ∙ ap f e

  same_from : (f g : ℕ → A) (n a : ℕ) → ((j : ℕ) → a ≤ j → g j ≡ f j) → map g (from a n) ≡ map f (from a n)
  unfolding from
  same_from f g zero a e = refl
  same_from f g (suc n) a e = rw (e a (omega arith), same_from f g n (suc a) (λ j h. e j (omega arith)))

  -- two functions that differ at one number
  set_from : (f g : ℕ → A) (n a i : ℕ) → i < n → ((j : ℕ) → (j ≡ a + i → ⊥) → g j ≡ f j) → map g (from a n) ≡ set (map f (from a n)) i (g (a + i))
  unfolding from
  set_from f g zero a i h e = absurd (not-suc-le-zero h)
  set_from f g (suc n) a zero h e = let z : a ≡ a + 0 = omega arith in rw (same_from f g n (suc a) (λ j h. e j (λ q. omega arith))) (ap (λ (x : A). x ∷ map f (from (suc a) n)) (ap g z))
  set_from f g (suc n) a (suc i) h e =
      let z : suc a + i ≡ a + suc i = omega arith in
      rw (e a (λ q. omega arith)) (ap (λ (l : List A). f a ∷ l) (set_from f g n (suc a) i (omega arith) (λ j q. e j (λ w. q (omega arith))) ∙ ap (λ (k : ℕ). set (map f (from (suc a) n)) i (g k)) z))

-- ---- which row stands where
pub rows_many : (b : List ℕ) (len nodes : ℕ) → length (rows_from b len nodes).at ≡ 64
unfolding from below
rows_many b len nodes = refl

pub row_there : (b : List ℕ) (len nodes i : ℕ) → i < 64 → get_or (rows_from b len nodes).at i no_row ≡ row_at b i
unfolding below
row_there b len nodes i h = at_from (row_at b) 64 0 i no_row h ∙ rw (zero-add i)

-- ---- bytes that are written at p
put_out : (vs l : List ℕ) (p q : ℕ) → (q < p) ⊎ (p + length vs ≤ q) → get_or (sets l p vs) q 0 ≡ get_or l q 0
put_out [] l p q h = refl
put_out (x ∷ vs) l p q (inl h) = put_out vs (set l p x) (suc p) q (inl (omega arith)) ∙ get_or-set_other l p q x 0 (λ e. omega arith)
put_out (x ∷ vs) l p q (inr h) = put_out vs (set l p x) (suc p) q (inr (omega arith)) ∙ get_or-set_other l p q x 0 (λ e. omega arith)

put_in : (vs l : List ℕ) (p k : ℕ) → k < length vs → p + length vs ≤ length l → get_or (sets l p vs) (p + k) 0 ≡ get_or vs k 0
put_in [] l p k h b = absurd (not-suc-le-zero h)
put_in (x ∷ vs) l p zero h b = put_out vs (set l p x) (suc p) (p + 0) (inl (omega arith)) ∙ rw (add-zero p) (get_or-set_same l p x 0 (omega arith))
put_in (x ∷ vs) l p (suc k) h b = let e : p + suc k ≡ suc p + k = omega arith in rw e (put_in vs (set l p x) (suc p) k (omega arith) (omega (arith, length-set l p x)))

-- ---- a row that is written
abbrev pub bytes_of : Row → List ℕ
bytes_of row = row.kind ∷ row.which ∷ row.many ∷ row.width ∷ get_or row.levels 0 0 ∷ get_or row.levels 1 0 ∷ get_or row.levels 2 0 ∷ row.sort ∷ []

three : (ls : List ℕ) → length ls ≡ 3 → get_or ls 0 0 ∷ get_or ls 1 0 ∷ get_or ls 2 0 ∷ [] ≡ ls
three [] e = absurd (omega arith)
three (x ∷ []) e = absurd (omega arith)
three (x ∷ y ∷ []) e = absurd (omega arith)
three (x ∷ y ∷ z ∷ []) e = refl
three (x ∷ y ∷ z ∷ w ∷ ls) e = absurd (omega arith)

-- bytes that agree from 8 * j on hold the same row j
same_row : (a b : List ℕ) (i j : ℕ) → ((k : ℕ) → k < 8 → get_or a (8 * i + k) 0 ≡ get_or b (8 * j + k) 0) → row_at a i ≡ row_at b j
unfolding row_at
same_row a b i j e = rw (first, e 1 (omega arith), e 2 (omega arith), e 3 (omega arith), e 4 (omega arith), e 5 (omega arith), e 6 (omega arith), e 7 (omega arith))
  where
    first : get_or a (8 * i) 0 ≡ get_or b (8 * j) 0
    first = rw (add-zero (8 * i), add-zero (8 * j)) at (e 0 (omega arith))

-- the stores of `put_row`
pub stored_row : (b : List ℕ) (p : ℕ) (r : Row) → set (set (set (set (set (set (set (set b p r.kind) (p + 1) r.which) (p + 2) r.many) (p + 3) r.width) (p + 4) (get_or r.levels 0 0)) (p + 5) (get_or r.levels 1 0)) (p + 6) (get_or r.levels 2 0)) (p + 7) r.sort ≡ sets b p (bytes_of r)
stored_row b p r = simp unary_clauses refl

module _ (b : List ℕ) (i : ℕ) (row : Row) where
  row_same : 8 * i + 8 ≤ length b → length row.levels ≡ 3 → row_at (sets b (8 * i) (bytes_of row)) i ≡ row
  unfolding row_at
  row_same h e =
      same_row (sets b (8 * i) (bytes_of row)) (bytes_of row) i 0
      (λ k q. put_in (bytes_of row) b (8 * i) k q h ∙ ap (λ (n : ℕ). get_or (bytes_of row) n 0) (sym (zero-add k)))
      ∙ ap (λ (ls : List ℕ). record { kind = row.kind; which = row.which; many = row.many; sort = row.sort; width = row.width; levels = ls })
      (three row.levels e)

  row_other : (j : ℕ) → (j ≡ i → ⊥) → row_at (sets b (8 * i) (bytes_of row)) j ≡ row_at b j
  row_other j n = same_row (sets b (8 * i) (bytes_of row)) b j j (λ k q. put_out (bytes_of row) b (8 * i) (8 * j + k) (side k q (dec_lt j i)))
    where
      side : (k : ℕ) → k < 8 → Dec (j < i) → (8 * j + k < 8 * i) ⊎ (8 * i + 8 ≤ 8 * j + k)
      side k q (yes c) = inl (omega arith)
      side k q (no c) = inr (omega arith)

  pub rows_put : length b ≡ 512 → i < 64 → length row.levels ≡ 3 → (len nodes : ℕ) → rows_from (sets b (8 * i) (bytes_of row)) len nodes ≡ with_row (rows_from b len nodes) i row
  unfolding below
  rows_put l h e len nodes =
      ap (λ (x : List Row). record { at = x; len = len; nodes = nodes })
      (set_from (row_at b) (row_at (sets b (8 * i) (bytes_of row))) 64 0 i h (λ j n. row_other j (λ q. n (omega arith)))
      ∙ ap (λ (r : Row). set (map (row_at b) (from 0 64)) i r) (rw (zero-add i) (row_same (omega arith) e)))
