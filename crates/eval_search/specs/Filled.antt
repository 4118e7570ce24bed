-- The words of one relation's cells, and of all: for each cell its own digit of the numbers of sixty-four lanes, x of them, or the complement.
use Rattle.std.specs.Prelude.{ℕ, ◌+◌, ◌-◌, ◌*◌, ◌<◌, ◌≤◌, ◌≡◌, refl, ◌⊎◌, Bool, true, false, List, ltb, length, get_or, set}
use Rattle.std.proofs.Common.{sym, ap, subst, ◌∙◌, inl, inr, ⊎_elim, arith, ltb-true, ltb-false, length-set, get_or-set_same, get_or-set_other}
use Rattle.bits.specs.Table.{digit}
use Rattle.eval_rule.specs.Lines.{agree}
use Rattle.problem_table.specs.Lines.{relation_line}
use Rattle.eval_search.specs.Counts.{cells_in, cells_to, words_to, cells_before, word_before}

-- of `count` rows the words from `at` on have digit left − 1, left − 2, .. of x; the other words stay
pub record Filled (x : ℕ → ℕ) (left at count : ℕ) (keeps : Bool) (before after : List ℕ) : Type 0 where
  pub long : length after ≡ length before
  pub word : (row j : ℕ) → row < count → j < 64 → digit (get_or after (at + row) 0) j ≡ agree (digit (x j) (left - 1 - row)) keeps
  pub other : (i : ℕ) → (i < at) ⊎ (at + count ≤ i) → get_or after i 0 ≡ get_or before i 0

module _ (x : ℕ → ℕ) (left at : ℕ) (keeps : Bool) where
  pub filled_none : (ws : List ℕ) → Filled x left at 0 keeps ws ws
  filled_none ws = record { long = refl; word = λ row j h l. absurd (omega arith); other = λ i h. refl }

  pub filled_more : (row : ℕ) (before ws : List ℕ) (w : ℕ) → Filled x left at row keeps before ws → at + row < length before
      → ((j : ℕ) → j < 64 → digit w j ≡ agree (digit (x j) (left - 1 - row)) keeps) → Filled x left at (row + 1) keeps before (set ws (at + row) w)
  filled_more row before ws w f h is = record {
    long = length-set ws (at + row) w ∙ f.long;
    word = λ r j l k. by_row r j l k (ltb r row) refl;
    other = λ i q. get_or-set_other ws (at + row) i w 0 (λ e. ⊎_elim (λ a. omega arith) (λ a. omega arith) q) ∙ f.other i (⊎_elim (λ a. inl a) (λ a. inr (omega arith)) q);
  }
    where
      by_row : (r j : ℕ) → r < row + 1 → j < 64 → (b : Bool) → ltb r row ≡ b → digit (get_or (set ws (at + row) w) (at + r) 0) j ≡ agree (digit (x j) (left - 1 - r)) keeps
      by_row r j l k true e =
          let q = ltb-true r row e in
          ap (λ (z : ℕ). digit z j) (get_or-set_other ws (at + row) (at + r) w 0 (λ s. omega arith)) ∙ f.word r j q k
      by_row r j l k false e =
          let q = ltb-false r row e in
          let s : r ≡ row = omega arith in
          ap (λ (z : ℕ). digit (get_or (set ws (at + row) w) (at + z) 0) j) s ∙ ap (λ (z : ℕ). digit z j) (get_or-set_same ws (at + row) w 0 (omega (arith, f.long)))
          ∙ is j k ∙ ap (λ (z : ℕ). agree (digit (x j) (left - 1 - z)) keeps) (sym s)

-- the cells of the relations before `upto`, by a table: each has the word of its bit among the picks
pub record CellsIn (table : List ℕ) (cells : ℕ) (x : ℕ → ℕ) (keeps : Bool) (upto : ℕ) (words : List ℕ) : Type 0 where
  pub cell : (r row j : ℕ) → r < upto → row < cells_in (relation_line table r) → j < 64
      → digit (get_or words (64 * words_to table r + row) 0) j ≡ agree (digit (x j) (cells - 1 - (cells_to table r + row))) keeps

pub cells_none : (table : List ℕ) (cells : ℕ) (x : ℕ → ℕ) (keeps : Bool) (words : List ℕ) → CellsIn table cells x keeps 0 words
cells_none table cells x keeps words = record { cell = λ r row j h l k. absurd (omega arith) }

-- one relation more
pub cells_more : (table : List ℕ) (cells : ℕ) (x : ℕ → ℕ) (keeps : Bool) (r left word count : ℕ) (before after : List ℕ) → cells_to table (r + 1) ≤ 64 → left + cells_to table r ≡ cells → word ≡ words_to table r → count ≡ cells_in (relation_line table r)
    → Filled x left (64 * word) count keeps before after → CellsIn table cells x keeps r before → CellsIn table cells x keeps (r + 1) after
cells_more table cells x keeps r left word count before after few e w k f c = record { cell = λ s row j h l q. by_test s row j h l q (ltb s r) refl }
  where
    by_test : (s row j : ℕ) → s < r + 1 → row < cells_in (relation_line table s) → j < 64 → (b : Bool) → ltb s r ≡ b → digit (get_or after (64 * words_to table s + row) 0) j ≡ agree (digit (x j) (cells - 1 - (cells_to table s + row))) keeps
    by_test s row j h l q true t =
        let m = ltb-true s r t in
        let a = cells_before table s r m in
        let b = word_before table s r row m l in
        let d = cells_before table r (r + 1) (omega arith) in
        ap (λ (z : ℕ). digit z j) (f.other (64 * words_to table s + row) (inl (omega arith))) ∙ c.cell s row j m l q
    by_test s row j h l q false t =
        let m = ltb-false s r t in
        let z : s ≡ r = omega arith in
        let l' = subst (λ (y : ℕ). row < cells_in (relation_line table y)) z l in
        let d : left - 1 - row ≡ cells - 1 - (cells_to table r + row) = omega arith in
        ap (λ (y : ℕ). digit (get_or after (64 * words_to table y + row) 0) j) z ∙ ap (λ (y : ℕ). digit (get_or after (64 * y + row) 0) j) (sym w)
        ∙ f.word row j (omega arith) q ∙ ap (λ (y : ℕ). agree (digit (x j) y) keeps) d ∙ ap (λ (y : ℕ). agree (digit (x j) (cells - 1 - (cells_to table y + row))) keeps) (sym z)
