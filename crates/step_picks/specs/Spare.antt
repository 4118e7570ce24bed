-- Spare bits of lent picks: a relation's last word alone can have any, above the bits of its tuples.
use Prim.Native.Nat.{ℕ, zero, suc, ◌+◌, ◌-◌, ◌*◌, ◌/◌, ◌%◌, ◌^◌, ◌≤◌, ◌<◌}
use Rattle.std.specs.Prelude.{◌≡◌, ◌⊎◌, Bool, ◌&&◌, List, ◌∷◌, drop, if◌then◌else◌}
use Rattle.std.proofs.Math.Path.{refl, sym, ap, ap₂}
use Rattle.std.proofs.Common.{subst, ◌∙◌, ⊎_elim, add-one, leb→le, pow_pos, shr_lt, get_or-drop, eq-eqb, ne_eqb, le-leb, ltb-true, ltb-false, eqb-true}
use Rattle.std.proofs.Math.Bool.{true, false}
use Rattle.std.proofs.Math.Option.{Option, none, some}
use Rattle.std.proofs.Math.Nat.{add-zero}
use native.Mathlib.Omega.{arith}
use Rattle.std.proofs.Math.Dec.{eqb, leb, ltb}
use Rattle.std.proofs.Math.ListN.{length, get_or}
use Rattle.std.proofs.Math.Seq.{drop-drop}
use Rattle.std.proofs.lemmas.Bool.{lt-leb, eqb-false}
use Rattle.bits.specs.Table.{digit, bit, Words}
use Rattle.bits.proofs.Digit.{digit_ext, digit_of_zero}
use Rattle.definitions.specs.Lists.{any, filter, option, position, from, below}
use Rattle.definitions.specs.Sheet.Relations.{is_chosen}
use Rattle.definitions.specs.Problem.Atoms.{Problem, relation_at, tuples_of, words_for}
use Rattle.definitions.specs.Problem.Built.{chosen_numbers}
use Rattle.definitions.specs.Reply.Outcome.{relation_words, bit_of, has_spare, spare_word}
use Rattle.laws.specs.Booleans.{T_of, lt_split}
use Rattle.laws.specs.Lists.{any_none, none_any, below_lt, from_mem, mem_from, length_below, get_or_below}
use Rattle.laws.specs.Positions.{position_none, position_at}
use Rattle.laws.specs.Words.{bit_is}
use Rattle.meaning.specs.Lent.{words_drop}
use Rattle.problem_table.specs.Lines.{relation_line}
use Rattle.problem_table.specs.Of.{Is}
use Rattle.problem_table.specs.declared.RelationLine.{RelationLine}
use Rattle.step_picks.specs.Words.{is_open, words_in}
use Rattle.step_picks.specs.WordLaws.{is_open_lem, tuples_are}
use Rattle.bits.proofs.Shifts.{right_digit}

-- whether a bit is set past so many tuples' bits, in the last of their words, which start with word `word`
unfoldable pub is_spare : List ℕ → ℕ → ℕ → Bool
is_spare w word tuples = if eqb (tuples % 64) 0 then false else ltb 0 (get_or w (word + tuples / 64) 0 / 2 ^ (tuples % 64))

-- the same for a relation's line; only a `choose` has words
unfoldable pub spare_in : List ℕ → ℕ → RelationLine → Bool
spare_in w word x = if is_open x.kind then is_spare w word (x.nots - x.tuples) else false

module _ (p : Problem) (u : List ℕ) (ok : Words u) (r : ℕ) where
  abbrev t : ℕ
  t = tuples_of p.size (relation_at p r)

  spare_before : (j : ℕ) → j < tuples_of p.size (relation_at p r) / 64 → has_spare p u r j ≡ false
  unfolding has_spare
  spare_before j h = any_none (λ i. leb t i && bit_of u i) (from (64 * j) 64) (λ i m.
      let q = from_mem 64 (64 * j) i m in
      ap (λ (b : Bool). b && bit_of u i) (lt-leb t i (omega (arith, q.1))))

  its_bit : (k : ℕ) → t % 64 + k < 64 → bit_of u (64 * (t / 64) + (t % 64 + k)) ≡ digit (get_or u (t / 64) 0 / 2 ^ (t % 64)) k
  unfolding bit
  its_bit k h =
      let e : (64 * (t / 64) + (t % 64 + k)) / 64 ≡ t / 64 = omega arith in
      let d : (64 * (t / 64) + (t % 64 + k)) % 64 ≡ t % 64 + k = omega arith in
      bit_is u (64 * (t / 64) + (t % 64 + k)) ∙ ap₂ (λ (j m : ℕ). digit (get_or u j 0) m) e d ∙ sym (right_digit (get_or u (t / 64) 0) (t % 64) k)

  spare_last : 0 < t % 64 → has_spare p u r (t / 64) ≡ ltb 0 (get_or u (t / 64) 0 / 2 ^ (t % 64))
  unfolding has_spare
  spare_last h = by_test (ltb 0 (get_or u (t / 64) 0 / 2 ^ (t % 64))) refl (any (λ i. leb t i && bit_of u i) (from (64 * (t / 64)) 64)) refl
    where
      high : ℕ
      high = get_or u (t / 64) 0 / 2 ^ (t % 64)

      -- where no digit is set, the number is 0
      none_set : any (λ i. leb t i && bit_of u i) (from (64 * (t / 64)) 64) ≡ false → high ≡ 0
      none_set e = digit_ext (64 - t % 64) high 0 (shr_lt (64 - t % 64) (t % 64) (let z : 64 - t % 64 + t % 64 ≡ 64 = omega arith in rw z (ok (t / 64)))) (pow_pos (64 - t % 64))
          (λ k l.
          let i : ℕ = 64 * (t / 64) + (t % 64 + k) in
          let a : (leb t i && bit_of u i) ≡ false = none_any (λ i. leb t i && bit_of u i) (from (64 * (t / 64)) 64) e i (mem_from 64 (64 * (t / 64)) i (omega arith) (omega arith)) in
          sym (its_bit k (omega arith)) ∙ sym (ap (λ (b : Bool). b && bit_of u i) (le-leb t i (omega arith))) ∙ a ∙ sym (digit_of_zero k))

      zero_none : high ≡ 0 → any (λ i. leb t i && bit_of u i) (from (64 * (t / 64)) 64) ≡ false
      zero_none e = any_none (λ i. leb t i && bit_of u i) (from (64 * (t / 64)) 64) (λ i m. let q = from_mem 64 (64 * (t / 64)) i m in each i q.0 q.1 (leb t i) refl)
        where
          each : (i : ℕ) → 64 * (t / 64) ≤ i → i < 64 * (t / 64) + 64 → (b : Bool) → leb t i ≡ b → (b && bit_of u i) ≡ false
          each i a b true q =
              let l = leb→le t i (T_of q) in
              let z : i ≡ 64 * (t / 64) + (t % 64 + (i - t)) = omega arith in
              ap (bit_of u) z ∙ its_bit (i - t) (omega arith) ∙ ap (λ (x : ℕ). digit x (i - t)) e ∙ digit_of_zero (i - t)
          each i a b false q = refl

      by_test : (b : Bool) → ltb 0 high ≡ b → (d : Bool) → any (λ i. leb t i && bit_of u i) (from (64 * (t / 64)) 64) ≡ d → d ≡ b
      by_test true e true q = refl
      by_test true e false q = let a = ltb-true 0 high e in let z = none_set q in absurd (omega arith)
      by_test false e d q = sym q ∙ zero_none (let a = ltb-false 0 high e in omega arith)

  -- of a relation's words, the last one has a spare bit set, or none has
  spare_position : position (has_spare p u r) (below (relation_words p r)) ≡ (if (if eqb (t % 64) 0 then false else ltb 0 (get_or u (t / 64) 0 / 2 ^ (t % 64))) then some (t / 64) else none)
  unfolding relation_words words_for
  spare_position = by_test (eqb (t % 64) 0) refl (ltb 0 (get_or u (t / 64) 0 / 2 ^ (t % 64))) refl
    where
      nowhere : ((j : ℕ) → j < relation_words p r → has_spare p u r j ≡ false) → position (has_spare p u r) (below (relation_words p r)) ≡ none
      nowhere f = position_none (has_spare p u r) (below (relation_words p r)) (any_none (has_spare p u r) (below (relation_words p r)) (λ j m. f j (below_lt (relation_words p r) j m)))

      by_test : (b : Bool) → eqb (t % 64) 0 ≡ b → (d : Bool) → ltb 0 (get_or u (t / 64) 0 / 2 ^ (t % 64)) ≡ d → position (has_spare p u r) (below (relation_words p r)) ≡ (if (if b then false else d) then some (t / 64) else none)
      by_test true e d q = let z = eqb-true (t % 64) 0 e in nowhere (λ j l. spare_before j (omega arith))
      by_test false e true q =
          let z = eqb-false (t % 64) 0 e in
          let l : t / 64 < relation_words p r = omega arith in
          position_at (has_spare p u r) (below (relation_words p r)) 0 (t / 64) (subst (λ (x : ℕ). t / 64 < x) (sym (length_below (relation_words p r))) l)
          (ap (has_spare p u r) (get_or_below (relation_words p r) (t / 64) l) ∙ spare_last (omega arith) ∙ q)
          (λ j h. ap (has_spare p u r) (get_or_below (relation_words p r) j (omega arith)) ∙ spare_before j h)
      by_test false e false q = let z = eqb-false (t % 64) 0 e in nowhere (λ j l. each j (lt_split j (t / 64) (omega arith)))
        where
          each : (j : ℕ) → (j < t / 64) ⊎ (j ≡ t / 64) → has_spare p u r j ≡ false
          each j s = ⊎_elim (λ h. spare_before j h) (λ same. ap (has_spare p u r) same ∙ spare_last (let z = eqb-false (t % 64) 0 e in omega arith) ∙ q) s

-- ---- the search, relation by relation: what is left of it from relation r on, whose words start with word `word`
unfoldable pub spare_from : Problem → List ℕ → ℕ → ℕ → Option ℕ
spare_from p picks r word = spare_word p (drop word picks) word (filter (λ r. is_chosen (relation_at p r).kind) (from r (length p.relations - r)))

pub spare_start : (p : Problem) (picks : List ℕ) → spare_word p picks zero (chosen_numbers p) ≡ spare_from p picks 0 0
unfolding spare_from chosen_numbers below
spare_start p picks = let z : length p.relations ≡ length p.relations - 0 = omega arith in ap (λ (k : ℕ). spare_word p picks zero (filter (λ r. is_chosen (relation_at p r).kind) (from 0 k))) z

pub spare_end : (p : Problem) (picks : List ℕ) (r word : ℕ) → length p.relations ≤ r → spare_from p picks r word ≡ none
unfolding spare_from spare_word filter from
spare_end p picks r word h = let z : length p.relations - r ≡ 0 = omega arith in rw z

module _ (p : Problem) (picks : List ℕ) (ok : Words picks) (r word : ℕ) (l : r < length p.relations) where
  abbrev rest : List ℕ
  rest = filter (λ r. is_chosen (relation_at p r).kind) (from (r + 1) (length p.relations - (r + 1)))

  from_next : from r (length p.relations - r) ≡ r ∷ from (r + 1) (length p.relations - (r + 1))
  unfolding from
  from_next = let z : length p.relations - r ≡ suc (length p.relations - (r + 1)) = omega arith in rw z (ap (λ (x : ℕ). r ∷ from x (length p.relations - (r + 1))) (sym (add-one r)))

  next_static : is_chosen (relation_at p r).kind ≡ false → spare_from p picks r word ≡ spare_from p picks (r + 1) (word + 0)
  unfolding spare_from filter
  next_static e = rw (from_next, e, add-zero word)

  next_chosen : is_chosen (relation_at p r).kind ≡ true → (b : Bool) → is_spare picks word (tuples_of p.size (relation_at p r)) ≡ b
      → spare_from p picks r word ≡ (if b then some (word + tuples_of p.size (relation_at p r) / 64) else spare_from p picks (r + 1) (word + relation_words p r))
  unfolding spare_from filter spare_word is_spare option
  next_chosen e b q =
      let n : ℕ = tuples_of p.size (relation_at p r) in
      let test : (if eqb (n % 64) 0 then false else ltb 0 (get_or (drop word picks) (n / 64) 0 / 2 ^ (n % 64))) ≡ b = rw (get_or-drop word picks (n / 64) 0) q in
      rw (from_next, e, spare_position p (drop word picks) (words_drop word picks ok) r, test, drop-drop (relation_words p r) word picks) (by_test b)
    where
      by_test : (b : Bool) → option (if b then some (tuples_of p.size (relation_at p r) / 64) else none) (spare_word p (drop (word + relation_words p r) picks) (word + relation_words p r) rest) (λ j. some (word + j))
          ≡ (if b then some (word + tuples_of p.size (relation_at p r) / 64) else spare_word p (drop (word + relation_words p r) picks) (word + relation_words p r) rest)
      by_test true = refl
      by_test false = refl

  -- by the table
  module _ (w : List ℕ) (is : Is p w) (x : RelationLine) (e : x ≡ relation_line w r) where
    pub spare_yes : spare_in picks word x ≡ true → (n : ℕ) → n ≡ x.nots - x.tuples → spare_from p picks r word ≡ some (word + n / 64)
    unfolding spare_in
    spare_yes t n m = by_test (is_open x.kind) refl t
      where
        by_test : (b : Bool) → is_open x.kind ≡ b → (if b then is_spare picks word (x.nots - x.tuples) else false) ≡ true → spare_from p picks r word ≡ some (word + n / 64)
        by_test false k t = absurd (T_of t)
        by_test true k t =
            let q = tuples_are p w is r l x e (x.nots - x.tuples) refl in
            next_chosen (sym (is_open_lem p w is r l x e) ∙ k) true (ap (is_spare picks word) (sym q) ∙ t) ∙ ap (λ (n : ℕ). some (word + n / 64)) (sym (m ∙ q))

    pub spare_no : spare_in picks word x ≡ false → (k : ℕ) → k ≡ words_in x → spare_from p picks r word ≡ spare_from p picks (r + 1) (word + k)
    unfolding spare_in words_in relation_words
    spare_no t k m = by_test (is_open x.kind) refl t ∙ ap (λ (k : ℕ). spare_from p picks (r + 1) (word + k)) (sym m)
      where
        by_test : (b : Bool) → is_open x.kind ≡ b → (if b then is_spare picks word (x.nots - x.tuples) else false) ≡ false → spare_from p picks r word ≡ spare_from p picks (r + 1) (word + (if b then words_for (x.nots - x.tuples) else zero))
        by_test false k t = next_static (sym (is_open_lem p w is r l x e) ∙ k)
        by_test true k t =
            let q = tuples_are p w is r l x e (x.nots - x.tuples) refl in
            next_chosen (sym (is_open_lem p w is r l x e) ∙ k) false (ap (is_spare picks word) (sym q) ∙ t) ∙ ap (λ (n : ℕ). spare_from p picks (r + 1) (word + words_for n)) (sym q)

-- ---- what the code tests
module _ (picks : List ℕ) (word : ℕ) (x : RelationLine) where
  pub line_none : is_open x.kind ≡ false → false ≡ spare_in picks word x
  unfolding spare_in
  line_none e = rw e

  pub line_some : is_open x.kind ≡ true → (n : ℕ) → n ≡ x.nots - x.tuples → (b : Bool) → b ≡ is_spare picks word n → b ≡ spare_in picks word x
  unfolding spare_in
  line_some e n m b q = rw (e, sym m) q

pub past_full : (picks : List ℕ) (word n : ℕ) → n % 64 ≡ 0 → false ≡ is_spare picks word n
unfolding is_spare
past_full picks word n z = rw (eq-eqb (n % 64) 0 z)

pub past_last : (picks : List ℕ) (word n : ℕ) → (n % 64 ≡ 0 → ⊥) → (v : ℕ) → v ≡ get_or picks (word + n / 64) 0 → ltb 0 (v / 2 ^ (n % 64)) ≡ is_spare picks word n
unfolding is_spare
past_last picks word n z v q = ap (λ (v : ℕ). ltb 0 (v / 2 ^ (n % 64))) q ∙ rw (ne_eqb (n % 64) 0 z) refl
