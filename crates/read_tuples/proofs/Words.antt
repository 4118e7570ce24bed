-- The table that holds tuples, in the definitions' words: bit by bit whether a tuple is among them, spare bits 0, and for chosen
-- relations the words of picks.
use Prim.Native.Nat.{ℕ, zero, suc, ◌+◌, ◌-◌, ◌*◌, ◌^◌, ◌≤◌, ◌<◌}
use mathlib.Core.Path.{◌≡◌, refl, sym, ap, ap₂, subst, ◌∙◌}
use mathlib.Core.Bool.{Bool, false, ◌&&◌}
use mathlib.Core.List.{List, [], ◌∷◌, ◌++◌, map}
use native.Mathlib.Decide.{dec_lt}
use native.Mathlib.Omega.{arith}
use native.Mathlib.Nat.{suc-mul, mul-zero, pow-suc, le_trans, pow-le-pow_left, pow-le-pow_right}
use lib.Dec.{ltb}
use lib.ListN.{get_or}
use borrow.Author.Tests.{ne_eqb, lt-ltb, le-ltb}
use Rattle.definitions.specs.Lists.{any, flat_map, from, sum}
use Rattle.definitions.specs.Sheet.Relations.{Tuple, is_among}
use Rattle.definitions.specs.Problem.Atoms.{Problem, relation_at, tuples_of, row_of, places_of, words_for}
use Rattle.definitions.specs.Problem.Built.{is_picked, chosen_numbers}
use Rattle.definitions.specs.Reply.Outcome.{relation_words, picks_length, pick_words}
use Rattle.bits.specs.Table.{word, words}
use Rattle.bits.proofs.Laws.{length_words, words_fit, bit_words, is_words}
use Rattle.laws.specs.Booleans.{T_true}
use Rattle.laws.specs.Lists.{from_snoc, flat_append}
use Rattle.laws.specs.Rows as R
use Rattle.laws.specs.Words.{words_are}
use Rattle.read_names.specs.declared.Signature.{Signature}
use Rattle.read_tuples.specs.Marks.{are_below, first_word, bit_of, marks, Valid, AllValid}
use Rattle.read_tuples.proofs.Rows.{row_lt}
use Rattle.read_tuples.proofs.Bits.{words_apart, row_bound, marks_among}

words_mono : (a b : ℕ) → a ≤ b → words_for a ≤ words_for b
unfolding words_for
words_mono a b h = omega arith

-- ---- how many words there are at the most: none of m relations has more than one of three places

cube_le : (k n a : ℕ) → n ≤ k → 1 ≤ a → a ≤ 3 → n ^ a ≤ k ^ 3
cube_le k n zero h l m = absurd (omega arith)
cube_le zero n (suc b) h l m = let e : n ≡ 0 = omega arith in rw (e, pow-suc 0 b, mul-zero (0 ^ b)) (omega arith)
cube_le (suc k) n (suc b) h l m = le_trans (pow-le-pow_left h (suc b)) (pow-le-pow_right {n = suc k} (omega arith) m)

pub words_most : (k : ℕ) (g : Signature) (n lo m : ℕ) → n ≤ k → ((i : ℕ) → i < m → (1 ≤ get_or g.arity (lo + i) 0) × (get_or g.arity (lo + i) 0 ≤ 3)) → first_word g n lo m ≤ m * words_for (k ^ 3)
unfolding first_word
words_most k g n lo zero h a = omega arith
words_most k g n lo (suc m) h a =
    let w = words_mono (n ^ get_or g.arity (lo + m) 0) (k ^ 3) (cube_le k n (get_or g.arity (lo + m) 0) h (a m (omega arith)).0 (a m (omega arith)).1) in
    let z : suc m * words_for (k ^ 3) ≡ m * words_for (k ^ 3) + words_for (k ^ 3) = suc-mul m (words_for (k ^ 3)) in
    omega (arith, words_most k g n lo m h (λ i l. a i (omega arith)))

-- ---- bit by bit

module _ (g : Signature) (n lo m : ℕ) where
  -- the tuple of a row of the relation i places after lo
  unfoldable pub tuple_at : ℕ → ℕ → Tuple
  tuple_at i row = record { relation = 5 + lo + i; places = places_of n (get_or g.arity (lo + i) 0) row }

  at_valid : (i row : ℕ) → 0 < n → i < m → Valid g n lo m (tuple_at i row)
  unfolding Valid tuple_at are_below
  at_valid i row h l =
      let z : lo + i ≡ 5 + lo + i - 5 = omega arith in
      (omega arith, omega arith, R.length_places n (get_or g.arity (lo + i) 0) row ∙ ap (λ (j : ℕ). get_or g.arity j 0) z, T_true _ (R.places_below n (get_or g.arity (lo + i) 0) row h))

  at_bit : (i row : ℕ) → 0 < n → row < n ^ get_or g.arity (lo + i) 0 → bit_of g n lo (tuple_at i row) ≡ 64 * first_word g n lo i + row
  unfolding bit_of tuple_at
  at_bit i row h l =
      let z : 5 + lo + i - (5 + lo) ≡ i = omega arith in
      ap₂ (λ (j x : ℕ). 64 * first_word g n lo j + x) z (R.row_places n (get_or g.arity (lo + i) 0) row h l)

  module _ (ts : List Tuple) (w : AllValid g n lo m ts) where
    -- a tuple's bit says whether it is among them
    pub mark_bit : (i row : ℕ) → 0 < n → i < m → row < n ^ get_or g.arity (lo + i) 0 → marks (bit_of g n lo) ts (64 * first_word g n lo i + row) ≡ is_among (tuple_at i row) ts
    mark_bit i row h l k = ap (marks (bit_of g n lo) ts) (sym (at_bit i row h k)) ∙ marks_among g n lo m (tuple_at i row) ts (at_valid i row h l) w

  -- a bit that is no tuple's is 0
  none_there : (ts : List Tuple) (b : ℕ) → AllValid g n lo m ts → ((t : Tuple) → Valid g n lo m t → bit_of g n lo t ≡ b → ⊥) → marks (bit_of g n lo) ts b ≡ false
  unfolding marks any AllValid
  none_there [] b w h = refl
  none_there (t ∷ ts) b w h = rw (ne_eqb (bit_of g n lo t) b (h t w.0)) (none_there ts b w.1 h)

  module _ (t : Tuple) (v : Valid g n lo m t) where
    -- the words of a tuple's relation
    pub its_words : (i : ℕ) → t.relation - (5 + lo) < i → bit_of g n lo t < 64 * first_word g n lo i
    unfolding bit_of
    its_words i h =
        let d : ℕ = i - suc (t.relation - (5 + lo)) in
        let z : suc (t.relation - (5 + lo)) + d ≡ i = omega arith in
        let y : first_word g n lo (t.relation - (5 + lo)) + words_for (n ^ get_or g.arity (lo + (t.relation - (5 + lo))) 0) ≤ first_word g n lo i
        = subst (λ (x : ℕ). first_word g n lo (t.relation - (5 + lo)) + words_for (n ^ get_or g.arity (lo + (t.relation - (5 + lo))) 0) ≤ first_word g n lo x) z (words_apart g n lo (t.relation - (5 + lo)) d) in
        omega (arith, row_bound g n lo m t v)

    not_spare : (i row : ℕ) → n ^ get_or g.arity (lo + i) 0 ≤ row → row < 64 * words_for (n ^ get_or g.arity (lo + i) 0) → bit_of g n lo t ≡ 64 * first_word g n lo i + row → ⊥
    unfolding Valid bit_of
    not_spare i row h l e = from_this (dec_lt (t.relation - (5 + lo)) i) (dec_lt i (t.relation - (5 + lo)))
      where
        own : (j : ℕ) → t.relation - (5 + lo) ≡ j → n ^ get_or g.arity (lo + j) 0 ≤ row → bit_of g n lo t ≡ 64 * first_word g n lo j + row → ⊥
        own j p h e = same_one h e
          where
            lt_power : row_of n t.places < n ^ get_or g.arity (lo + j) 0
            lt_power =
                let z : t.relation - 5 ≡ lo + j = omega (arith, v.0) in
                subst (λ (x : ℕ). row_of n t.places < n ^ x) (v.2 ∙ ap (λ (x : ℕ). get_or g.arity x 0) z) (row_lt n t.places v.3)

            same_one : n ^ get_or g.arity (lo + j) 0 ≤ row → bit_of g n lo t ≡ 64 * first_word g n lo j + row → ⊥
            same_one h e = let q : first_word g n lo (t.relation - (5 + lo)) ≡ first_word g n lo j = ap (first_word g n lo) p in omega (arith, lt_power, q)

        from_this : Dec (t.relation - (5 + lo) < i) → Dec (i < t.relation - (5 + lo)) → ⊥
        from_this (yes p) d = omega (arith, its_words i p)
        from_this (no p) (yes q) =
            let d : ℕ = t.relation - (5 + lo) - suc i in
            let z : suc i + d ≡ t.relation - (5 + lo) = omega arith in
            let y : first_word g n lo i + words_for (n ^ get_or g.arity (lo + i) 0) ≤ first_word g n lo (t.relation - (5 + lo))
            = subst (λ (x : ℕ). first_word g n lo i + words_for (n ^ get_or g.arity (lo + i) 0) ≤ first_word g n lo x) z (words_apart g n lo i d) in
            omega arith
        from_this (no p) (no q) = own i (omega arith) h e

  module _ (ts : List Tuple) (w : AllValid g n lo m ts) where
    pub mark_spare : (i row : ℕ) → n ^ get_or g.arity (lo + i) 0 ≤ row → row < 64 * words_for (n ^ get_or g.arity (lo + i) 0) → marks (bit_of g n lo) ts (64 * first_word g n lo i + row) ≡ false
    mark_spare i row h l = none_there ts (64 * first_word g n lo i + row) w (λ t v e. not_spare t v i row h l e)

    pub mark_past : (b : ℕ) → 64 * first_word g n lo m ≤ b → marks (bit_of g n lo) ts b ≡ false
    unfolding Valid
    mark_past b h = none_there ts b w (λ t v e. omega (arith, its_words t v m (omega (arith, v.0, v.1))))

-- ---- the words

words_same : (p q : ℕ → Bool) (k : ℕ) → ((i : ℕ) → i < 64 * k → p i ≡ q i) → words p k ≡ words q k
words_same p q k h = is_words (words p k) q k (words_fit p k) (length_words p k) (λ i l. bit_words p k i l ∙ h i l)

words_append : (p : ℕ → Bool) (a b : ℕ) → words p (a + b) ≡ words p a ++ words (λ i. p (64 * a + i)) b
unfolding words
words_append p zero b =
    let z : 0 + b ≡ b = omega arith in
    rw z (words_same p (λ i. p (64 * 0 + i)) b (λ i h. let y : i ≡ 64 * 0 + i = omega arith in ap p y))
words_append p (suc a) b =
    let z : suc a + b ≡ suc (a + b) = omega arith in
    rw z (ap (λ (ws : List ℕ). word p 64 ∷ ws) (words_append (λ i. p (64 + i)) a b
    ∙ ap (λ (ws : List ℕ). words (λ i. p (64 + i)) a ++ ws) (words_same (λ i. p (64 + (64 * a + i))) (λ i. p (64 * suc a + i)) b (λ i h. let y : 64 + (64 * a + i) ≡ 64 * suc a + i = omega arith in ap p y))))

-- the tuples of the m relations from lo on, relation by relation
module _ (g : Signature) (n lo m : ℕ) (h : 0 < n) (ts : List Tuple) (w : AllValid g n lo m ts) where
  own_words : (i : ℕ) → i < m
      → words (λ row. ltb row (n ^ get_or g.arity (lo + i) 0) && is_among (tuple_at g n lo m i row) ts) (words_for (n ^ get_or g.arity (lo + i) 0))
      ≡ words (λ row. marks (bit_of g n lo) ts (64 * first_word g n lo i + row)) (words_for (n ^ get_or g.arity (lo + i) 0))
  own_words i l = words_same _ _ (words_for (n ^ get_or g.arity (lo + i) 0)) (λ row k. by_number row k (dec_lt row (n ^ get_or g.arity (lo + i) 0)))
    where
      by_number : (row : ℕ) → row < 64 * words_for (n ^ get_or g.arity (lo + i) 0) → Dec (row < n ^ get_or g.arity (lo + i) 0)
          → (ltb row (n ^ get_or g.arity (lo + i) 0) && is_among (tuple_at g n lo m i row) ts) ≡ marks (bit_of g n lo) ts (64 * first_word g n lo i + row)
      by_number row k (yes q) = rw (lt-ltb row (n ^ get_or g.arity (lo + i) 0) q) (sym (mark_bit g n lo m ts w i row h l q))
      by_number row k (no q) = rw (le-ltb row (n ^ get_or g.arity (lo + i) 0) (omega arith)) (sym (mark_spare g n lo m ts w i row (omega arith) k))

-- picks: the table's first words are theirs
module _ (g : Signature) (lo m : ℕ) (p : Problem) (h : 0 < p.size) (ts : List Tuple) (w : AllValid g p.size lo m ts)
    (e : (i : ℕ) → i < m → (relation_at p (5 + lo + i)).arity ≡ get_or g.arity (lo + i) 0) where
  its_words_are : (i : ℕ) → i < m → words (λ row. ltb row (tuples_of p.size (relation_at p (5 + lo + i))) && is_picked p ts (5 + lo + i) row) (relation_words p (5 + lo + i))
      ≡ words (λ row. marks (bit_of g p.size lo) ts (64 * first_word g p.size lo i + row)) (words_for (p.size ^ get_or g.arity (lo + i) 0))
  unfolding tuples_of is_picked relation_words tuple_at
  its_words_are i l = rw (e i l) (own_words g p.size lo m h ts w i l)

  words_to_lem : (k : ℕ) → k ≤ m → flat_map (λ r. words (λ row. ltb row (tuples_of p.size (relation_at p r)) && is_picked p ts r row) (relation_words p r)) (from (5 + lo) k)
      ≡ words (marks (bit_of g p.size lo) ts) (first_word g p.size lo k)
  unfolding flat_map from first_word words
  words_to_lem zero l = refl
  words_to_lem (suc k) l =
      ap (flat_map _) (from_snoc (5 + lo) k)
      ∙ flat_append _ (from (5 + lo) k) ((5 + lo + k) ∷ [])
      ∙ ap₂ ◌++◌ (words_to_lem k (omega arith)) (append_nil _ ∙ its_words_are k (omega arith))
      ∙ sym (words_append (marks (bit_of g p.size lo) ts) (first_word g p.size lo k) (words_for (p.size ^ get_or g.arity (lo + k) 0)))
    where
      append_nil : (l : List ℕ) → l ++ [] ≡ l
      append_nil [] = refl
      append_nil (x ∷ l) = ap (◌∷◌ x) (append_nil l)

  pub pick_words_lem : chosen_numbers p ≡ from (5 + lo) m → words (marks (bit_of g p.size lo) ts) (first_word g p.size lo m) ≡ pick_words p ts
  unfolding pick_words
  pick_words_lem c = sym (simp words_are (ap (flat_map _) c) ∙ words_to_lem m (omega arith))

  length_to : (k : ℕ) → k ≤ m → sum (map (relation_words p) (from (5 + lo) k)) ≡ first_word g p.size lo k
  unfolding sum from first_word relation_words tuples_of
  length_to zero l = refl
  length_to (suc k) l =
      ap (λ (rs : List ℕ). sum (map (relation_words p) rs)) (from_snoc (5 + lo) k)
      ∙ sum_snoc (from (5 + lo) k) (5 + lo + k)
      ∙ ap₂ ◌+◌ (length_to k (omega arith)) (own k (omega arith))
    where
      sum_snoc : (xs : List ℕ) (x : ℕ) → sum (map (relation_words p) (xs ++ (x ∷ []))) ≡ sum (map (relation_words p) xs) + relation_words p x
      sum_snoc [] x = omega arith
      sum_snoc (y ∷ xs) x = omega (arith, sum_snoc xs x)

      own : (i : ℕ) → i < m → relation_words p (5 + lo + i) ≡ words_for (p.size ^ get_or g.arity (lo + i) 0)
      own i q = rw (e i q)

  pub picks_length_lem : chosen_numbers p ≡ from (5 + lo) m → picks_length p ≡ first_word g p.size lo m
  unfolding picks_length
  picks_length_lem c = ap (λ (rs : List ℕ). sum (map (relation_words p) rs)) c ∙ length_to m (omega arith)
