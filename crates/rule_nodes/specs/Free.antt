-- Padded lists, and the free levels of a node from those of its parts. Assumes nothing.
use Prim.Native.Nat.{ℕ, zero, suc, ◌+◌, ◌≤◌, ◌<◌, zero-le}
use Rattle.std.proofs.Common.{le_of_suc-le-suc, not-suc-le-zero, sym, ◌∙◌, eq-eqb, ne_eqb}
use Rattle.std.proofs.Math.Decide.{dec_lt}
use native.Mathlib.Omega.{arith}
use Rattle.std.specs.Prelude.{◌≡◌, Bool, ◌&&◌, ◌||◌, List, [], ◌∷◌, ◌++◌, take, set, eqb, ltb, if◌then◌else◌}
use Rattle.std.proofs.Math.Path.{refl, ap}
use Rattle.std.proofs.Math.Bool.{true, false, not, or-false}
use Rattle.std.proofs.Math.ListN.{length, get_or}
use Rattle.definitions.specs.Lists.{any, filter, from, below}
use Rattle.definitions.specs.Problem.Tree.{Tree, Trees, leaf, forall_node, exists_node, and_node, or_node, end, ◌then◌, occurs, occurs_in, free, parts_from, nodes}
use Rattle.rule_nodes.specs.Postorder.{pad, part_of, heads, Small, AllSmall, quant_row, join_row}
use Rattle.rule_nodes.specs.Pass.{has_level, is_own, free_with}

-- ---- padded lists

pub take_pad : (n : ℕ) (xs : List ℕ) → length xs ≤ n → take (length xs) (pad n xs) ≡ xs
unfolding pad
take_pad zero [] h = refl
take_pad zero (x ∷ xs) h = absurd (not-suc-le-zero h)
take_pad (suc n) [] h = refl
take_pad (suc n) (x ∷ xs) h = ap (λ (l : List ℕ). x ∷ l) (take_pad n xs (le_of_suc-le-suc h))

pub pad_more : (n : ℕ) (xs : List ℕ) (x : ℕ) → length xs < n → pad n (xs ++ (x ∷ [])) ≡ set (pad n xs) (length xs) x
unfolding pad
pad_more zero xs x h = absurd (not-suc-le-zero h)
pad_more (suc n) [] x h = refl
pad_more (suc n) (y ∷ xs) x h = ap (λ (l : List ℕ). y ∷ l) (pad_more n xs x (le_of_suc-le-suc h))

-- each below a bound above 0
pub pad_below : (n b : ℕ) (xs : List ℕ) → 0 < b → ((i : ℕ) → get_or xs i 0 < b) → (i : ℕ) → get_or (pad n xs) i 0 < b
unfolding pad
pad_below zero b xs o h zero = o
pad_below zero b xs o h (suc i) = o
pad_below (suc n) b [] o h zero = o
pad_below (suc n) b [] o h (suc i) = pad_below n b [] o h i
pad_below (suc n) b (x ∷ xs) o h zero = h 0
pad_below (suc n) b (x ∷ xs) o h (suc i) = pad_below n b xs o (λ j. h (suc j)) i

-- ---- filters of the numbers from a on
module _ (p : ℕ → Bool) where
  pub filter_le : (n a : ℕ) → length (filter p (from a n)) ≤ n
  unfolding filter from
  filter_le zero a = zero-le
  filter_le (suc n) a = by_test (p a) (filter_le n (suc a))
    where
      by_test : (b : Bool) → length (filter p (from (suc a) n)) ≤ n → length (if b then a ∷ filter p (from (suc a) n) else filter p (from (suc a) n)) ≤ suc n
      by_test true h = omega arith
      by_test false h = omega arith

  filter_below : (n a b : ℕ) → 0 < b → a + n ≤ b → (i : ℕ) → get_or (filter p (from a n)) i 0 < b
  unfolding filter from
  filter_below zero a b o h zero = o
  filter_below zero a b o h (suc i) = o
  filter_below (suc n) a b o h i = by_test (p a) i (filter_below n (suc a) b o (omega arith))
    where
      by_test : (t : Bool) (j : ℕ) → ((k : ℕ) → get_or (filter p (from (suc a) n)) k 0 < b) → get_or (if t then a ∷ filter p (from (suc a) n) else filter p (from (suc a) n)) j 0 < b
      by_test true zero f = omega arith
      by_test true (suc j) f = f j
      by_test false j f = f j

  any_past : (n a l : ℕ) → l < a → any (eqb l) (filter p (from a n)) ≡ false
  unfolding any filter from
  any_past zero a l h = refl
  any_past (suc n) a l h = by_test (p a) (any_past n (suc a) l (omega arith))
    where
      ne : l ≡ a → ⊥
      ne e = omega arith

      by_test : (b : Bool) → any (eqb l) (filter p (from (suc a) n)) ≡ false → any (eqb l) (if b then a ∷ filter p (from (suc a) n) else filter p (from (suc a) n)) ≡ false
      by_test true e = ap (λ (x : Bool). x || any (eqb l) (filter p (from (suc a) n))) (ne_eqb l a ne) ∙ e
      by_test false e = e

  pub any_filter : (n a l : ℕ) → a ≤ l → l < a + n → any (eqb l) (filter p (from a n)) ≡ p l
  unfolding any filter from
  any_filter zero a l h k = absurd (omega arith)
  any_filter (suc n) a l h k = from_this (dec_lt a l) (λ q. any_filter n (suc a) l q (omega arith))
    where
      at : (b : Bool) → p a ≡ b → l ≡ a → any (eqb l) (if b then a ∷ filter p (from (suc a) n) else filter p (from (suc a) n)) ≡ b
      at true e q = ap (λ (x : Bool). x || any (eqb l) (filter p (from (suc a) n))) (eq-eqb l a q)
      at false e q = any_past n (suc a) l (omega arith)

      on : (b : Bool) → (l ≡ a → ⊥) → any (eqb l) (filter p (from (suc a) n)) ≡ p l → any (eqb l) (if b then a ∷ filter p (from (suc a) n) else filter p (from (suc a) n)) ≡ p l
      on true q e = ap (λ (x : Bool). x || any (eqb l) (filter p (from (suc a) n))) (ne_eqb l a q) ∙ e
      on false q e = e

      from_this : Dec (a < l) → (a < l → any (eqb l) (filter p (from (suc a) n)) ≡ p l) → any (eqb l) (if p a then a ∷ filter p (from (suc a) n) else filter p (from (suc a) n)) ≡ p l
      from_this (yes q) r = on (p a) (λ e. omega arith) (r q)
      from_this (no q) r = let e : l ≡ a = omega arith in at (p a) refl e ∙ ap p (sym e)

pub filter_ext : (p q : ℕ → Bool) (n a : ℕ) → ((l : ℕ) → l < a + n → p l ≡ q l) → filter p (from a n) ≡ filter q (from a n)
unfolding filter from
filter_ext p q zero a h = refl
filter_ext p q (suc n) a h = rw (h a (omega arith), filter_ext p q n (suc a) (λ l k. h l (omega arith)))

-- ---- free levels
pub free_few : (t : Tree) → length (free t) ≤ 4
unfolding free below
free_few t = filter_le (λ l. occurs l t) 4 0

pub free_below : (t : Tree) (i : ℕ) → get_or (free t) i 0 < 4
unfolding free below
free_below t i = filter_below (λ l. occurs l t) 4 0 4 (omega arith) (omega arith) i

free_any : (t : Tree) (l : ℕ) → l < 4 → any (eqb l) (take (length (free t)) (pad 4 (free t))) ≡ occurs l t
unfolding free below
free_any t l h = ap (λ (xs : List ℕ). any (eqb l) xs) (take_pad 4 (free t) (free_few t)) ∙ any_filter (λ k. occurs k t) 4 0 l (omega arith) (omega arith)

leaf_any : (ls : List ℕ) (l : ℕ) → length ls ≤ 3 → any (eqb l) (take (length ls) (pad 4 ls)) ≡ any (eqb l) ls
leaf_any ls l h = ap (λ (xs : List ℕ). any (eqb l) xs) (take_pad 4 ls (omega arith))

module _ (rels l : ℕ) (h : l < 4) where
  has_part : (v : ℕ) (t : Tree) → Small rels t → has_level l (part_of v t) ≡ occurs l t
  unfolding part_of Small occurs
  has_part v (leaf true r ls) s = leaf_any ls l s.1
  has_part v (leaf false r ls) s = leaf_any ls l s.1
  has_part v (forall_node d σ t) s = free_any (forall_node d σ t) l h
  has_part v (exists_node d σ t) s = free_any (exists_node d σ t) l h
  has_part v (and_node ts) s = free_any (and_node ts) l h
  has_part v (or_node ts) s = free_any (or_node ts) l h

  has_heads : (v : ℕ) (ts : Trees) → AllSmall rels ts → any (has_level l) (heads v ts) ≡ occurs_in l ts
  unfolding parts_from Small occurs any
  has_heads v end s = refl
  has_heads v (t then ts) s = rw (has_part v t s.0, has_heads (v + length (nodes t)) ts s.1)

-- a quantifier's, and those of a node with several parts
module _ (rels v : ℕ) where
  one_part : (k d σ : ℕ) (t : Tree) → ltb k 2 ≡ true → Small rels t → (l : ℕ) → l < 4 → (not (is_own (quant_row k v d σ) l) && any (has_level l) (part_of (suc v) t ∷ [])) ≡ (not (eqb l d) && occurs l t)
  unfolding pad any
  one_part k d σ t e s l h = rw e (ap (λ (b : Bool). not (eqb l d) && b) (or-false (has_level l (part_of (suc v) t)) ∙ has_part rels l h (suc v) t s))

  pub free_forall : (d σ : ℕ) (t : Tree) → Small rels t → free_with (quant_row 0 v d σ) (part_of (suc v) t ∷ []) ≡ free (forall_node d σ t)
  unfolding free_with free below occurs
  free_forall d σ t s = filter_ext (λ l. not (is_own (quant_row 0 v d σ) l) && any (has_level l) (part_of (suc v) t ∷ [])) (λ l. not (eqb l d) && occurs l t) 4 0 (λ l h. one_part 0 d σ t refl s l (omega arith))

  pub free_exists : (d σ : ℕ) (t : Tree) → Small rels t → free_with (quant_row 1 v d σ) (part_of (suc v) t ∷ []) ≡ free (exists_node d σ t)
  unfolding free_with free below occurs
  free_exists d σ t s = filter_ext (λ l. not (is_own (quant_row 1 v d σ) l) && any (has_level l) (part_of (suc v) t ∷ [])) (λ l. not (eqb l d) && occurs l t) 4 0 (λ l h. one_part 1 d σ t refl s l (omega arith))

  pub free_and : (ts : Trees) (m : ℕ) → AllSmall rels ts → free_with (join_row 2 v m) (heads (suc v) ts) ≡ free (and_node ts)
  unfolding free_with free below occurs
  free_and ts m s = filter_ext (λ l. not (is_own (join_row 2 v m) l) && any (has_level l) (heads (suc v) ts)) (λ l. occurs_in l ts) 4 0 (λ l h. has_heads rels l (omega arith) (suc v) ts s)

  pub free_or : (ts : Trees) (m : ℕ) → AllSmall rels ts → free_with (join_row 3 v m) (heads (suc v) ts) ≡ free (or_node ts)
  unfolding free_with free below occurs
  free_or ts m s = filter_ext (λ l. not (is_own (join_row 3 v m) l) && any (has_level l) (heads (suc v) ts)) (λ l. occurs_in l ts) 4 0 (λ l h. has_heads rels l (omega arith) (suc v) ts s)
