-- Blocks number their items one after another: where each block starts, which item a number decodes to, and back.
use Prim.Native.Nat.{ℕ, zero, suc, ◌+◌, ◌-◌, ◌<◌, ◌≤◌}
use Rattle.std.specs.Prelude.{◌≡◌, ◌⊎◌, Bool, length, get_or, take, if◌then◌else◌}
use Rattle.std.proofs.Math.Path.{refl, sym, ap}
use Rattle.std.proofs.Common.{ap₂, ◌∙◌, add-zero, zero-add, add_assoc}
use Rattle.std.proofs.Math.Logic.{inl, inr, ⊎_elim}
use Rattle.std.proofs.Math.Bool.{true, false}
use Rattle.std.proofs.Math.Option.{none, some}
use mathlib.Core.List.{List, [], ◌∷◌, ◌++◌}
use native.Mathlib.Omega.{arith}
use Rattle.std.proofs.Math.Dec.{ltb}
use borrow.Author.Tests.{lt-ltb, le-ltb, ltb-true, ltb-false}
use Rattle.definitions.specs.Lists.{flat_map, map_from}
use Rattle.definitions.specs.Problem.Atoms.{Block, item_at, count_of}
use Rattle.laws.specs.Lists.{none_some, some_eq}

pub count_nil : (A : Type 0) → count_of {A = A} [] ≡ 0
unfolding count_of
count_nil A = refl

module _ {A : Type 0} where
  pub count_cons : (b : Block A) (bs : List (Block A)) → count_of (b ∷ bs) ≡ b.width + count_of bs
  unfolding count_of
  count_cons b bs = refl

  pub count_append : (bs cs : List (Block A)) → count_of (bs ++ cs) ≡ count_of bs + count_of cs
  unfolding count_of
  count_append [] cs = omega arith
  count_append (b ∷ bs) cs = let e = count_append bs cs in omega arith

  -- a number in the first block, and one past it
  pub item_here : (b : Block A) (bs : List (Block A)) (i : ℕ) → i < b.width → item_at (b ∷ bs) i ≡ some (b.item i)
  unfolding item_at
  item_here b bs i h = rw (lt-ltb i b.width h) refl

  pub item_later : (b : Block A) (bs : List (Block A)) (i : ℕ) → b.width ≤ i → item_at (b ∷ bs) i ≡ item_at bs (i - b.width)
  unfolding item_at
  item_later b bs i h = rw (le-ltb i b.width h) refl

  pub item_past : (b : Block A) (bs : List (Block A)) (i : ℕ) → item_at (b ∷ bs) (b.width + i) ≡ item_at bs i
  item_past b bs i = let e : b.width + i - b.width ≡ i = omega arith in item_later b bs (b.width + i) (omega arith) ∙ ap (item_at bs) e

  pub item_cases : (b : Block A) (bs : List (Block A)) (i : ℕ) (a : A) → item_at (b ∷ bs) i ≡ some a → ((i < b.width) × (a ≡ b.item i)) ⊎ ((b.width ≤ i) × (item_at bs (i - b.width) ≡ some a))
  unfolding item_at
  item_cases b bs i a e = by_test (ltb i b.width) refl e
    where
      by_test : (t : Bool) → ltb i b.width ≡ t → (if t then some (b.item i) else item_at bs (i - b.width)) ≡ some a → ((i < b.width) × (a ≡ b.item i)) ⊎ ((b.width ≤ i) × (item_at bs (i - b.width) ≡ some a))
      by_test true q h = inl (ltb-true i b.width q, sym (some_eq h))
      by_test false q h = inr (ltb-false i b.width q, h)

  pub item_one : (b : Block A) (i : ℕ) (a : A) → item_at (b ∷ []) i ≡ some a → (i < b.width) × (a ≡ b.item i)
  unfolding item_at
  item_one b i a e = ⊎_elim (λ q. q) (λ q. absurd (none_some q.1)) (item_cases b [] i a e)

  -- exactly the numbers below the count decode
  pub item_lt : (bs : List (Block A)) (i : ℕ) (a : A) → item_at bs i ≡ some a → i < count_of bs
  unfolding count_of item_at
  item_lt [] i a e = absurd (none_some e)
  item_lt (b ∷ bs) i a e = ⊎_elim (λ q. omega (arith, q.0)) (λ q. let r = item_lt bs (i - b.width) a q.1 in omega (arith, q.0)) (item_cases b bs i a e)

  pub item_some : (bs : List (Block A)) (i : ℕ) → i < count_of bs → (a : A) × (item_at bs i ≡ some a)
  unfolding count_of item_at
  item_some [] i h = absurd (omega arith)
  item_some (b ∷ bs) i h = by_test (ltb i b.width) refl (λ q. item_some bs (i - b.width) q)
    where
      by_test : (t : Bool) → ltb i b.width ≡ t → (i - b.width < count_of bs → (a : A) × (item_at bs (i - b.width) ≡ some a)) → (a : A) × ((if t then some (b.item i) else item_at bs (i - b.width)) ≡ some a)
      by_test true q r = (b.item i, refl)
      by_test false q r = let l : b.width ≤ i = ltb-false i b.width q in r (omega arith)

  pub item_none : (bs : List (Block A)) (i : ℕ) → count_of bs ≤ i → item_at bs i ≡ none
  unfolding count_of item_at
  item_none [] i h = refl
  item_none (b ∷ bs) i h = let l : b.width ≤ i = omega arith in rw (le-ltb i b.width l) (item_none bs (i - b.width) (omega arith))

  -- two lists of blocks, one after the other
  pub item_left : (bs cs : List (Block A)) (i : ℕ) (a : A) → item_at bs i ≡ some a → item_at (bs ++ cs) i ≡ some a
  unfolding item_at
  item_left [] cs i a e = absurd (none_some e)
  item_left (b ∷ bs) cs i a e = ⊎_elim
      (λ q. item_here b (bs ++ cs) i q.0 ∙ ap some (sym q.1))
      (λ q. item_later b (bs ++ cs) i q.0 ∙ item_left bs cs (i - b.width) a q.1)
      (item_cases b bs i a e)

  pub item_right : (bs cs : List (Block A)) (i : ℕ) → item_at (bs ++ cs) (count_of bs + i) ≡ item_at cs i
  unfolding count_of
  item_right [] cs i = ap (item_at cs) (zero-add i)
  item_right (b ∷ bs) cs i = ap (item_at (b ∷ (bs ++ cs))) (add_assoc b.width (count_of bs) i) ∙ item_past b (bs ++ cs) (count_of bs + i) ∙ item_right bs cs i

  pub item_append : (bs cs : List (Block A)) (i : ℕ) (a : A) → item_at (bs ++ cs) i ≡ some a → (item_at bs i ≡ some a) ⊎ ((j : ℕ) × (i ≡ count_of bs + j) × (item_at cs j ≡ some a))
  unfolding count_of
  item_append [] cs i a e = inr (i, sym (zero-add i), e)
  item_append (b ∷ bs) cs i a e = ⊎_elim
      (λ q. inl (item_here b bs i q.0 ∙ ap some (sym q.1)))
      (λ q. ⊎_elim (λ r. inl (item_later b bs i q.0 ∙ r)) (λ r. inr (r.0, omega (arith, q.0, r.1), r.2)) (item_append bs cs (i - b.width) a q.1))
      (item_cases b (bs ++ cs) i a e)

-- ---- the blocks of a list of things, each of which has blocks by its number
module _ {A K : Type 0} (f : ℕ → K → List (Block A)) where
  unfoldable pub groups : ℕ → List K → List (Block A)
  groups r ks = flat_map (λ (bs : List (Block A)). bs) (map_from f r ks)

  groups_nil : (r : ℕ) → groups r [] ≡ []
  unfolding groups flat_map map_from
  groups_nil r = refl

  groups_cons : (r : ℕ) (k : K) (ks : List K) → groups r (k ∷ ks) ≡ f r k ++ groups (suc r) ks
  unfolding groups flat_map map_from
  groups_cons r k ks = refl

  none_count : (r : ℕ) → count_of (groups r []) ≡ 0
  none_count r = ap count_of (groups_nil r) ∙ count_nil A

  cons_count : (r : ℕ) (k : K) (ks : List K) → count_of (groups r (k ∷ ks)) ≡ count_of (f r k) + count_of (groups (suc r) ks)
  cons_count r k ks = ap count_of (groups_cons r k ks) ∙ count_append (f r k) (groups (suc r) ks)

  -- the start of the next thing's blocks
  start_next : (j r : ℕ) (ks : List K) (d : K) → j < length ks → count_of (groups r (take (suc j) ks)) ≡ count_of (groups r (take j ks)) + count_of (f (r + j) (get_or ks j d))
  start_next j r [] d l = absurd (omega arith)
  start_next zero r (k ∷ ks) d l =
      let a = cons_count r k [] in
      let b = none_count r in
      let c = none_count (suc r) in
      let s : count_of (f (r + 0) k) ≡ count_of (f r k) = ap (λ (x : ℕ). count_of (f x k)) (add-zero r) in
      omega arith
  start_next (suc j) r (k ∷ ks) d l =
      let a = cons_count r k (take (suc j) ks) in
      let b = cons_count r k (take j ks) in
      let c = start_next j (suc r) ks d (omega arith) in
      let w : suc r + j ≡ r + suc j = omega arith in
      let s : count_of (f (suc r + j) (get_or ks j d)) ≡ count_of (f (r + suc j) (get_or ks j d)) = ap (λ (x : ℕ). count_of (f x (get_or ks j d))) w in
      omega arith

  -- a number in the blocks of the j-th thing decodes there
  start_at : (j r : ℕ) (ks : List K) (d : K) (i : ℕ) (a : A) → j < length ks → item_at (f (r + j) (get_or ks j d)) i ≡ some a → item_at (groups r ks) (count_of (groups r (take j ks)) + i) ≡ some a
  start_at j r [] d i a l h = absurd (omega arith)
  start_at zero r (k ∷ ks) d i a l h =
      let n = none_count r in
      let w : count_of (groups r []) + i ≡ i = omega arith in
      ap₂ item_at (groups_cons r k ks) w ∙ item_left (f r k) (groups (suc r) ks) i a (ap (λ (x : ℕ). item_at (f x k) i) (sym (add-zero r)) ∙ h)
  start_at (suc j) r (k ∷ ks) d i a l h =
      let s : suc r + j ≡ r + suc j = omega arith in
      let q = cons_count r k (take j ks) in
      let w : count_of (groups r (k ∷ take j ks)) + i ≡ count_of (f r k) + (count_of (groups (suc r) (take j ks)) + i) = omega arith in
      ap₂ item_at (groups_cons r k ks) w ∙ item_right (f r k) (groups (suc r) ks) (count_of (groups (suc r) (take j ks)) + i)
      ∙ start_at j (suc r) ks d i a (omega arith) (ap (λ (x : ℕ). item_at (f x (get_or ks j d)) i) s ∙ h)

  -- and every number that decodes is one of those
  start_of : (r : ℕ) (ks : List K) (d : K) (i : ℕ) (a : A) → item_at (groups r ks) i ≡ some a → (j : ℕ) × (j < length ks) × ((i' : ℕ) × (i ≡ count_of (groups r (take j ks)) + i') × (item_at (f (r + j) (get_or ks j d)) i' ≡ some a))
  unfolding item_at
  start_of r [] d i a e = absurd (none_some (ap (λ (bs : List (Block A)). item_at bs i) (sym (groups_nil r)) ∙ e))
  start_of r (k ∷ ks) d i a e = ⊎_elim
      (λ q. let n = none_count r in (zero, omega arith, (i, omega arith, ap (λ (x : ℕ). item_at (f x k) i) (add-zero r) ∙ q)))
      (λ q. let (j, l, s) = start_of (suc r) ks d q.0 a q.2 in
      let w : r + suc j ≡ suc r + j = omega arith in
      let c = cons_count r k (take j ks) in
      (suc j, omega arith, (s.0, omega (arith, c, q.1, s.1), ap (λ (x : ℕ). item_at (f x (get_or ks j d)) s.0) w ∙ s.2)))
      (item_append (f r k) (groups (suc r) ks) i a (ap (λ (bs : List (Block A)). item_at bs i) (sym (groups_cons r k ks)) ∙ e))

  -- the same for things numbered from 0
  pub next_start : (ks : List K) (d : K) (j : ℕ) → j < length ks → count_of (groups 0 (take (suc j) ks)) ≡ count_of (groups 0 (take j ks)) + count_of (f j (get_or ks j d))
  next_start ks d j l = start_next j 0 ks d l ∙ ap (λ (x : ℕ). count_of (groups 0 (take j ks)) + count_of (f x (get_or ks j d))) (zero-add j)

  pub at_start : (ks : List K) (d : K) (j i : ℕ) (a : A) → j < length ks → item_at (f j (get_or ks j d)) i ≡ some a → item_at (groups 0 ks) (count_of (groups 0 (take j ks)) + i) ≡ some a
  at_start ks d j i a l h = start_at j 0 ks d i a l (ap (λ (x : ℕ). item_at (f x (get_or ks j d)) i) (zero-add j) ∙ h)

  pub of_start : (ks : List K) (d : K) (i : ℕ) (a : A) → item_at (groups 0 ks) i ≡ some a → (j : ℕ) × (j < length ks) × ((i' : ℕ) × (i ≡ count_of (groups 0 (take j ks)) + i') × (item_at (f j (get_or ks j d)) i' ≡ some a))
  of_start ks d i a e =
      let (j, l, s) = start_of 0 ks d i a e in
      (j, l, (s.0, s.1, ap (λ (x : ℕ). item_at (f x (get_or ks j d)) s.0) (sym (zero-add j)) ∙ s.2))

-- where each thing has one block, `map_from` alone gives the blocks
pub one_each : {A K : Type 0} (f : ℕ → K → Block A) (r : ℕ) (ks : List K) → map_from f r ks ≡ groups (λ i k. f i k ∷ []) r ks
unfolding groups flat_map map_from
one_each f r [] = refl
one_each f r (k ∷ ks) = ap (λ (bs : List (Block _)). f r k ∷ bs) (one_each f (suc r) ks)
