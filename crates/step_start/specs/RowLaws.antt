-- The laws of what is written by the table: each return and each turn of a loop.
use Rattle.std.specs.Prelude.{◌≡◌, Bool, cond, ◌&&◌, List, ◌≢◌, eqb, leb, ltb, get_or, if◌then◌else◌}
use Rattle.std.proofs.Math.Path.{refl, sym, ap, ap₂, fun_ext}
use Rattle.std.proofs.Common.{subst, ◌∙◌, zero-add, zero-mul, one-mul, add-mul, pow_pos, pow_mono}
use Rattle.std.proofs.Math.Bool.{true, false, not}
use Prim.Native.Nat.{ℕ, zero, suc, ◌+◌, ◌-◌, ◌*◌, ◌/◌, ◌%◌, ◌^◌, ◌≤◌, ◌<◌, min}
use Rattle.std.proofs.Math.Numerals.{add-one}
use Rattle.std.proofs.Math.Decide.{ℕ_discrete, dec_lt}
use native.Mathlib.Omega.{arith}
use borrow.Author.Tests.{lt-ltb, le-ltb, eq-eqb, ne_eqb}
use Rattle.std.proofs.Math.Arith.{digits_div, digits_mod}
use Rattle.definitions.specs.Sheet.Relations.{built_in_holds}
use Rattle.definitions.specs.Problem.Atoms.{words_for}
use Rattle.bits.specs.Table.{digit, bit, paste, turned}
use Rattle.bits.proofs.Laws.{eqb_same, paste_zero}
use Rattle.bits.proofs.Digit.{digit_not}
use Rattle.bits.proofs.Shifts.{mask_digit}
use Rattle.bits.proofs.Stores.{paste_clear}
use Rattle.problem_table.specs.Lines.{relation_place, node_place, size_in, relations_in, nodes_in, relation_line, last_line, has_every, every_in, node_line, Fits}
use Rattle.problem_table.specs.declared.NodeLine.{NodeLine}
use Rattle.problem_table.specs.declared.RelationLine.{RelationLine}
use Rattle.step_start.specs.Rows.{atoms_in, holds_at, built_in_at, rows_in, free_in, held_put, tuples_put, relation_put, words_in, first_in, relations_put, RelationRoom}

-- ---- built-in relations
module _ (n r x y : ℕ) where
  pub is_eq : r ≡ 0 → eqb x y ≡ built_in_holds n r x y
  unfolding built_in_holds
  is_eq e = rw e refl

  pub is_lt : r ≡ 1 → ltb x y ≡ built_in_holds n r x y
  unfolding built_in_holds
  is_lt e = rw e refl

  pub is_suc : r ≡ 2 → eqb y (x + 1) ≡ built_in_holds n r x y
  unfolding built_in_holds
  is_suc e = rw (e, add-one x) refl

  pub is_zero : r ≡ 3 → eqb x 0 ≡ built_in_holds n r x y
  unfolding built_in_holds
  is_zero e = rw e refl

  pub is_max : r ≡ 4 → eqb (x + 1) n ≡ built_in_holds n r x y
  unfolding built_in_holds
  is_max e = rw (e, add-one x) refl

-- ---- a tuple
module _ (f : List ℕ) (n r kind first row : ℕ) where
  pub is_pair : r < 3 → built_in_holds n r (row / n) (row % n) ≡ holds_at f n r kind first row
  unfolding holds_at
  is_pair h = rw (lt-ltb r 3 h) refl

  pub is_one : 3 ≤ r → r < 5 → built_in_holds n r row 0 ≡ holds_at f n r kind first row
  unfolding holds_at
  is_one l h = rw (le-ltb r 3 l, lt-ltb r 5 h) refl

  pub is_fact : 5 ≤ r → kind ≡ 0 → bit f (64 * first + row) ≡ holds_at f n r kind first row
  unfolding holds_at
  is_fact h e = let l : 3 ≤ r = omega arith in rw (le-ltb r 3 l, le-ltb r 5 h, e) refl

  pub is_unpicked : 5 ≤ r → kind ≢ 0 → false ≡ holds_at f n r kind first row
  unfolding holds_at
  is_unpicked h e = let l : 3 ≤ r = omega arith in rw (le-ltb r 3 l, le-ltb r 5 h, ne_eqb kind 0 e) refl

-- ---- how many
pub rows_le : (k : RelationLine) → rows_in k ≤ k.nots
unfolding rows_in
rows_le k = omega arith

pub rows_some : (k : RelationLine) → 0 < rows_in k → k.tuples + rows_in k ≡ k.nots
unfolding rows_in
rows_some k h = omega arith

pub rows_few : (w : List ℕ) → Fits w → (r : ℕ) → rows_in (relation_line w r) ≤ 4294967296
unfolding rows_in relation_line
rows_few w fits r = let l : get_or w (relation_place r + 2) 0 ≤ 4294967296 = fits.entry (relation_place r + 2) in omega arith

module _ (n kind : ℕ) where
  pub free_none : kind < 2 → 0 ≡ free_in n kind
  unfolding free_in
  free_none h = rw (lt-ltb kind 2 h) refl

  pub free_one : 2 ≤ kind → kind < 4 → n ≡ free_in n kind
  unfolding free_in
  free_one h l = rw (le-ltb kind 2 h, lt-ltb kind 4 l) refl

  pub free_le : free_in n kind ≤ 2 * n
  unfolding free_in
  free_le = by_test (ltb kind 2) (ltb kind 4) (ltb 5 kind)
    where
      by_test : (a b c : Bool) → (if a then 0 else if b then n else if c then 0 else 2 * n) ≤ 2 * n
      by_test true b c = omega arith
      by_test false true c = omega arith
      by_test false false true = omega arith
      by_test false false false = omega arith

  pub free_two : 4 ≤ kind → kind ≤ 5 → 2 * n ≡ free_in n kind
  unfolding free_in
  free_two h k = let l : 2 ≤ kind = omega arith in rw (le-ltb kind 2 l, le-ltb kind 4 h, le-ltb 5 kind k) refl

  pub free_past : 5 < kind → 0 ≡ free_in n kind
  unfolding free_in
  free_past h = let l : 2 ≤ kind = omega arith in let k : 4 ≤ kind = omega arith in rw (le-ltb kind 2 l, le-ltb kind 4 k, lt-ltb 5 kind h) refl

-- ---- the n rows of a built-in relation from row x * n on, a digit each
module _ (n r row x y : ℕ) (e : row ≡ x * n) (l : y < n) where
  pair_at : r < 3 → built_in_holds n r x y ≡ built_in_at n r (row + y)
  unfolding built_in_at
  pair_at h =
      rw (lt-ltb r 3 h)
      (ap₂ (built_in_holds n r) (sym (ap (λ (i : ℕ). (i + y) / n) e ∙ digits_div x l)) (sym (ap (λ (i : ℕ). (i + y) % n) e ∙ digits_mod x l)))

  one_at : 3 ≤ r → built_in_holds n r (row + y) 0 ≡ built_in_at n r (row + y)
  unfolding built_in_at
  one_at h = rw (le-ltb r 3 h) refl

  -- the rows past the first n
  later : 0 < x → n ≤ row
  later h = let q : x ≡ 1 + (x - 1) = omega arith in omega (arith, e, ap (λ (i : ℕ). i * n) q, add-mul 1 (x - 1) n, one-mul n)

  start : x ≡ 0 → row ≡ 0
  start q = omega (arith, e, ap (λ (i : ℕ). i * n) q, zero-mul n)

  pub word_eq : {d : Bool} → r ≡ 0 → d ≡ eqb y x → d ≡ built_in_at n r (row + y)
  word_eq q h = h ∙ eqb_same y x x y (λ z. sym z) (λ z. sym z) ∙ is_eq n r x y q ∙ pair_at (omega arith)

  pub word_lt : (m c : ℕ) → r ≡ 1 → n ≤ 64 → c ≡ min (x + 1) 64 → m ≡ 2 ^ c - 1 → digit ((2 ^ 64 - 1) - m) y ≡ built_in_at n r (row + y)
  word_lt m c q few ec em =
      digit_not 64 m y (omega (arith, pow_pos c, pow_mono {i = c} {j = 64} (omega arith))) (omega arith) ∙ ap (λ (i : ℕ). not (digit i y)) em ∙ ap not (mask_digit c y) ∙ by_number (dec_lt x y)
      ∙ is_lt n r x y q ∙ pair_at (omega arith)
    where
      by_number : Dec (x < y) → not (ltb y c) ≡ ltb x y
      by_number (yes h) = ap not (le-ltb y c (omega arith)) ∙ sym (lt-ltb x y h)
      by_number (no h) = ap not (lt-ltb y c (omega arith)) ∙ sym (le-ltb x y (omega arith))

  pub word_suc : {d : Bool} → r ≡ 2 → d ≡ eqb y (x + 1) → d ≡ built_in_at n r (row + y)
  word_suc q h = h ∙ is_suc n r x y q ∙ pair_at (omega arith)

  pub word_zero : {d : Bool} → r ≡ 3 → d ≡ eqb y row → d ≡ built_in_at n r (row + y)
  word_zero q h = h ∙ eqb_same y row (row + y) 0 (λ z. zero_only (dec_lt 0 x) z) (λ z. omega arith) ∙ is_zero n r (row + y) 0 q ∙ one_at (omega arith)
    where
      zero_only : Dec (0 < x) → y ≡ row → row + y ≡ 0
      zero_only (yes g) z = absurd (omega (arith, later g))
      zero_only (no g) z = omega (arith, start (omega arith))

  pub word_max : {d : Bool} → r ≡ 4 → d ≡ eqb y (row + (n - 1)) → d ≡ built_in_at n r (row + y)
  word_max q h = h ∙ eqb_same y (row + (n - 1)) (row + y + 1) n (λ z. omega arith) (λ z. last_only (dec_lt 0 x) z) ∙ is_max n r (row + y) 0 q ∙ one_at (omega arith)
    where
      last_only : Dec (0 < x) → row + y + 1 ≡ n → y ≡ row + (n - 1)
      last_only (yes g) z = absurd (omega (arith, later g))
      last_only (no g) z = omega (arith, start (omega arith))

pub next_row : (x n : ℕ) → x * n + n ≡ (x + 1) * n
next_row x n = omega (arith, add-mul x 1 n, one-mul n)

built_is : (f : List ℕ) (n r kind first row : ℕ) → r < 5 → built_in_at n r row ≡ holds_at f n r kind first row
unfolding built_in_at
built_is f n r kind first row h = by_number (dec_lt r 3)
  where
    by_number : Dec (r < 3) → built_in_at n r row ≡ holds_at f n r kind first row
    by_number (yes l) = rw (lt-ltb r 3 l) (is_pair f n r kind first row l)
    by_number (no l) = let k : 3 ≤ r = omega arith in rw (le-ltb r 3 k) (is_one f n r kind first row k h)

-- ---- the tuples and not-tuples of a relation
turned_not : (b : Bool) → turned true b ≡ not b
unfolding turned
turned_not b = refl

turned_same : (b : Bool) → turned false b ≡ b
unfolding turned
turned_same b = refl

paste_from : (s : ℕ → Bool) (to : ℕ) (q : ℕ → Bool) (from c : ℕ) → paste s to q from c ≡ paste s to (λ i. q (from + i)) 0 c
unfolding paste
paste_from s to q from c = fun_ext (λ j. ap (λ (i : ℕ). cond (leb to j && ltb j (to + c)) (q (from + i)) (s j)) (sym (zero-add (j - to))))

module _ (f : List ℕ) (n r : ℕ) (k : RelationLine) (first c : ℕ) (s : ℕ → Bool) where
  abbrev g : ℕ → Bool
  g = holds_at f n r k.kind first

  abbrev h : ℕ → Bool
  h = λ row. not (holds_at f n r k.kind first row)

  -- both ranges are written
  held_built : r < 5 → held_put f n r k first c s ≡ paste s k.tuples g 0 c
  unfolding held_put
  held_built l = rw (lt-ltb r 5 l) refl

  held_facts : 5 ≤ r → k.kind ≡ 0 → held_put f n r k first c s ≡ paste s k.tuples g 0 c
  unfolding held_put
  held_facts l e = rw (le-ltb r 5 l, eq-eqb k.kind 0 e) refl

  held_chosen : 5 ≤ r → k.kind ≢ 0 → held_put f n r k first c s ≡ s
  unfolding held_put
  held_chosen l e = rw (le-ltb r 5 l, ne_eqb k.kind 0 e) refl

  both_put : {q q' d d' : ℕ → Bool} → held_put f n r k first c s ≡ paste s k.tuples g 0 c → q ≡ g → q' ≡ h
      → d ≡ paste s k.tuples q 0 c → d' ≡ paste d k.nots q' 0 c → d' ≡ tuples_put f n r k first c s
  unfolding tuples_put
  both_put is e e' a b =
      b ∙ ap₂ (λ (z y : ℕ → Bool). paste z k.nots y 0 c) (a ∙ ap (λ (y : ℕ → Bool). paste s k.tuples y 0 c) e ∙ sym is) e'

  pub tuples_none : c ≡ 0 → s ≡ tuples_put f n r k first c s
  unfolding tuples_put
  tuples_none e = nothing (dec_lt r 5) (ℕ_discrete k.kind 0) ∙ ap (paste (held_put f n r k first c s) k.nots h 0) (sym e) ∙ refl
    where
      nothing : Dec (r < 5) → Dec (k.kind ≡ 0) → s ≡ paste (held_put f n r k first c s) k.nots h 0 0
      nothing (yes l) d = empty ∙ ap (λ (z : ℕ → Bool). paste z k.nots h 0 0) (sym (held_built l))
        where
          empty : s ≡ paste (paste s k.tuples g 0 c) k.nots h 0 0
          empty = paste_zero s k.tuples g 0 ∙ ap (paste s k.tuples g 0) (sym e) ∙ paste_zero (paste s k.tuples g 0 c) k.nots h 0
      nothing (no l) (yes d) = empty ∙ ap (λ (z : ℕ → Bool). paste z k.nots h 0 0) (sym (held_facts (omega arith) d))
        where
          empty : s ≡ paste (paste s k.tuples g 0 c) k.nots h 0 0
          empty = paste_zero s k.tuples g 0 ∙ ap (paste s k.tuples g 0) (sym e) ∙ paste_zero (paste s k.tuples g 0 c) k.nots h 0
      nothing (no l) (no d) = paste_zero s k.nots h 0 ∙ ap (λ (z : ℕ → Bool). paste z k.nots h 0 0) (sym (held_chosen (omega arith) d))

  pub tuples_built : r < 5 → {d d' : ℕ → Bool} → d ≡ paste s k.tuples (λ i. turned false (built_in_at n r i)) 0 c
      → d' ≡ paste d k.nots (λ i. turned true (built_in_at n r i)) 0 c → d' ≡ tuples_put f n r k first c s
  tuples_built l a b =
      both_put (held_built l) (fun_ext (λ i. turned_same (built_in_at n r i) ∙ built_is f n r k.kind first i l))
      (fun_ext (λ i. turned_not (built_in_at n r i) ∙ ap not (built_is f n r k.kind first i l))) a b

  pub tuples_facts : 5 ≤ r → k.kind ≡ 0 → {d d' : ℕ → Bool} → d ≡ paste s k.tuples (λ i. turned false (bit f i)) (64 * first) c
      → d' ≡ paste d k.nots (λ i. turned true (bit f i)) (64 * first) c → d' ≡ tuples_put f n r k first c s
  tuples_facts l e a b =
      both_put (held_facts l e) (fun_ext (λ i. turned_same (bit f (64 * first + i)) ∙ is_fact f n r k.kind first i l e))
      (fun_ext (λ i. turned_not (bit f (64 * first + i)) ∙ ap not (is_fact f n r k.kind first i l e)))
      (a ∙ paste_from s k.tuples (λ i. turned false (bit f i)) (64 * first) c) (b ∙ paste_from _ k.nots (λ i. turned true (bit f i)) (64 * first) c)

  pub tuples_chosen : 5 ≤ r → k.kind ≢ 0 → {d : ℕ → Bool} → d ≡ paste s k.nots (λ i. true) 0 c → d ≡ tuples_put f n r k first c s
  unfolding tuples_put
  tuples_chosen l e a =
      a ∙ ap₂ (λ (z y : ℕ → Bool). paste z k.nots y 0 c) (sym (held_chosen l e)) (fun_ext (λ i. ap not (is_unpicked f n r k.kind first i l e)))

  pub tuples_count : (m : ℕ) → c ≡ m → {d : ℕ → Bool} → d ≡ tuples_put f n r k first c s → d ≡ tuples_put f n r k first m s
  tuples_count m e a = a ∙ ap (λ (x : ℕ). tuples_put f n r k first x s) e

  -- where the tuples' range was clear, both are written of a `choose` too
  pub tuples_both : ((i : ℕ) → i < c → s (k.tuples + i) ≡ false) → tuples_put f n r k first c s ≡ paste (paste s k.tuples g 0 c) k.nots h 0 c
  unfolding tuples_put
  tuples_both clear = ap (λ (z : ℕ → Bool). paste z k.nots h 0 c) (held (dec_lt r 5) (ℕ_discrete k.kind 0))
    where
      held : Dec (r < 5) → Dec (k.kind ≡ 0) → held_put f n r k first c s ≡ paste s k.tuples g 0 c
      held (yes l) d = held_built l
      held (no l) (yes d) = held_facts (omega arith) d
      held (no l) (no d) = held_chosen (omega arith) d ∙ paste_clear s k.tuples c g (λ i u. clear i u ∙ is_unpicked f n r k.kind first i (omega arith) d)

-- ---- a relation, and all of them
pub line_few : (w : List ℕ) → Fits w → (r : ℕ) (k : RelationLine) → k ≡ relation_line w r → (k.tuples ≤ 4294967296) × (k.nots ≤ 4294967296) × (k.free ≤ 4294967296)
unfolding relation_line
line_few w fits r k e = rw e (fits.entry (relation_place r + 1), fits.entry (relation_place r + 2), fits.entry (relation_place r + 3))

pub relation_put_lem : (f w : List ℕ) (r first len : ℕ) (s : ℕ → Bool) (k : RelationLine) (c : ℕ) {d d' : ℕ → Bool} → k ≡ relation_line w r → c ≡ free_in (size_in w) k.kind
    → (k.nots + rows_in k ≤ 64 * len → d ≡ tuples_put f (size_in w) r k first (rows_in k) s) → (k.free + c ≤ 64 * len → d' ≡ paste d k.free (λ i. true) 0 c)
    → RelationRoom w len r → d' ≡ relation_put f w r first s
unfolding relation_put
relation_put_lem f w r first len s k c e ec h₁ h₂ room =
    let a : k.nots + rows_in k ≤ 64 * len = subst (λ (x : RelationLine). x.nots + rows_in x ≤ 64 * len) (sym e) room.tuples in
    let b : k.free + c ≤ 64 * len = subst (λ (x : ℕ). k.free + x ≤ 64 * len) (sym ec) (subst (λ (x : RelationLine). x.free + free_in (size_in w) x.kind ≤ 64 * len) (sym e) room.free) in
    h₂ b ∙ ap₂ (λ (z : ℕ → Bool) (m : ℕ). paste z k.free (λ i. true) 0 m) (h₁ a) ec
    ∙ ap (λ (x : RelationLine). paste (tuples_put f (size_in w) r x first (rows_in x) s) x.free (λ i. true) 0 (free_in (size_in w) x.kind)) e

pub words_none : (w : List ℕ) (r : ℕ) → r < 5 → 0 ≡ words_in w r
unfolding words_in
words_none w r h = rw (lt-ltb r 5 h) refl

pub words_are : (w : List ℕ) (r : ℕ) → 5 ≤ r → (rows_in (relation_line w r) + 63) / 64 ≡ words_in w r
unfolding words_in words_for
words_are w r h = rw (le-ltb r 5 h) refl

pub relations_none : (f w : List ℕ) (s : ℕ → Bool) → s ≡ relations_put f w 0 s
unfolding relations_put
relations_none f w s = refl

pub relations_step : (f w : List ℕ) (r first : ℕ) (s : ℕ → Bool) {d d' : ℕ → Bool} → first ≡ first_in w r → d ≡ relations_put f w r s → d' ≡ relation_put f w r first d → d' ≡ relations_put f w (r + 1) s
unfolding relations_put
relations_step f w r first s e h h' = rw (add-one r) (h' ∙ ap₂ (λ (k : ℕ) (z : ℕ → Bool). relation_put f w r k z) e h)

pub first_none : (w : List ℕ) → 0 ≡ first_in w 0
unfolding first_in
first_none w = refl

pub first_step : (w : List ℕ) (r : ℕ) → first_in w r + words_in w r ≡ first_in w (r + 1)
unfolding first_in
first_step w r = rw (add-one r) refl

-- the words of facts are few enough to count
module _ (w : List ℕ) (fits : Fits w) where
  words_few : (r : ℕ) → words_in w r ≤ 134217728
  unfolding words_in words_for
  words_few r = by_test (ltb r 5)
    where
      by_test : (b : Bool) → (if b then 0 else (rows_in (relation_line w r) + 63) / 64) ≤ 134217728
      by_test true = omega arith
      by_test false = omega (arith, rows_few w fits r)

  pub first_few : (r : ℕ) → first_in w r ≤ 134217728 * r
  unfolding first_in
  first_few zero = omega arith
  first_few (suc r) = omega (arith, first_few r, words_few r)

-- ---- the words that the atoms need
module _ (w : List ℕ) (x : NodeLine) (e : x ≡ node_line w (nodes_in w)) where
  pub atoms_few : Fits w → x.atoms ≤ 4294967296
  unfolding node_line
  atoms_few fits = rw e (fits.entry (node_place (nodes_in w) + 1))

  pub atoms_words : (c : ℕ) → c ≡ every_in w → (x.atoms + 3 * c + 63) / 64 ≡ words_for (atoms_in w)
  unfolding words_for
  atoms_words c q = ap₂ (λ (v : NodeLine) (k : ℕ). (v.atoms + 3 * k + 63) / 64) e q

-- an `every` line's relation has few tuples to count
pub every_few : (w : List ℕ) → Fits w → every_in w ≤ 4294967296
unfolding every_in relation_line
every_few w fits = by_test (has_every w)
  where
    by_test : (b : Bool) → (if b then (last_line w).nots - (last_line w).tuples else 0) ≤ 4294967296
    by_test true = let l : get_or w (relation_place (relations_in w - 1) + 2) 0 ≤ 4294967296 = fits.entry (relation_place (relations_in w - 1) + 2) in omega arith
    by_test false = omega arith
