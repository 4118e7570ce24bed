-- A word as a span of a text: its bytes, its parts and its numbers, letters folded. Assumes nothing.
use Rattle.std.specs.Prelude.{Some, None}
use Rattle.std.specs.Prelude as P
use Prim.Native.Nat.{ℕ, zero, suc, ◌+◌, ◌-◌, ◌≤◌, ◌<◌}
use Rattle.std.specs.Prelude.{◌≡◌, Bool, ltb, length, get_or, drop}
use Rattle.std.proofs.Math.Path.{refl, sym, ap, ap₂}
use Rattle.std.proofs.Common.{◌∙◌, inl, inr, drop-drop, take-take, get_or-take, length-take-le}
use Rattle.std.proofs.Math.Bool.{true, false}
use Rattle.std.proofs.Math.Option.{Option, some}
use mathlib.Core.List.{List, [], ◌∷◌}
use native.Mathlib.Omega.{arith}
use Rattle.std.proofs.Math.Dec.{eqb}
use Rattle.std.proofs.Math.ListN.{take}
use Rattle.std.proofs.Math.Seq.{slice, length-slice, take-nil, take-append_seam}
use borrow.Author.Tests.{eq-eqb, ne_eqb, lt-ltb, le-ltb}
use Rattle.definitions.specs.Lists.{all, option, same}
use Rattle.definitions.specs.Sheet.Text.{is_capital, is_between, no_leading_zero, number}
use Rattle.definitions.specs.Reply.Lifted.{and_name, exists_name}
use Rattle.definitions.specs.Reply.Outcome.{written}
use Rattle.definitions.specs.Reply.Pddl.{small, folded}
use Rattle.read_text.specs.Spans.{index_of}
use Rattle.read_text.specs.Spans.{option_of}
use Rattle.read_text.proofs.Laws.{span_at, same_hit, same_miss, same_end, same_length}
use Rattle.read_line.proofs.Fields.{num_is, num_bad}
use Rattle.print_names.specs.declared.Name.{Name}
use Rattle.print_names.specs.declared.Name.TheVariants as N
use Rattle.print_names.specs.Naming.{name_of}
use Rattle.print_bytes.specs.Emitted.{Emits, measured, whole_written}
use Rattle.read_plan.specs.Spelled.{small_apart, number_folded, index_folded, length_folded}
use Rattle.read_plan.specs.Names.{number_or, or_in, forall_in, proof_by, proof_in, other_in}

-- ---- bytes
pub folded_at : (l : List ℕ) (i : ℕ) → get_or (folded l) i 0 ≡ small (get_or l i 0)
unfolding folded small is_capital is_between
folded_at [] i = refl
folded_at (x ∷ l) zero = refl
folded_at (x ∷ l) (suc i) = folded_at l i

pub word_at : (s : List ℕ) (a e i : ℕ) → a + i < e → get_or (folded (slice a e s)) i 0 ≡ small (get_or s (a + i) 0)
word_at s a e i h = folded_at (slice a e s) i ∙ ap small (span_at a e s i h)

pub word_first : (s : List ℕ) (a e b : ℕ) → a < e → b ≡ small (get_or s a 0) → get_or (folded (slice a e s)) 0 0 ≡ b
word_first s a e b h q = let z : a + 0 ≡ a = omega arith in word_at s a e 0 (omega arith) ∙ ap (λ (m : ℕ). small (get_or s m 0)) z ∙ sym q

pub word_length : (s : List ℕ) (a e : ℕ) → e ≤ length s → length (folded (slice a e s)) ≡ e - a
word_length s a e k = length_folded (slice a e s) ∙ length-slice a e s k

-- ---- parts
drop_folded : (k : ℕ) (l : List ℕ) → drop k (folded l) ≡ folded (drop k l)
unfolding folded
drop_folded zero l = refl
drop_folded (suc k) [] = refl
drop_folded (suc k) (x ∷ l) = drop_folded k l

take_folded : (k : ℕ) (l : List ℕ) → take k (folded l) ≡ folded (take k l)
unfolding folded
take_folded zero l = refl
take_folded (suc k) [] = refl
take_folded (suc k) (x ∷ l) = ap (λ (m : List ℕ). small x ∷ m) (take_folded k l)

pub word_after : (s : List ℕ) (a e k : ℕ) → drop k (folded (slice a e s)) ≡ folded (slice (a + k) e s)
word_after s a e k = drop_folded k (slice a e s) ∙ ap folded (drop-drop k a (take e s))

drop_take : (m n : ℕ) (l : List ℕ) → drop m (take (m + n) l) ≡ take n (drop m l)
drop_take zero n l = let z : zero + n ≡ n = omega arith in ap (λ (k : ℕ). take k l) z
drop_take (suc m) n [] = let z : suc m + n ≡ suc (m + n) = omega arith in ap (λ (k : ℕ). drop (suc m) (take k [])) z ∙ sym (take-nil n)
drop_take (suc m) n (x ∷ l) = let z : suc m + n ≡ suc (m + n) = omega arith in ap (λ (k : ℕ). drop (suc m) (take k (x ∷ l))) z ∙ drop_take m n l

pub word_before : (s : List ℕ) (a b e k : ℕ) → b ≡ a + k → b ≤ e → take k (folded (slice a e s)) ≡ folded (slice a b s)
word_before s a b e k q h =
    take_folded k (slice a e s) ∙ ap folded (sym (ap (λ (x : ℕ). slice a x s) q ∙ ap (drop a) (sym (take-take (a + k) e s (omega arith))) ∙ drop_take a k (take e s)))

pub no_span : (s : List ℕ) (a e : ℕ) → e < a → e ≤ length s → slice a e s ≡ []
no_span s a e h k = empty (slice a e s) (omega (arith, length-slice a e s k))
  where
    empty : (l : List ℕ) → length l ≡ 0 → l ≡ []
    empty [] q = refl
    empty (x ∷ l) q = absurd (omega arith)

-- ---- numbers
pub number_same : (xs : List ℕ) → number_or (folded xs) ≡ number_or xs
unfolding number_or
number_same xs = ap (λ (o : Option ℕ). option o 10000000 (λ v. v)) (number_folded xs)

pub number_none : (s : List ℕ) (a e : ℕ) → e < a → e ≤ length s → 10000000 ≡ number_or (slice a e s)
unfolding number_or number option all no_leading_zero
number_none s a e h k = sym (ap number_or (no_span s a e h k))

pub number_bad : (t : List ℕ) (n : P.Option ℕ) → n ≡ option_of (number t) → n ≡ None → 10000000 ≡ number_or t
unfolding number_or option
number_bad t n q e = sym (ap (λ (o : Option ℕ). option o 10000000 (λ v. v)) (num_bad (number t) n e q))

pub number_is : (t : List ℕ) (n : P.Option ℕ) (k : ℕ) → n ≡ option_of (number t) → n ≡ Some k → k ≡ number_or t
unfolding number_or option
number_is t n k q e = sym (ap (λ (o : Option ℕ). option o 10000000 (λ v. v)) (num_is (number t) n k e q))

-- ---- the name of an `or`
module _ (s : List ℕ) (a e t : ℕ) (h : a ≤ e) (k : e ≤ length s) (q : t ≡ a + index_of 95 (slice a e s)) where
  index : index_of 95 (folded (slice a e s)) ≡ t - a
  index = index_folded 95 (inr (omega arith, omega arith)) (slice a e s) ∙ omega (arith, q)

  pub or_none : t ≡ e → name_of N.Nobody ≡ or_in (folded (slice a e s))
  unfolding or_in name_of
  or_none z = let l = word_length s a e k in let b : eqb (index_of 95 (folded (slice a e s))) (length (folded (slice a e s))) ≡ true = eq-eqb (index_of 95 (folded (slice a e s))) (length (folded (slice a e s))) (omega (arith, index)) in rw b refl

  pub or_some : t < e → (v i : ℕ) → v ≡ number_or (slice a t s) → i ≡ number_or (slice (t + 1) e s) → name_of (N.Or v i) ≡ or_in (folded (slice a e s))
  unfolding or_in name_of
  or_some z v i x y =
      let l = word_length s a e k in
      let b : eqb (index_of 95 (folded (slice a e s))) (length (folded (slice a e s))) ≡ false = ne_eqb (index_of 95 (folded (slice a e s))) (length (folded (slice a e s))) (λ w. omega (arith, index)) in
      let f : number_or (take (index_of 95 (folded (slice a e s))) (folded (slice a e s))) ≡ v = ap number_or (word_before s a t e (index_of 95 (folded (slice a e s))) (omega (arith, index, q)) (omega arith)) ∙ number_same (slice a t s) ∙ sym x in
      let j : a + suc (index_of 95 (folded (slice a e s))) ≡ t + 1 = omega (arith, index, q) in
      let g : number_or (drop (suc (index_of 95 (folded (slice a e s)))) (folded (slice a e s))) ≡ i = ap number_or (word_after s a e (suc (index_of 95 (folded (slice a e s)))) ∙ ap (λ (m : ℕ). folded (slice m e s)) j) ∙ number_same (slice (t + 1) e s) ∙ sym y in
      rw (b, f, g) refl

-- ---- the name of a `forall`
module _ (s : List ℕ) (a e : ℕ) (k : e ≤ length s) where
  pub forall_none : e < a + 2 → name_of N.Nobody ≡ forall_in (folded (slice a e s))
  unfolding forall_in name_of
  forall_none h = rw (lt-ltb (length (folded (slice a e s))) 2 (omega (arith, word_length s a e k))) refl

  module _ (h : a + 2 ≤ e) (v : ℕ) (x : v ≡ number_or (slice a (e - 2) s)) where
    long : ltb (length (folded (slice a e s))) 2 ≡ false
    long = le-ltb (length (folded (slice a e s))) 2 (omega (arith, word_length s a e k))

    value : number_or (take (length (folded (slice a e s)) - 2) (folded (slice a e s))) ≡ v
    value = let l = word_length s a e k in ap number_or (word_before s a (e - 2) e (length (folded (slice a e s)) - 2) (omega arith) (omega arith)) ∙ number_same (slice a (e - 2) s) ∙ sym x

    last : get_or (folded (slice a e s)) (length (folded (slice a e s)) - 1) 0 ≡ small (get_or s (e - 1) 0)
    last = let l = word_length s a e k in let j : a + (length (folded (slice a e s)) - 1) ≡ e - 1 = omega arith in word_at s a e (length (folded (slice a e s)) - 1) (omega arith) ∙ ap (λ (m : ℕ). small (get_or s m 0)) j

    small_one : (b : ℕ) → eqb (small b) 49 ≡ eqb b 49
    small_one b = small_apart 49 b (inl (omega arith))

    pub forall_first : get_or s (e - 1) 0 ≡ 49 → name_of (N.First v) ≡ forall_in (folded (slice a e s))
    unfolding forall_in name_of
    forall_first y = let b : eqb (get_or (folded (slice a e s)) (length (folded (slice a e s)) - 1) 0) 49 ≡ true = ap (λ (m : ℕ). eqb m 49) last ∙ small_one (get_or s (e - 1) 0) ∙ eq-eqb _ _ y in rw (long, b, value) refl

    pub forall_next : (get_or s (e - 1) 0 ≡ 49 → ⊥) → name_of (N.Next v) ≡ forall_in (folded (slice a e s))
    unfolding forall_in name_of
    forall_next y = let b : eqb (get_or (folded (slice a e s)) (length (folded (slice a e s)) - 1) 0) 49 ≡ false = ap (λ (m : ℕ). eqb m 49) last ∙ small_one (get_or s (e - 1) 0) ∙ ne_eqb _ _ y in rw (long, b, value) refl

-- ---- by the seventh byte
module _ (s : List ℕ) (a e : ℕ) (h : a ≤ e) (k : e ≤ length s) where
  pub proof_short : e - a < 10 → name_of N.Nobody ≡ proof_in (folded (slice a e s))
  unfolding proof_in name_of
  proof_short l = rw (lt-ltb (length (folded (slice a e s))) 10 (omega (arith, word_length s a e k))) refl

  module _ (l : 10 ≤ e - a) (b : ℕ) (q : b ≡ small (get_or s (a + 6) 0)) where
    by_byte : proof_in (folded (slice a e s)) ≡ proof_by b (folded (slice a e s))
    unfolding proof_in
    by_byte = rw (le-ltb (length (folded (slice a e s))) 10 (omega (arith, word_length s a e k)), word_at s a e 6 (omega arith)) (ap (λ (x : ℕ). proof_by x (folded (slice a e s))) (sym q))

    pub proof_goal : b ≡ 103 → name_of N.Goal ≡ proof_in (folded (slice a e s))
    unfolding proof_by name_of
    proof_goal z = sym (by_byte ∙ rw (eq-eqb b 103 z) refl)

    pub proof_and : (b ≡ 103 → ⊥) → b ≡ 97 → (v : ℕ) → v ≡ number_or (slice (a + 10) e s) → name_of (N.And v) ≡ proof_in (folded (slice a e s))
    unfolding proof_by name_of
    proof_and x z v y = sym (by_byte ∙ rw (ne_eqb b 103 x, eq-eqb b 97 z) (ap (λ (m : ℕ). some (and_name m)) (ap number_or (word_after s a e 10) ∙ number_same (slice (a + 10) e s) ∙ sym y)))

    pub proof_or : (b ≡ 103 → ⊥) → (b ≡ 97 → ⊥) → b ≡ 111 → (r : Name) → name_of r ≡ or_in (folded (slice (a + 9) e s)) → name_of r ≡ proof_in (folded (slice a e s))
    unfolding proof_by
    proof_or x w z r y = y ∙ sym (by_byte ∙ rw (ne_eqb b 103 x, ne_eqb b 97 w, eq-eqb b 111 z) (ap or_in (word_after s a e 9)))

    pub proof_exists : (b ≡ 103 → ⊥) → (b ≡ 97 → ⊥) → (b ≡ 111 → ⊥) → b ≡ 101 → (v : ℕ) → v ≡ number_or (slice (a + 13) e s) → name_of (N.Exists v) ≡ proof_in (folded (slice a e s))
    unfolding proof_by name_of
    proof_exists x w u z v y = sym (by_byte ∙ rw (ne_eqb b 103 x, ne_eqb b 97 w, ne_eqb b 111 u, eq-eqb b 101 z) (ap (λ (m : ℕ). some (exists_name m)) (ap number_or (word_after s a e 13) ∙ number_same (slice (a + 13) e s) ∙ sym y)))

    pub proof_forall : (b ≡ 103 → ⊥) → (b ≡ 97 → ⊥) → (b ≡ 111 → ⊥) → (b ≡ 101 → ⊥) → (r : Name) → name_of r ≡ forall_in (folded (slice (a + 13) e s)) → name_of r ≡ proof_in (folded (slice a e s))
    unfolding proof_by
    proof_forall x w u z r y = y ∙ sym (by_byte ∙ rw (ne_eqb b 103 x, ne_eqb b 97 w, ne_eqb b 111 u, ne_eqb b 101 z) (ap forall_in (word_after s a e 13)))

  -- ---- and by the first
  module _ (l : a < e) (b : ℕ) (q : b ≡ small (get_or s a 0)) where
    first : get_or (folded (slice a e s)) 0 0 ≡ b
    first = let z : a + 0 ≡ a = omega arith in word_at s a e 0 (omega arith) ∙ ap (λ (m : ℕ). small (get_or s m 0)) z ∙ sym q

    pub other_begin : b ≡ 98 → name_of N.Begin ≡ other_in (folded (slice a e s))
    unfolding other_in name_of
    other_begin z = rw (first, eq-eqb b 98 z) refl

    pub other_proof : (b ≡ 98 → ⊥) → (r : Name) → name_of r ≡ proof_in (folded (slice a e s)) → name_of r ≡ other_in (folded (slice a e s))
    unfolding other_in
    other_proof z r y = rw (first, ne_eqb b 98 z) y

-- ---- the same letters
module _ (t : List ℕ) (n : ℕ) (s : List ℕ) (a : ℕ) (h : n ≤ length t) (k : a + n ≤ length s) where
  abbrev pub ours : List ℕ
  ours = folded (take n t)

  abbrev pub theirs : List ℕ
  theirs = folded (slice a (a + n) s)

  ours_long : length ours ≡ n
  ours_long = length_folded (take n t) ∙ length-take-le n t h

  theirs_long : length theirs ≡ n
  theirs_long = word_length s a (a + n) k ∙ omega arith

  module _ (i : ℕ) where
    both : i < n → (get_or ours i 0 ≡ small (get_or t i 0)) × (get_or theirs i 0 ≡ small (get_or s (a + i) 0))
    both l = (folded_at (take n t) i ∙ ap small (get_or-take n t i 0 l), word_at s a (a + n) i (omega arith))

    pub letters_hit : i < n → small (get_or t i 0) ≡ small (get_or s (a + i) 0) → same (drop i ours) (drop i theirs) ≡ same (drop (i + 1) ours) (drop (i + 1) theirs)
    letters_hit l e = same_hit ours theirs i (omega (arith, ours_long)) (omega (arith, theirs_long)) ((both l).0 ∙ e ∙ sym (both l).1)

    pub letters_miss : i < n → (small (get_or t i 0) ≡ small (get_or s (a + i) 0) → ⊥) → same (drop i ours) (drop i theirs) ≡ false
    letters_miss l e = same_miss ours theirs i (omega (arith, ours_long)) (omega (arith, theirs_long)) (λ w. e (sym (both l).0 ∙ w ∙ (both l).1))

    pub letters_end : n ≤ i → same (drop i ours) (drop i theirs) ≡ true
    letters_end l = same_end ours theirs i (omega (arith, ours_long)) (omega (arith, theirs_long))

-- ---- a word that was printed
module _ (word old new s : List ℕ) (n a e : ℕ) (p : Emits word old 0 new n) (short : length word ≤ length old) (few : length old ≤ 64) (h : a ≤ e) (k : e ≤ length s) where
  printed : n ≡ length word
  printed = measured (omega arith) p

  pub said_long : (n ≡ e - a → ⊥) → false ≡ same (folded word) (folded (slice a e s))
  said_long z = sym (same_length (folded word) (folded (slice a e s)) (λ w. z (omega (arith, printed, length_folded word, word_length s a e k))))

  pub said_same : n ≡ e - a → (r : Bool) → r ≡ same (folded (take n new)) (folded (slice a (a + n) s)) → r ≡ same (folded word) (folded (slice a e s))
  unfolding written
  said_same z r q =
      let w : take n new ≡ word = ap₂ take printed (whole_written short p) ∙ take-append_seam word (drop (length word) old) in
      let j : a + n ≡ e = omega arith in
      q ∙ ap₂ (λ (x : List ℕ) (m : ℕ). same (folded x) (folded (slice a m s))) w j

  pub said_far : 24 < n → length word ≤ 24 → ⊥
  said_far l g = omega (arith, printed)
