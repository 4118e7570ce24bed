-- The objects of a plan's line, and the row of the first of them. Assumes nothing.
use native.Mathlib.Decide.{dec_lt}
use Rattle.std.specs.Prelude.{min}
use Rattle.std.specs.Prelude.{Some, None}
use Rattle.std.specs.Prelude as P
use Rattle.std.specs.Prelude.{ℕ, zero, suc, ◌+◌, ◌*◌, ◌^◌, ◌≤◌, ◌<◌, eqb, ltb, get_or, set, if◌then◌else◌}
use Rattle.std.proofs.Math.Path.{◌≡◌, refl, sym, ap}
use Rattle.std.proofs.Common.{◌∙◌, add-one, mul-le-mul, take-suc-set}
use Rattle.std.proofs.Math.Option.{Option, none, some}
use mathlib.Core.List.{List, [], ◌∷◌, ◌++◌, append_assoc, append-nil}
use native.Mathlib.Omega.{arith}
use Rattle.std.proofs.Math.Nat.{pow-le-pow_left, pow-le-pow_right}
use Rattle.std.proofs.Math.ListN.{length, take, length-set, length-append}
use Rattle.std.proofs.Math.Seq.{slice, length-take-le}
use borrow.Author.Tests.{eq-eqb, ne_eqb, lt-ltb, le-ltb}
use Rattle.definitions.specs.Lists.{all, option}
use Rattle.definitions.specs.Sheet.Text.{split, number}
use Rattle.definitions.specs.Problem.Atoms.{row_of}
use Rattle.definitions.specs.Reply.Pddl.{small, folded, object_from, objects_from}
use Rattle.laws.specs.Rows.{Below, cons_below, row_lt, row_snoc}
use Rattle.read_text.specs.Spans.{index_of, option_of}
use Rattle.read_line.proofs.Fields.{num_is, num_bad}
use Rattle.read_plan.specs.Spelled.{number_folded}
use Rattle.read_plan.specs.Words.{folded_next, folded_none, first_word_lem}

-- ---- one object; n stands for none
unfoldable pub object_of : ℕ → ℕ → Option ℕ
object_of n x = if ltb x n then some x else none

none_of : (n : ℕ) → object_of n n ≡ none
unfolding object_of
none_of n = rw (le-ltb n n (omega arith)) refl

module _ (s : List ℕ) (a e n : ℕ) (k : e ≤ length s) where
  pub object_empty : a ≡ e → object_of n n ≡ object_from n (folded (slice a e s))
  unfolding object_from
  object_empty z = none_of n ∙ sym (ap (object_from n) (folded_none s a e k (omega arith) (omega arith)))

  module _ (h : a < e) where
    its : object_from n (folded (slice a e s)) ≡ (if eqb (small (get_or s a 0)) 111 then option (number (slice (a + 1) e s)) none (λ x. object_of n x) else none)
    unfolding object_from object_of
    its = rw (folded_next s a e k h, number_folded (slice (a + 1) e s)) refl

    pub object_other : (b : ℕ) → b ≡ small (get_or s a 0) → (b ≡ 111 → ⊥) → object_of n n ≡ object_from n (folded (slice a e s))
    object_other b q z = none_of n ∙ sym (its ∙ rw (sym q, ne_eqb b 111 z) refl)

    module _ (b : ℕ) (q : b ≡ small (get_or s a 0)) (z : b ≡ 111) (v : P.Option ℕ) (r : v ≡ option_of (number (slice (a + 1) e s))) where
      pub object_bad : v ≡ None → object_of n n ≡ object_from n (folded (slice a e s))
      unfolding option
      object_bad y = none_of n ∙ sym (its ∙ rw (sym q, eq-eqb b 111 z, num_bad (number (slice (a + 1) e s)) v y r) refl)

      pub object_is : (x : ℕ) → v ≡ Some x → object_of n x ≡ object_from n (folded (slice a e s))
      unfolding option
      object_is x y = sym (its ∙ rw (sym q, eq-eqb b 111 z, num_is (number (slice (a + 1) e s)) v x y r) refl)

      pub object_large : (x : ℕ) → v ≡ Some x → n ≤ x → object_of n n ≡ object_from n (folded (slice a e s))
      unfolding object_of
      object_large x y l = none_of n ∙ sym (sym (object_is x y) ∙ rw (le-ltb x n l) refl)

      -- the lesser of the number and n
      pub object_least : (x m : ℕ) → v ≡ Some x → m ≡ min x n → object_of n m ≡ object_from n (folded (slice a e s))
      object_least x m y w = by_order (dec_lt x n)
        where
          by_order : Dec (x < n) → object_of n m ≡ object_from n (folded (slice a e s))
          by_order (yes l) = let z : m ≡ x = omega arith in rw z (object_is x y)
          by_order (no l) = let z : m ≡ n = omega arith in rw z (object_large x y (omega arith))

-- ---- several, after the space at t
unfoldable pub words_after : List ℕ → ℕ → ℕ → List (List ℕ)
words_after s t e = if ltb t e then split 32 (folded (slice (t + 1) e s)) else []

pub after_next : (s : List ℕ) (t f e : ℕ) → t < e → e ≤ length s → f ≡ (t + 1) + index_of 32 (slice (t + 1) e s) → words_after s t e ≡ folded (slice (t + 1) f s) ∷ words_after s f e
unfolding words_after
after_next s t f e h k q = rw (lt-ltb t e h) (first_word_lem s (t + 1) f e (omega arith) k q)

pub after_none : (s : List ℕ) (t e : ℕ) → e ≤ t → words_after s t e ≡ []
unfolding words_after
after_none s t e h = rw (le-ltb t e h) refl

pub line_words_lem : (s : List ℕ) (a t e : ℕ) → a ≤ e → e ≤ length s → t ≡ a + index_of 32 (slice a e s) → split 32 (folded (slice a e s)) ≡ folded (slice a t s) ∷ words_after s t e
unfolding words_after
line_words_lem s a t e h k q = first_word_lem s a t e h k q

-- what was read stands before what is to be read
unfoldable pub onto : List ℕ → Option (List ℕ) → Option (List ℕ)
onto xs o = option o none (λ ys. some (xs ++ ys))

pub record Gathered (n : ℕ) (ws : List (List ℕ)) (s : List ℕ) (e at count : ℕ) (values : List ℕ) : Type 0 where
  pub joined : objects_from n ws ≡ onto (take count values) (objects_from n (words_after s at e))
  pub few : count ≤ 6
  pub room : length values ≡ 6

onto_none : (o : Option (List ℕ)) → o ≡ onto [] o
unfolding onto option
onto_none none = refl
onto_none (some xs) = refl

pub gathered_first : (n : ℕ) (s : List ℕ) (e at : ℕ) (values : List ℕ) → length values ≡ 6 → Gathered n (words_after s at e) s e at 0 values
gathered_first n s e at values h = record { joined = onto_none (objects_from n (words_after s at e)); few = omega arith; room = h }

module _ (n : ℕ) (ws : List (List ℕ)) (s : List ℕ) (e at f count : ℕ) (values : List ℕ) (G : Gathered n ws s e at count values) (h : at < e) (k : e ≤ length s) (q : f ≡ (at + 1) + index_of 32 (slice (at + 1) e s)) where
  rest : objects_from n (words_after s at e) ≡ option (object_from n (folded (slice (at + 1) f s))) none (λ x. option (objects_from n (words_after s f e)) none (λ xs. some (x ∷ xs)))
  unfolding objects_from
  rest = ap (objects_from n) (after_next s at f e h k q)

  rest_some : (x : ℕ) → object_from n (folded (slice (at + 1) f s)) ≡ some x → objects_from n (words_after s at e) ≡ option (objects_from n (words_after s f e)) none (λ xs. some (x ∷ xs))
  unfolding option
  rest_some x y = rest ∙ rw y refl

  rest_none : object_from n (folded (slice (at + 1) f s)) ≡ none → objects_from n (words_after s at e) ≡ none
  unfolding option
  rest_none y = rest ∙ rw y refl

  pub gathered_next : (x : ℕ) → object_of n x ≡ object_from n (folded (slice (at + 1) f s)) → x < n → count < 6 → Gathered n ws s e f (count + 1) (set values count x)
  unfolding onto option object_of
  gathered_next x o l g =
      let y : object_from n (folded (slice (at + 1) f s)) ≡ some x = sym o ∙ rw (lt-ltb x n l) refl in
      let t : take (count + 1) (set values count x) ≡ take count values ++ (x ∷ []) = rw (add-one count) (take-suc-set values count x (omega (arith, G.room))) in
      record {
        joined = G.joined ∙ ap (onto (take count values)) (rest_some x y) ∙ by_rest (objects_from n (words_after s f e)) ∙ ap (λ (ys : List ℕ). onto ys (objects_from n (words_after s f e))) (sym t);
        few = omega arith;
        room = length-set values count x ∙ G.room;
      }
    where
      by_rest : (r : Option (List ℕ)) → onto (take count values) (option r none (λ xs. some (x ∷ xs))) ≡ onto (take count values ++ (x ∷ [])) r
      by_rest none = refl
      by_rest (some xs) = ap some (sym (append_assoc (take count values) (x ∷ []) xs))

  pub gathered_wrong : (x : ℕ) → object_of n x ≡ object_from n (folded (slice (at + 1) f s)) → n ≤ x → objects_from n ws ≡ none
  unfolding onto option object_of
  gathered_wrong x o l = let y : object_from n (folded (slice (at + 1) f s)) ≡ none = sym o ∙ rw (le-ltb x n l) refl in G.joined ∙ ap (onto (take count values)) (rest_none y)

  pub gathered_many : 6 ≤ count → (xs : List ℕ) → objects_from n ws ≡ some xs → 6 < length xs
  unfolding onto option
  gathered_many g xs e' = by_first (object_from n (folded (slice (at + 1) f s))) (sym (G.joined ∙ ap (onto (take count values)) rest) ∙ e')
    where
      by_rest : (x : ℕ) (r : Option (List ℕ)) → option (option r none (λ ys. some (x ∷ ys))) none (λ ys. some (take count values ++ ys)) ≡ some xs → 6 < length xs
      by_rest x none z = let y : ◌≡◌ {A = ℕ} 0 1 = cc in absurd (omega arith)
      by_rest x (some ys) z = let y : take count values ++ (x ∷ ys) ≡ xs = cc in let m = ap length y in omega (arith, length-append (take count values) (x ∷ ys), length-take-le count values (omega (arith, G.room)))

      by_first : (o : Option ℕ) → option (option o none (λ x. option (objects_from n (words_after s f e)) none (λ ys. some (x ∷ ys)))) none (λ ys. some (take count values ++ ys)) ≡ some xs → 6 < length xs
      by_first none z = let y : ◌≡◌ {A = ℕ} 0 1 = cc in absurd (omega arith)
      by_first (some x) z = by_rest x (objects_from n (words_after s f e)) z

pub gathered_all : (n : ℕ) (ws : List (List ℕ)) (s : List ℕ) (e at count : ℕ) (values : List ℕ) → Gathered n ws s e at count values → e ≤ at → objects_from n ws ≡ some (take count values)
unfolding onto option objects_from
gathered_all n ws s e at count values G h = G.joined ∙ ap (λ (x : List (List ℕ)). onto (take count values) (objects_from n x)) (after_none s at e h) ∙ ap some (append-nil (take count values))

-- how many they are: seven stand for none, or for too many
unfoldable pub Objects : ℕ → List (List ℕ) → List ℕ → ℕ → Type 0
Objects n ws values r = (r ≤ 7) × (r ≤ 6 → objects_from n ws ≡ some (take r values)) × (6 < r → (xs : List ℕ) → objects_from n ws ≡ some xs → 6 < length xs)

-- ---- rows, value by value
pub row_none : (n : ℕ) (values : List ℕ) → 0 ≡ row_of n (take 0 values)
unfolding row_of
row_none n values = refl

take_more : (values : List ℕ) (i : ℕ) → i < length values → take (i + 1) values ≡ take i values ++ (get_or values i 0 ∷ [])
take_more [] i h = absurd (omega arith)
take_more (x ∷ values) zero h = refl
take_more (x ∷ values) (suc i) h = let z : suc i + 1 ≡ suc (i + 1) = omega arith in ap (λ (k : ℕ). take k (x ∷ values)) z ∙ ap (λ (l : List ℕ). x ∷ l) (take_more values i (omega arith))

pub row_next : (n : ℕ) (values : List ℕ) (i row : ℕ) → i < length values → row ≡ row_of n (take i values) → row * n + get_or values i 0 ≡ row_of n (take (i + 1) values)
row_next n values i row h e = ap (λ (x : ℕ). x * n + get_or values i 0) e ∙ sym (ap (row_of n) (take_more values i h) ∙ row_snoc n (take i values) (get_or values i 0))

pub below_take : (n : ℕ) (values : List ℕ) (i : ℕ) → i ≤ length values → ((j : ℕ) → get_or values j 0 < n) → Below n (take i values)
unfolding all
below_take n values zero h w = tt
below_take n [] (suc i) h w = absurd (omega arith)
below_take n (x ∷ values) (suc i) h w = cons_below n x (take i values) (w 0) (below_take n values i (omega arith) (λ j. w (suc j)))

pub row_few : (n : ℕ) (values : List ℕ) (i : ℕ) → n ≤ 64 → i ≤ 6 → i ≤ length values → ((j : ℕ) → get_or values j 0 < n) → row_of n (take i values) < 2 ^ 36
row_few n values i few six h w =
    let a = row_lt n (take i values) (below_take n values i h w) in
    let l = length-take-le i values h in
    let b : n ^ length (take i values) ≤ 64 ^ length (take i values) = pow-le-pow_left few (length (take i values)) in
    let o : 1 ≤ 64 = omega arith in
    let g : length (take i values) ≤ 6 = omega arith in
    let d : 64 ^ length (take i values) ≤ 64 ^ 6 = pow-le-pow_right o g in
    omega arith

-- the three ends of gathering
module _ (n : ℕ) (ws : List (List ℕ)) (s : List ℕ) (e at f count : ℕ) (values : List ℕ) (G : Gathered n ws s e at count values) (h : at < e) (k : e ≤ length s) (q : f ≡ (at + 1) + index_of 32 (slice (at + 1) e s)) where
  pub objects_wrong : (x : ℕ) → object_of n x ≡ object_from n (folded (slice (at + 1) f s)) → n ≤ x → Objects n ws values 7
  unfolding Objects
  objects_wrong x o l = (omega arith, λ z. absurd (omega arith), λ z xs y. let b : none ≡ some xs = sym (gathered_wrong n ws s e at f count values G h k q x o l) ∙ y in let c : ◌≡◌ {A = ℕ} 0 1 = cc in absurd (omega arith))

  pub objects_many : 6 ≤ count → Objects n ws values 7
  unfolding Objects
  objects_many g = (omega arith, λ z. absurd (omega arith), λ z xs y. gathered_many n ws s e at f count values G h k q g xs y)

pub objects_all : (n : ℕ) (ws : List (List ℕ)) (s : List ℕ) (e at count : ℕ) (values : List ℕ) → Gathered n ws s e at count values → e ≤ at → Objects n ws values count
unfolding Objects
objects_all n ws s e at count values G h = (omega (arith, G.few), λ z. gathered_all n ws s e at count values G h, λ z. absurd (omega (arith, G.few)))

pub small_product : (x n : ℕ) → x < 2 ^ 36 → n ≤ 64 → x * n < 2 ^ 44
small_product x n h l = let g : x ≤ 2 ^ 36 = omega arith in let a : x * n ≤ (2 ^ 36) * 64 = mul-le-mul g l in omega arith
