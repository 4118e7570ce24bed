-- Reading and writing belong together: what is read was written, and what is written is read. Assumes nothing.
use Prim.Native.Nat.{ℕ, zero, suc, ◌+◌, ◌≤◌, ◌<◌, suc-le-suc, zero-le}
use Rattle.std.proofs.Common.{le_of_suc-le-suc, not-suc-le-zero, subst, ◌∙◌, inl, inr, drop_of_length-le, take-append-drop, drop-cons, take_at, drop_at, lit<, eq-eqb, ne_eqb, eqb-true, le-leb, leb-true}
use native.Mathlib.Omega.{arith}
use Rattle.std.proofs.Math.Path.{◌≡◌, refl, sym, ap}
use Rattle.std.proofs.Math.Option.{Option, none, some}
use Rattle.std.specs.Prelude.{Bool, ◌&&◌, ◌⊎◌, ◌↔◌, take, drop, get_or, eqb, leb}
use Rattle.std.proofs.Math.Bool.{true, false, or-true, or-false}
use mathlib.Core.List.{List, [], ◌∷◌, ◌++◌, append_assoc}
use Rattle.std.proofs.Math.ListN.{length, length-append}
use Rattle.std.proofs.lemmas.Bool.{lt-leb}
use Rattle.definitions.specs.Lists.{all, option}
use Rattle.definitions.specs.Sheet.Text.{is_between, is_capital, is_digit, is_small, is_relation_name, is_variable}
use Rattle.definitions.specs.Sheet.Formula.{Quantified, Join, ands, ors, Quant, somes, everys, Formula, literal, negation, implication, join, quant}
use Rattle.definitions.specs.Sheet.Formula.{Formulas, nil, cons, join_word, quant_word, not_word, imp_word, write_each, write_vars, write_typed, write_more}
use Rattle.definitions.specs.Sheet.Formula.{write, write_parts, is_quantified, Words, no_words, a_word, Variables, AllQuantified, WellFormed, g_lit}
use Rattle.definitions.specs.Sheet.Formula.{g_neg, g_imp, g_and, g_or, g_exists, g_forall, AllWellFormed, no_goods, a_good}
use Rattle.definitions.specs.Sheet.Parsing.{first, inside, longest, span, Res, bad, ok, and_then, begins, want, read_word, read_var, read_each, read_vars}
use Rattle.definitions.specs.Sheet.Parsing.{read_type, read_typed, read_more, read_parts, Head, is_not, is_implies, is_and, is_or, is_exists, is_forall}
use Rattle.definitions.specs.Sheet.Parsing.{is_other, kind_of, close, read_join, read_quant, read_lit, read_neg, read_imp, read_body, read, finish}
use Rattle.definitions.specs.Sheet.Parsing.{read_formula}

-- ---- `begins`
pub begins_step : (p s : List ℕ) (i j : ℕ) → i < length p → j < length s → get_or p i 0 ≡ get_or s j 0 → begins (drop i p) (drop j s) ≡ begins (drop (suc i) p) (drop (suc j) s)
unfolding begins
begins_step p s i j hi hj e = rw (drop-cons p i 0, drop-cons s j 0, eq-eqb (get_or p i 0) (get_or s j 0) e)

pub begins_other : (p s : List ℕ) (i j : ℕ) → i < length p → j < length s → (get_or p i 0 ≡ get_or s j 0 → ⊥) → begins (drop i p) (drop j s) ≡ false
unfolding begins
begins_other p s i j hi hj e = rw (drop-cons p i 0, drop-cons s j 0, ne_eqb (get_or p i 0) (get_or s j 0) e)

pub begins_short : (p s : List ℕ) (i j : ℕ) → i < length p → length s ≤ j → begins (drop i p) (drop j s) ≡ false
unfolding begins
begins_short p s i j hi hj = rw (drop-cons p i 0, drop_of_length-le s {i = j} hj)

pub begins_end : (p l : List ℕ) (i : ℕ) → length p ≤ i → begins (drop i p) l ≡ true
unfolding begins
begins_end p l i h = rw (drop_of_length-le p {i = i} h)

pub and_l : (a b : Bool) → (a && b) ≡ true → a ≡ true
and_l true b e = refl
and_l false b e = e

pub and_r : (a b : Bool) → (a && b) ≡ true → b ≡ true
and_r true b e = e
and_r false b e = absurd (absurd_bool e)
  where
    absurd_bool : false ≡ true → ⊥
    absurd_bool e = let z : ◌≡◌ {A = ℕ} 0 1 = cc in omega arith

pub both : (a b : Bool) → a ≡ true → b ≡ true → (a && b) ≡ true
both a b e h = rw (e, h)

both3 : (a b c : Bool) → a ≡ true → b ≡ true → c ≡ true → (a && b && c) ≡ true
both3 a b c e h i = rw (e, h, i)

three : (a b c : Bool) → (a && b && c) ≡ true → (a ≡ true) × (b ≡ true) × (c ≡ true)
three true true true e = (refl, refl, refl)
three true true false e = (refl, refl, e)
three true false c e = (refl, and_l false c e, and_r false c e)
three false b c e = let z : ◌≡◌ {A = ℕ} 0 1 = cc in absurd (omega arith)

four : (a b c d : Bool) → (a && b && c && d) ≡ true → (a ≡ true) × (b ≡ true) × (c ≡ true) × (d ≡ true)
four true b c d e = (refl, (three b c d e).0, (three b c d e).1, (three b c d e).2)
four false b c d e = let z : ◌≡◌ {A = ℕ} 0 1 = cc in absurd (omega arith)

pub begins_is : (p l : List ℕ) → begins p l ≡ true → l ≡ p ++ drop (length p) l
unfolding begins
begins_is [] l e = refl
begins_is (a ∷ p) [] e = cc
begins_is (a ∷ p) (b ∷ l) e = ap₂' (eqb-true a b (and_l (eqb a b) (begins p l) e)) (begins_is p l (and_r (eqb a b) (begins p l) e))
  where
    ap₂' : a ≡ b → l ≡ p ++ drop (length p) l → (b ∷ l) ≡ a ∷ (p ++ drop (length p) l)
    ap₂' q h = cc

-- ---- what an `and_then` and a `want` that succeed tell
pub record Both {A B : Type 0} (x : Res A) (k : A → List ℕ → Res B) (b : B) (r : List ℕ) : Type 0 where
  pub got : A
  pub rest : List ℕ
  pub one : x ≡ ok got rest
  pub two : k got rest ≡ ok b r

pub then_ok : {A B : Type 0} (x : Res A) (k : A → List ℕ → Res B) (b : B) (r : List ℕ) → and_then x k ≡ ok b r → Both x k b r
then_ok bad k b r e = let z : ◌≡◌ {A = ℕ} 0 1 = cc in absurd (omega arith)
then_ok (ok a l) k b r e = record { got = a; rest = l; one = refl; two = e }

pub record Wanted {A : Type 0} (p : List ℕ) (a : A) (l : List ℕ) (b : A) (r : List ℕ) : Type 0 where
  pub same : a ≡ b
  pub went : l ≡ p ++ r

pub want_ok : {A : Type 0} (p : List ℕ) (a : A) (l : List ℕ) (b : A) (r : List ℕ) → want p a l ≡ ok b r → Wanted p a l b r
unfolding want
want_ok p a l b r e = by_test (begins p l) refl e
  where
    by_test : (t : Bool) → begins p l ≡ t → elim t [ true ↦ ok a (drop (length p) l) | false ↦ bad ] ≡ ok b r → Wanted p a l b r
    by_test true q h = record { same = cc; went = begins_is p l q ∙ ap (λ (m : List ℕ). p ++ m) (cc) }
    by_test false q h = let z : ◌≡◌ {A = ℕ} 0 1 = cc in absurd (omega arith)

-- ---- which form it is, from the tests in turn
pub kind_0 : (l : List ℕ) → begins not_word l ≡ true → kind_of l ≡ is_not
unfolding kind_of begins
kind_0 l h0 = rw h0

pub kind_1 : (l : List ℕ) → begins not_word l ≡ false → begins imp_word l ≡ true → kind_of l ≡ is_implies
unfolding kind_of begins
kind_1 l h0 h1 = rw (h0, h1)

pub kind_2 : (l : List ℕ) → begins not_word l ≡ false → begins imp_word l ≡ false → begins (join_word ands) l ≡ true → kind_of l ≡ is_and
unfolding kind_of begins
kind_2 l h0 h1 h2 = rw (h0, h1, h2)

pub kind_3 : (l : List ℕ) → begins not_word l ≡ false → begins imp_word l ≡ false → begins (join_word ands) l ≡ false → begins (join_word ors) l ≡ true → kind_of l ≡ is_or
unfolding kind_of begins
kind_3 l h0 h1 h2 h3 = rw (h0, h1, h2, h3)

pub kind_4 : (l : List ℕ) → begins not_word l ≡ false → begins imp_word l ≡ false → begins (join_word ands) l ≡ false → begins (join_word ors) l ≡ false → begins (quant_word somes) l ≡ true → kind_of l ≡ is_exists
unfolding kind_of begins
kind_4 l h0 h1 h2 h3 h4 = rw (h0, h1, h2, h3, h4)

pub kind_5 : (l : List ℕ) → begins not_word l ≡ false → begins imp_word l ≡ false → begins (join_word ands) l ≡ false → begins (join_word ors) l ≡ false → begins (quant_word somes) l ≡ false → begins (quant_word everys) l ≡ true → kind_of l ≡ is_forall
unfolding kind_of begins
kind_5 l h0 h1 h2 h3 h4 h5 = rw (h0, h1, h2, h3, h4, h5)

pub kind_6 : (l : List ℕ) → begins not_word l ≡ false → begins imp_word l ≡ false → begins (join_word ands) l ≡ false → begins (join_word ors) l ≡ false → begins (quant_word somes) l ≡ false → begins (quant_word everys) l ≡ false → kind_of l ≡ is_other
unfolding kind_of begins
kind_6 l h0 h1 h2 h3 h4 h5 = rw (h0, h1, h2, h3, h4, h5)

-- ---- what a test that was passed tells
pub if_ok : {A : Type 0} (t : Bool) (x : Res A) (b : A) (r : List ℕ) → elim t [ true ↦ x | false ↦ bad ] ≡ ok b r → (t ≡ true) × (x ≡ ok b r)
if_ok true x b r e = (refl, e)
if_ok false x b r e = let z : ◌≡◌ {A = ℕ} 0 1 = cc in absurd (omega arith)

pub if_either : {A : Type 0} (t : Bool) (x y z : Res A) → elim t [ true ↦ x | false ↦ y ] ≡ z → ((t ≡ true) × (x ≡ z)) ⊎ ((t ≡ false) × (y ≡ z))
if_either true x y z e = inl (refl, e)
if_either false x y z e = inr (refl, e)

-- ---- words
module _ (b : Bool) where
  pub span_in : (c : ℕ) (l : List ℕ) → inside b c ≡ true → span b (c ∷ l) ≡ suc (span b l)
  unfolding span
  span_in c l e = rw (e, span)

  pub span_out : (c : ℕ) (l : List ℕ) → inside b c ≡ false → span b (c ∷ l) ≡ 0
  unfolding span
  span_out c l e = rw (e, span)

  -- the letters that a word took are all of the kind
  span_taken : (l : List ℕ) → span b (take (span b l) l) ≡ length (take (span b l) l)
  unfolding span
  span_taken [] = refl
  span_taken (c ∷ l) = by_test (inside b c) refl (span_taken l)
    where
      by_test : (t : Bool) → inside b c ≡ t → span b (take (span b l) l) ≡ length (take (span b l) l) → span b (take (span b (c ∷ l)) (c ∷ l)) ≡ length (take (span b (c ∷ l)) (c ∷ l))
      by_test true e h = rw (span_in c l e, span_in c (take (span b l) l) e, h)
      by_test false e h = rw (span_out c l e)

  span_first : (c : ℕ) (l : List ℕ) → span b (c ∷ l) ≡ suc (length l) → (inside b c ≡ true) × (span b l ≡ length l)
  unfolding span
  span_first c l e = by_test (inside b c) refl e
    where
      by_test : (t : Bool) → inside b c ≡ t → elim t [ true ↦ suc (span b l) | false ↦ 0 ] ≡ suc (length l) → (inside b c ≡ true) × (span b l ≡ length l)
      by_test true q h = (q, omega arith)
      by_test false q h = absurd (omega arith)

  -- a word's letters end where other bytes begin
  pub span_append : (t r : List ℕ) → span b t ≡ length t → span b r ≡ 0 → span b (t ++ r) ≡ length t
  unfolding span
  span_append [] r e h = h
  span_append (c ∷ t) r e h = span_in c (t ++ r) (span_first c t e).0 ∙ ap suc (span_append t r (span_first c t e).1 h)

-- a word: its first byte is of its kind, all others too, and it is not too long
pub record IsWord (b : Bool) (w : List ℕ) : Type 0 where
  pub head : ℕ
  pub tail : List ℕ
  pub is : w ≡ head ∷ tail
  pub starts : first b head ≡ true
  pub goes : span b tail ≡ length tail
  pub short : length w ≤ longest b

all_span : (b : Bool) (l : List ℕ) → span b l ≡ length l → all (λ c. inside b c) l ≡ true
unfolding all
all_span b [] e = refl
all_span b (c ∷ l) e = both (inside b c) (all (λ d. inside b d) l) (span_first b c l e).0 (all_span b l (span_first b c l e).1)

span_all : (b : Bool) (l : List ℕ) → all (λ c. inside b c) l ≡ true → span b l ≡ length l
unfolding all span
span_all b [] e = refl
span_all b (c ∷ l) e = span_in b c l (and_l (inside b c) (all (λ d. inside b d) l) e) ∙ ap suc (span_all b l (and_r (inside b c) (all (λ d. inside b d) l) e))

pub no_true : {A : Type 0} → false ≡ true → A
no_true e = let z : ◌≡◌ {A = ℕ} 0 1 = cc in absurd (omega arith)

-- the document's names and variables are such words
pub name_yes : (w : List ℕ) → IsWord false w → is_relation_name w ≡ true
unfolding is_relation_name is_capital is_between is_digit
name_yes w h = subst (λ (x : List ℕ). is_relation_name x ≡ true) (sym h.is) (both3 (first false h.head) (all (λ c. inside false c) h.tail) (leb (suc (length h.tail)) 12) h.starts (all_span false h.tail h.goes) (le-leb (suc (length h.tail)) 12 (rw h.is at h.short)))

pub name_is : (w : List ℕ) → is_relation_name w ≡ true → IsWord false w
unfolding is_relation_name is_capital is_between is_digit
name_is [] e = no_true e
name_is (c ∷ l) e = from_this (three (first false c) (all (λ d. inside false d) l) (leb (suc (length l)) 12) e)
  where
    from_this : (first false c ≡ true) × (all (λ d. inside false d) l ≡ true) × (leb (suc (length l)) 12 ≡ true) → IsWord false (c ∷ l)
    from_this (a, b, d) = record { head = c; tail = l; is = refl; starts = a; goes = span_all false l b; short = leb-true (suc (length l)) 12 d }

pub record IsVar (v : List ℕ) : Type 0 where
  pub letters : List ℕ
  pub is : v ≡ 63 ∷ letters
  pub word : IsWord true letters

pub var_yes : (w : List ℕ) → IsWord true w → is_variable (63 ∷ w) ≡ true
unfolding is_variable is_small is_between is_digit
var_yes w h =
    subst (λ (x : List ℕ). is_variable (63 ∷ x) ≡ true) (sym h.is)
    (both3 (first true h.head) (all (λ c. inside true c) h.tail) (leb (suc (suc (length h.tail))) 8) h.starts
    (all_span true h.tail h.goes) (le-leb (suc (suc (length h.tail))) 8 (suc-le-suc (rw h.is at h.short))))

pub var_is : (v : List ℕ) → is_variable v ≡ true → IsVar v
unfolding is_variable is_small is_between is_digit
var_is [] e = no_true e
var_is (q ∷ []) e = no_true e
var_is (q ∷ c ∷ l) e = from_this (four (eqb q 63) (first true c) (all (λ d. inside true d) l) (leb (suc (suc (length l))) 8) e)
  where
    from_this : (eqb q 63 ≡ true) × (first true c ≡ true) × (all (λ d. inside true d) l ≡ true) × (leb (suc (suc (length l))) 8 ≡ true) → IsVar (q ∷ c ∷ l)
    from_this (o, a, b, d) = record { letters = c ∷ l; is = ap (λ (x : ℕ). x ∷ c ∷ l) (eqb-true q 63 o); word = record { head = c; tail = l; is = refl; starts = a; goes = span_all true l b; short = le_of_suc-le-suc (leb-true (suc (suc (length l))) 8 d) } }

pub record WordRead (b : Bool) (l w r : List ℕ) : Type 0 where
  pub written : l ≡ w ++ r
  pub word : IsWord b w

pub span_le : (b : Bool) (l : List ℕ) → span b l ≤ length l
unfolding span
span_le b [] = zero-le
span_le b (c ∷ l) = by_test (inside b c) (span_le b l)
  where
    by_test : (t : Bool) → span b l ≤ length l → elim t [ true ↦ suc (span b l) | false ↦ 0 ] ≤ suc (length l)
    by_test true h = suc-le-suc h
    by_test false h = zero-le

pub length_take_span : (b : Bool) (l : List ℕ) → length (take (span b l) l) ≡ span b l
unfolding span
length_take_span b [] = refl
length_take_span b (c ∷ l) = by_test (inside b c) refl (length_take_span b l)
  where
    by_test : (t : Bool) → inside b c ≡ t → length (take (span b l) l) ≡ span b l → length (take (span b (c ∷ l)) (c ∷ l)) ≡ span b (c ∷ l)
    by_test true e h = rw (span_in b c l e, h)
    by_test false e h = rw (span_out b c l e)

pub sound_word : (b : Bool) (l w r : List ℕ) → read_word b l ≡ ok w r → WordRead b l w r
unfolding read_word
sound_word b [] w r e = let z : ◌≡◌ {A = ℕ} 0 1 = cc in absurd (omega arith)
sound_word b (c ∷ l) w r e = from_this (if_ok (first b c && leb (suc (span b l)) (longest b)) (ok (c ∷ take (span b l) l) (drop (span b l) l)) w r e)
  where
    from_this : ((first b c && leb (suc (span b l)) (longest b)) ≡ true) × (ok (c ∷ take (span b l) l) (drop (span b l) l) ≡ ok w r) → WordRead b (c ∷ l) w r
    from_this (q, h) =
        let hw : c ∷ take (span b l) l ≡ w = cc in
        let hr : drop (span b l) l ≡ r = cc in
        let n : suc (span b l) ≤ longest b = leb-true (suc (span b l)) (longest b) (and_r (first b c) (leb (suc (span b l)) (longest b)) q) in
        record {
          written = rw (← hw, ← hr) (ap (λ (m : List ℕ). c ∷ m) (sym (take-append-drop (span b l) l)));
          word = rw (← hw) (record { head = c; tail = take (span b l) l; is = refl; starts = and_l (first b c) (leb (suc (span b l)) (longest b)) q; goes = span_taken b l; short = rw (length_take_span b l) n });
        }

pub word_yes : (b : Bool) (c : ℕ) (l : List ℕ) → (first b c && leb (suc (span b l)) (longest b)) ≡ true → read_word b (c ∷ l) ≡ ok (c ∷ take (span b l) l) (drop (span b l) l)
unfolding read_word
word_yes b c l e = rw (e, read_word)

pub word_no : (b : Bool) (c : ℕ) (l : List ℕ) → (first b c && leb (suc (span b l)) (longest b)) ≡ false → read_word b (c ∷ l) ≡ bad
unfolding read_word
word_no b c l e = rw (e, read_word)

pub word_nil : (b : Bool) → read_word b [] ≡ bad
unfolding read_word
word_nil b = refl

pub complete_word : (b : Bool) (w r : List ℕ) → IsWord b w → span b r ≡ 0 → read_word b (w ++ r) ≡ ok w r
complete_word b w r h e =
    let s : span b (h.tail ++ r) ≡ length h.tail = span_append b h.tail r h.goes e in
    let n : suc (length h.tail) ≤ longest b = rw h.is at h.short in
    rw h.is (word_yes b h.head (h.tail ++ r) (rw (s, h.starts, le-leb (suc (length h.tail)) (longest b) n))
    ∙ rw (s, take_at h.tail r (length h.tail) refl, drop_at h.tail r (length h.tail) refl))

-- ---- variables
pub record VarRead (l v r : List ℕ) : Type 0 where
  pub written : l ≡ v ++ r
  pub word : is_variable v ≡ true

fin_var : (l w m v r : List ℕ) → 63 ∷ w ≡ v → m ≡ r → begins (63 ∷ []) l ≡ true → WordRead true (drop 1 l) w m → VarRead l v r
fin_var l w m v r hv hr q h = rw (← hv, ← hr) (record { written = begins_is (63 ∷ []) l q ∙ ap (λ (m : List ℕ). 63 ∷ m) h.written; word = var_yes w h.word })

pub sound_var : (l v r : List ℕ) → read_var l ≡ ok v r → VarRead l v r
unfolding read_var
sound_var l v r e = from_this (if_ok (begins (63 ∷ []) l) (and_then (read_word true (drop 1 l)) (λ v r. ok (63 ∷ v) r)) v r e)
  where
    from_this : (begins (63 ∷ []) l ≡ true) × (and_then (read_word true (drop 1 l)) (λ v r. ok (63 ∷ v) r) ≡ ok v r) → VarRead l v r
    from_this (q, h) =
        let one = then_ok (read_word true (drop 1 l)) (λ v r. ok (63 ∷ v) r) v r h in
        let hv : 63 ∷ one.got ≡ v = cc in
        let hr : one.rest ≡ r = cc in
        fin_var l one.got one.rest v r hv hr q (sound_word true (drop 1 l) one.got one.rest one.one)

complete_letters : (v r : List ℕ) → IsWord true v → span true r ≡ 0 → read_var (63 ∷ (v ++ r)) ≡ ok (63 ∷ v) r
unfolding read_var begins
complete_letters v r h e = rw (complete_word true v r h e)

pub complete_var : (v r : List ℕ) → is_variable v ≡ true → span true r ≡ 0 → read_var (v ++ r) ≡ ok v r
complete_var v r h e = subst (λ (x : List ℕ). read_var (x ++ r) ≡ ok x r) (sym (var_is v h).is) (complete_letters (var_is v h).letters r (var_is v h).word e)

-- ---- several things, each after a space: what is read was written, and what is written is read
pub record EachRead {A : Type 0} (word : A → List ℕ) (is_word : A → Bool) (n : ℕ) (l : List ℕ) (vs : List A) (r : List ℕ) : Type 0 where
  pub written : l ≡ write_each word vs ++ r
  pub words : Words is_word vs
  pub few : length vs ≤ n

module _ {A : Type 0} (one : List ℕ → Res A) (word : A → List ℕ) (is_word : A → Bool) where
  pub sound_each : ((l : List ℕ) (v : A) (r : List ℕ) → one l ≡ ok v r → (l ≡ word v ++ r) × (is_word v ≡ true))
      → (n : ℕ) (l : List ℕ) (vs : List A) (r : List ℕ) → read_each one n l ≡ ok vs r → EachRead word is_word n l vs r
  unfolding read_each write_each
  sound_each snd zero l vs r e = by_cases (if_either (begins (32 ∷ []) l) bad (ok [] l) (ok vs r) e)
    where
      by_cases : ((begins (32 ∷ []) l ≡ true) × (bad ≡ ok vs r)) ⊎ ((begins (32 ∷ []) l ≡ false) × (ok [] l ≡ ok vs r)) → EachRead word is_word zero l vs r
      by_cases (inl (q, h)) = let z : ◌≡◌ {A = ℕ} 0 1 = cc in absurd (omega arith)
      by_cases (inr (q, h)) =
          let hv : [] ≡ vs = cc in
          let hr : l ≡ r = cc in
          rw (← hv) (record { written = hr; words = no_words; few = zero-le })
  sound_each snd (suc n) l vs r e = from_this (λ m us p. sound_each snd n m us r p) (if_either (begins (32 ∷ []) l) (and_then (one (drop 1 l)) (λ v m. and_then (read_each one n m) (λ us r. ok (v ∷ us) r))) (ok [] l) (ok vs r) e)
    where
      from_this : ((m : List ℕ) (us : List A) → read_each one n m ≡ ok us r → EachRead word is_word n m us r)
          → ((begins (32 ∷ []) l ≡ true) × (and_then (one (drop 1 l)) (λ v m. and_then (read_each one n m) (λ us r. ok (v ∷ us) r)) ≡ ok vs r)) ⊎
          ((begins (32 ∷ []) l ≡ false) × (ok [] l ≡ ok vs r)) → EachRead word is_word (suc n) l vs r
      from_this ih (inl (q, h)) =
          let a = then_ok (one (drop 1 l)) (λ v m. and_then (read_each one n m) (λ us r. ok (v ∷ us) r)) vs r h in
          let b = then_ok (read_each one n a.rest) (λ us r. ok (a.got ∷ us) r) vs r a.two in
          let hr : b.rest ≡ r = cc in
          let hv : a.got ∷ b.got ≡ vs = cc in
          let v = snd (drop 1 l) a.got a.rest a.one in
          let us = ih a.rest b.got (b.one ∙ ap (λ (x : List ℕ). ok b.got x) hr) in
          rw (← hv) (record {
            written = begins_is (32 ∷ []) l q ∙ ap (λ (m : List ℕ). 32 ∷ m) (v.0 ∙ ap (λ (m : List ℕ). word a.got ++ m) us.written ∙ sym (append_assoc (word a.got) (write_each word b.got) r));
            words = a_word v.1 us.words;
            few = suc-le-suc us.few;
          })
      from_this ih (inr (q, h)) =
          let hv : [] ≡ vs = cc in
          let hr : l ≡ r = cc in
          rw (← hv) (record { written = hr; words = no_words; few = zero-le })

  pub each_none : (n : ℕ) (r : List ℕ) → begins (32 ∷ []) r ≡ false → read_each one n r ≡ ok [] r
  unfolding read_each
  each_none zero r e = rw (e, read_each)
  each_none (suc n) r e = rw (e, read_each)

  -- Stops says of the bytes after a thing that they are no part of it; a space never is
  pub each_stop : (Stops : List ℕ → Type 0) → ((l : List ℕ) → Stops (32 ∷ l)) → (vs : List A) (r : List ℕ) → Stops r → Stops (write_each word vs ++ r)
  unfolding write_each
  each_stop Stops space [] r h = h
  each_stop Stops space (v ∷ vs) r h = space ((word v ++ write_each word vs) ++ r)

  pub complete_each : (Stops : List ℕ → Type 0) → ((l : List ℕ) → Stops (32 ∷ l)) → ((v : A) (r : List ℕ) → is_word v ≡ true → Stops r → one (word v ++ r) ≡ ok v r)
      → {vs : List A} → Words is_word vs → (n : ℕ) (r : List ℕ) → length vs ≤ n → begins (32 ∷ []) r ≡ false → Stops r → read_each one n (write_each word vs ++ r) ≡ ok vs r
  unfolding read_each write_each begins
  complete_each Stops space whole no_words n r le e s = each_none n r e
  complete_each Stops space whole (a_word {v = v} {vs = vs} w ws) zero r le e s = absurd (not-suc-le-zero le)
  complete_each Stops space whole (a_word {v = v} {vs = vs} w ws) (suc n) r le e s =
      rw (append_assoc (word v) (write_each word vs) r, whole v (write_each word vs ++ r) w (each_stop Stops space vs r s), complete_each Stops space whole ws n r (le_of_suc-le-suc le) e s)

  each_le : (vs : List A) (r : List ℕ) → length vs ≤ length (write_each word vs ++ r)
  unfolding write_each
  each_le [] r = zero-le
  each_le (v ∷ vs) r = suc-le-suc (from_this (each_le vs r) (ap length (append_assoc (word v) (write_each word vs) r) ∙ length-append (word v) (write_each word vs ++ r)))
    where
      from_this : length vs ≤ length (write_each word vs ++ r) → length ((word v ++ write_each word vs) ++ r) ≡ length (word v) + length (write_each word vs ++ r) → length vs ≤ length ((word v ++ write_each word vs) ++ r)
      from_this h e = omega arith

-- ... the variables of a literal
abbrev pub VarStops : List ℕ → Type 0
VarStops r = span true r ≡ 0

var_space : (l : List ℕ) → VarStops (32 ∷ l)
unfolding span is_small is_between is_digit
var_space l = refl

pub sound_vars : (n : ℕ) (l : List ℕ) (vs : List (List ℕ)) (r : List ℕ) → read_vars n l ≡ ok vs r → EachRead (λ v. v) is_variable n l vs r
sound_vars = sound_each read_var (λ v. v) is_variable (λ l v r e. ((sound_var l v r e).written, (sound_var l v r e).word))

pub vars_stop : (vs : List (List ℕ)) (r : List ℕ) → VarStops r → VarStops (write_vars vs ++ r)
vars_stop = each_stop read_var (λ v. v) is_variable VarStops var_space

pub vars_none : (n : ℕ) (r : List ℕ) → begins (32 ∷ []) r ≡ false → read_vars n r ≡ ok [] r
vars_none = each_none read_var (λ v. v) is_variable

pub complete_vars : {vs : List (List ℕ)} → Variables vs → (n : ℕ) (r : List ℕ) → length vs ≤ n → begins (32 ∷ []) r ≡ false → VarStops r → read_vars n (write_vars vs ++ r) ≡ ok vs r
complete_vars = complete_each read_var (λ v. v) is_variable VarStops var_space (λ v r w s. complete_var v r w s)

-- ... and those of a quantifier, each with its type
type_some : (v m t s : List ℕ) (q : Quantified) (r : List ℕ) → record { variable = v; type = some t } ≡ q → s ≡ r → begins (58 ∷ []) m ≡ true → is_variable v ≡ true → WordRead false (drop 1 m) t s
    → (v ++ m ≡ write_typed q ++ r) × (is_quantified q ≡ true)
unfolding write_typed is_quantified option
type_some v m t s q r hq hr b w h =
    rw (← hq, ← hr) (ap (λ (x : List ℕ). v ++ x) (begins_is (58 ∷ []) m b ∙ ap (λ (x : List ℕ). 58 ∷ x) h.written) ∙ sym (append_assoc v (58 ∷ t) s), both (is_variable v) (is_relation_name t) w (name_yes t h.word))

type_none : (v m : List ℕ) (q : Quantified) (r : List ℕ) → record { variable = v; type = none } ≡ q → m ≡ r → is_variable v ≡ true → (v ++ m ≡ write_typed q ++ r) × (is_quantified q ≡ true)
unfolding write_typed is_quantified option
type_none v m q r hq hr w = rw (← hq, ← hr) (sym (append_assoc v [] m), both (is_variable v) true w refl)

sound_type : (v m : List ℕ) (q : Quantified) (r : List ℕ) → is_variable v ≡ true → read_type v m ≡ ok q r → (v ++ m ≡ write_typed q ++ r) × (is_quantified q ≡ true)
unfolding read_type
sound_type v m q r w e = by_cases (if_either (begins (58 ∷ []) m) (and_then (read_word false (drop 1 m)) (λ t s. ok (record { variable = v; type = some t }) s)) (ok (record { variable = v; type = none }) m) (ok q r) e)
  where
    by_cases : ((begins (58 ∷ []) m ≡ true) × (and_then (read_word false (drop 1 m)) (λ t s. ok (record { variable = v; type = some t }) s) ≡ ok q r)) ⊎ ((begins (58 ∷ []) m ≡ false) × (ok (record { variable = v; type = none }) m ≡ ok q r)) → (v ++ m ≡ write_typed q ++ r) × (is_quantified q ≡ true)
    by_cases (inl (b, h)) =
        let one = then_ok (read_word false (drop 1 m)) (λ t s. ok (record { variable = v; type = some t }) s) q r h in
        let hq : record { variable = v; type = some one.got } ≡ q = cc in
        let hr : one.rest ≡ r = cc in
        type_some v m one.got one.rest q r hq hr b w (sound_word false (drop 1 m) one.got one.rest one.one)
    by_cases (inr (b, h)) =
        let hq : record { variable = v; type = none } ≡ q = cc in
        let hr : m ≡ r = cc in
        type_none v m q r hq hr w

pub sound_typed : (l : List ℕ) (q : Quantified) (r : List ℕ) → read_typed l ≡ ok q r → (l ≡ write_typed q ++ r) × (is_quantified q ≡ true)
unfolding read_typed
sound_typed l q r e =
    let one = then_ok (read_var l) (λ v m. read_type v m) q r e in
    let v = sound_var l one.got one.rest one.one in
    let t = sound_type one.got one.rest q r v.word one.two in
    (v.written ∙ t.0, t.1)

-- what follows is neither a letter of the variable or its type, nor a colon
pub record TypedStops (r : List ℕ) : Type 0 where
  pub variable : span true r ≡ 0
  pub type : span false r ≡ 0
  pub colon : begins (58 ∷ []) r ≡ false

pub stops_at : (c : ℕ) (l : List ℕ) → inside true c ≡ false → inside false c ≡ false → eqb 58 c ≡ false → TypedStops (c ∷ l)
unfolding begins
stops_at c l a b d = record { variable = span_out true c l a; type = span_out false c l b; colon = rw d }

typed_space : (l : List ℕ) → TypedStops (32 ∷ l)
unfolding is_small is_capital is_between is_digit
typed_space l = stops_at 32 l refl refl refl

pub typed_close : (l : List ℕ) → TypedStops (41 ∷ l)
unfolding is_small is_capital is_between is_digit
typed_close l = stops_at 41 l refl refl refl

read_none : (v r : List ℕ) → begins (58 ∷ []) r ≡ false → read_type v r ≡ ok (record { variable = v; type = none }) r
unfolding read_type
read_none v r e = rw (e, read_type)

read_some : (v t r l : List ℕ) → read_word false l ≡ ok t r → read_type v (58 ∷ l) ≡ ok (record { variable = v; type = some t }) r
unfolding read_type begins
read_some v t r l e = rw (e, read_type)

written_typed : (v : List ℕ) (o : Option (List ℕ)) (r : List ℕ) → (is_variable v && option o true is_relation_name) ≡ true → TypedStops r
    → read_typed ((v ++ option o [] (λ t. 58 ∷ t)) ++ r) ≡ ok (record { variable = v; type = o }) r
unfolding read_typed option span is_small is_between is_digit
written_typed v none r w s = rw (append_assoc v [] r, complete_var v r (and_l (is_variable v) true w) s.variable) (read_none v r s.colon)
written_typed v (some t) r w s = rw (append_assoc v (58 ∷ t) r, complete_var v (58 ∷ (t ++ r)) (and_l (is_variable v) (is_relation_name t) w) refl) (read_some v t r (t ++ r) (complete_word false t r (name_is t (and_r (is_variable v) (is_relation_name t) w)) s.type))

pub complete_typed : (q : Quantified) (r : List ℕ) → is_quantified q ≡ true → TypedStops r → read_typed (write_typed q ++ r) ≡ ok q r
unfolding write_typed is_quantified
complete_typed q r w s = written_typed q.variable q.type r w s

pub sound_more : (n : ℕ) (l : List ℕ) (qs : List Quantified) (r : List ℕ) → read_more n l ≡ ok qs r → EachRead write_typed is_quantified n l qs r
sound_more = sound_each read_typed write_typed is_quantified sound_typed

pub more_stop : (qs : List Quantified) (r : List ℕ) → TypedStops r → TypedStops (write_more qs ++ r)
more_stop = each_stop read_typed write_typed is_quantified TypedStops typed_space

pub complete_more : {qs : List Quantified} → AllQuantified qs → (n : ℕ) (r : List ℕ) → length qs ≤ n → begins (32 ∷ []) r ≡ false → TypedStops r → read_more n (write_more qs ++ r) ≡ ok qs r
complete_more = complete_each read_typed write_typed is_quantified TypedStops typed_space complete_typed

-- ---- formulas
pub record FRead (k : ℕ) (l : List ℕ) (f : Formula) (r : List ℕ) : Type 0 where
  pub written : l ≡ write f ++ r
  pub good : WellFormed k f

pub record PRead (k : ℕ) (l : List ℕ) (fs : Formulas) (r : List ℕ) : Type 0 where
  pub written : l ≡ write_parts fs ++ r
  pub goods : AllWellFormed k fs

abbrev pub SoundReader : ℕ → (List ℕ → Res Formula) → Type 0
SoundReader k g = (l : List ℕ) (f : Formula) (r : List ℕ) → g l ≡ ok f r → FRead k l f r

-- ---- the writing, bracketed to the right
lay3 : (p a z r : List ℕ) → ((p ++ a) ++ z) ++ r ≡ p ++ (a ++ (z ++ r))
lay3 p a z r = simp append_assoc

lay4 : (p a u z r : List ℕ) → (((p ++ a) ++ u) ++ z) ++ r ≡ p ++ (a ++ (u ++ (z ++ r)))
lay4 p a u z r = simp append_assoc

lay_join : (p a u z r : List ℕ) → ((p ++ (a ++ u)) ++ z) ++ r ≡ p ++ (a ++ (u ++ (z ++ r)))
lay_join p a u z r = simp append_assoc

lay_quant : (p a u y z r : List ℕ) → (((p ++ (a ++ u)) ++ y) ++ z) ++ r ≡ p ++ (a ++ (u ++ (y ++ (z ++ r))))
lay_quant p a u y z r = simp append_assoc

write_join : (j : Join) (a : Formula) (fs : Formulas) → write (join j (cons a fs)) ≡ (join_word j ++ (write a ++ write_parts fs)) ++ (41 ∷ [])
unfolding write
write_join ands a fs = refl
write_join ors a fs = refl

write_quant : (q : Quant) (v : Quantified) (vs : List Quantified) (a : Formula) → write (quant q (v ∷ vs) a) ≡ ((quant_word q ++ (write_typed v ++ write_more vs)) ++ (41 ∷ 32 ∷ write a)) ++ (41 ∷ [])
unfolding write
write_quant somes v vs a = refl
write_quant everys v vs a = refl

write_lit : (n v : List ℕ) (vs : List (List ℕ)) → write (literal n (v ∷ vs)) ≡ ((40 ∷ n) ++ ((32 ∷ v) ++ write_vars vs)) ++ (41 ∷ [])
unfolding write write_each
write_lit n v vs = refl

pub good_join : {k : ℕ} (j : Join) (a : Formula) (fs : Formulas) → WellFormed k a → AllWellFormed k fs → WellFormed (suc k) (join j (cons a fs))
good_join ands a fs h e = g_and h e
good_join ors a fs h e = g_or h e

pub good_quant : {k : ℕ} (q : Quant) (v : Quantified) (vs : List Quantified) (a : Formula) → is_quantified v ≡ true → AllQuantified vs → length vs ≤ 3 → WellFormed k a → WellFormed (suc k) (quant q (v ∷ vs) a)
good_quant somes v vs a w ws le h = g_exists (a_word w ws) (suc-le-suc le) h
good_quant everys v vs a w ws le h = g_forall (a_word w ws) (suc-le-suc le) h

fin_neg : (k : ℕ) (l : List ℕ) (a f : Formula) (r : List ℕ) → l ≡ write a ++ 41 ∷ r → negation a ≡ f → WellFormed k a → FRead (suc k) (not_word ++ l) f r
unfolding write
fin_neg k l a f r h q d = rw (← q, h) (record { written = simp append_assoc; good = g_neg d })

fin_imp : (k : ℕ) (l : List ℕ) (a a' b f : Formula) (r : List ℕ) → l ≡ write a ++ 32 ∷ (write b ++ 41 ∷ r) → a ≡ a' → implication a' b ≡ f → WellFormed k a → WellFormed k b → FRead (suc k) (imp_word ++ l) f r
unfolding write
fin_imp k l a a' b f r h s q d e = rw (← q, ← s, h) (record { written = simp append_assoc; good = g_imp d e })

fin_join : (k : ℕ) (j : Join) (l : List ℕ) (a : Formula) (fs : Formulas) (f : Formula) (r : List ℕ) → l ≡ write a ++ (write_parts fs ++ 41 ∷ r) → join j (cons a fs) ≡ f → WellFormed k a → AllWellFormed k fs → FRead (suc k) (join_word j ++ l) f r
unfolding write
fin_join k j l a fs f r h q d e = rw (← q, h) (record { written = sym (ap (λ (m : List ℕ). m ++ r) (write_join j a fs) ∙ lay_join (join_word j) (write a) (write_parts fs) (41 ∷ []) r); good = good_join j a fs d e })

fin_quant : (k : ℕ) (q : Quant) (l : List ℕ) (v : Quantified) (vs us : List Quantified) (a f : Formula) (r : List ℕ) → l ≡ write_typed v
    ++ (write_more vs ++ 41 ∷ 32 ∷ (write a ++ 41 ∷ r)) → vs ≡ us → quant q (v ∷ us) a ≡ f → is_quantified v ≡ true → AllQuantified vs → length vs ≤ 3
    → WellFormed k a → FRead (suc k) (quant_word q ++ l) f r
unfolding write
fin_quant k q l v vs us a f r h s e w ws le d = rw (← e, ← s, h) (record { written = sym (ap (λ (m : List ℕ). m ++ r) (write_quant q v vs a) ∙ lay_quant (quant_word q) (write_typed v) (write_more vs) (41 ∷ 32 ∷ write a) (41 ∷ []) r); good = good_quant q v vs a w ws le d })

fin_lit : (k : ℕ) (l n m v : List ℕ) (vs : List (List ℕ)) (f : Formula) (r : List ℕ) → l ≡ 40 ∷ (n ++ 32 ∷ (v ++ (write_vars vs ++ 41 ∷ r))) → n ≡ m → literal m (v ∷ vs) ≡ f → IsWord false n → is_variable v ≡ true → Variables vs → FRead (suc k) l f r
unfolding write
fin_lit k l n m v vs f r h s e wn w ws = rw (← e, ← s, h) (record { written = sym (ap (λ (x : List ℕ). x ++ r) (write_lit n v vs) ∙ lay_join (40 ∷ n) (32 ∷ v) (write_vars vs) (41 ∷ []) r); good = g_lit (name_yes n wn) (a_word w ws) })

module _ (k : ℕ) (g : List ℕ → Res Formula) (snd : SoundReader k g) where
  pub sound_parts : (n : ℕ) (l : List ℕ) (fs : Formulas) (r : List ℕ) → read_parts g n l ≡ ok fs r → PRead k l fs r
  unfolding read_parts write_parts
  sound_parts zero l fs r e = by_cases (if_either (begins (32 ∷ []) l) bad (ok nil l) (ok fs r) e)
    where
      by_cases : ((begins (32 ∷ []) l ≡ true) × (bad ≡ ok fs r)) ⊎ ((begins (32 ∷ []) l ≡ false) × (ok nil l ≡ ok fs r)) → PRead k l fs r
      by_cases (inl (q, h)) = let z : ◌≡◌ {A = ℕ} 0 1 = cc in absurd (omega arith)
      by_cases (inr (q, h)) =
          let hv : nil ≡ fs = cc in
          let hr : l ≡ r = cc in
          rw (← hv) (record { written = hr; goods = no_goods })
  sound_parts (suc n) l fs r e = from_this (λ m us p. sound_parts n m us r p) (if_either (begins (32 ∷ []) l) (and_then (g (drop 1 l)) (λ v m. and_then (read_parts g n m) (λ us r. ok (cons v us) r))) (ok nil l) (ok fs r) e)
    where
      from_this : ((m : List ℕ) (us : Formulas) → read_parts g n m ≡ ok us r → PRead k m us r) → ((begins (32 ∷ []) l ≡ true) × (and_then (g (drop 1 l)) (λ v m. and_then (read_parts g n m) (λ us r. ok (cons v us) r)) ≡ ok fs r)) ⊎ ((begins (32 ∷ []) l ≡ false) × (ok nil l ≡ ok fs r)) → PRead k l fs r
      from_this ih (inl (q, h)) =
          let one = then_ok (g (drop 1 l)) (λ v m. and_then (read_parts g n m) (λ us r. ok (cons v us) r)) fs r h in
          let two = then_ok (read_parts g n one.rest) (λ us r. ok (cons one.got us) r) fs r one.two in
          let hr : two.rest ≡ r = cc in
          let hv : cons one.got two.got ≡ fs = cc in
          let v = snd (drop 1 l) one.got one.rest one.one in
          let us = ih one.rest two.got (two.one ∙ ap (λ (x : List ℕ). ok two.got x) hr) in
          rw (← hv) (record {
            written = begins_is (32 ∷ []) l q ∙ ap (λ (m : List ℕ). 32 ∷ m) (v.written ∙ ap (λ (m : List ℕ). write one.got ++ m) us.written ∙ sym (append_assoc (write one.got) (write_parts two.got) r));
            goods = a_good v.good us.goods;
          })
      from_this ih (inr (q, h)) =
          let hv : nil ≡ fs = cc in
          let hr : l ≡ r = cc in
          rw (← hv) (record { written = hr; goods = no_goods })

  sound_neg : (l : List ℕ) (f : Formula) (r : List ℕ) → read_neg g l ≡ ok f r → FRead (suc k) (not_word ++ l) f r
  unfolding read_neg
  sound_neg l f r e =
      let one = then_ok (g l) (λ f r. want close (negation f) r) f r e in
      let two = want_ok close (negation one.got) one.rest f r one.two in
      let v = snd l one.got one.rest one.one in
      let h : l ≡ write one.got ++ 41 ∷ r = v.written ∙ ap (λ (m : List ℕ). write one.got ++ m) two.went in
      fin_neg k l one.got f r h two.same v.good

  sound_imp : (l : List ℕ) (f : Formula) (r : List ℕ) → read_imp g l ≡ ok f r → FRead (suc k) (imp_word ++ l) f r
  unfolding read_imp
  sound_imp l f r e =
      let one = then_ok (g l) (λ f l1. and_then (want (32 ∷ []) f l1) (λ e l2. and_then (g l2) (λ h r. want close (implication e h) r))) f r e in
      let two = then_ok (want (32 ∷ []) one.got one.rest) (λ e l2. and_then (g l2) (λ h r. want close (implication e h) r)) f r one.two in
      let spc = want_ok (32 ∷ []) one.got one.rest two.got two.rest two.one in
      let three = then_ok (g two.rest) (λ h r. want close (implication two.got h) r) f r two.two in
      let end = want_ok close (implication two.got three.got) three.rest f r three.two in
      let v = snd l one.got one.rest one.one in
      let u = snd two.rest three.got three.rest three.one in
      let h2 : two.rest ≡ write three.got ++ 41 ∷ r = u.written ∙ ap (λ (m : List ℕ). write three.got ++ m) end.went in
      let h1 : one.rest ≡ 32 ∷ (write three.got ++ 41 ∷ r) = spc.went ∙ ap (λ (m : List ℕ). 32 ∷ m) h2 in
      let h : l ≡ write one.got ++ 32 ∷ (write three.got ++ 41 ∷ r) = v.written ∙ ap (λ (m : List ℕ). write one.got ++ m) h1 in
      fin_imp k l one.got two.got three.got f r h spc.same end.same v.good u.good

  sound_join : (j : Join) (l : List ℕ) (f : Formula) (r : List ℕ) → read_join g j l ≡ ok f r → FRead (suc k) (join_word j ++ l) f r
  unfolding read_join
  sound_join j l f r e =
      let one = then_ok (g l) (λ f m. and_then (read_parts g (length m) m) (λ fs r. want close (join j (cons f fs)) r)) f r e in
      let two = then_ok (read_parts g (length one.rest) one.rest) (λ fs r. want close (join j (cons one.got fs)) r) f r one.two in
      let end = want_ok close (join j (cons one.got two.got)) two.rest f r two.two in
      let v = snd l one.got one.rest one.one in
      let u = sound_parts (length one.rest) one.rest two.got two.rest two.one in
      let h1 : one.rest ≡ write_parts two.got ++ 41 ∷ r = u.written ∙ ap (λ (m : List ℕ). write_parts two.got ++ m) end.went in
      let h : l ≡ write one.got ++ (write_parts two.got ++ 41 ∷ r) = v.written ∙ ap (λ (m : List ℕ). write one.got ++ m) h1 in
      fin_join k j l one.got two.got f r h end.same v.good u.goods

  sound_quant : (q : Quant) (l : List ℕ) (f : Formula) (r : List ℕ) → read_quant g q l ≡ ok f r → FRead (suc k) (quant_word q ++ l) f r
  unfolding read_quant
  sound_quant q l f r e =
      let one = then_ok (read_typed l) (λ v l1. and_then (read_more 3 l1) (λ vs l2. and_then (want (41 ∷ 32 ∷ []) vs l2) (λ us l3. and_then (g l3) (λ f r. want close (quant q (v ∷ us) f) r)))) f r e in
      let two = then_ok (read_more 3 one.rest) (λ vs l2. and_then (want (41 ∷ 32 ∷ []) vs l2) (λ us l3. and_then (g l3) (λ f r. want close (quant q (one.got ∷ us) f) r))) f r one.two in
      let mid = then_ok (want (41 ∷ 32 ∷ []) two.got two.rest) (λ us l3. and_then (g l3) (λ f r. want close (quant q (one.got ∷ us) f) r)) f r two.two in
      let spc = want_ok (41 ∷ 32 ∷ []) two.got two.rest mid.got mid.rest mid.one in
      let three = then_ok (g mid.rest) (λ f r. want close (quant q (one.got ∷ mid.got) f) r) f r mid.two in
      let end = want_ok close (quant q (one.got ∷ mid.got) three.got) three.rest f r three.two in
      let v = sound_typed l one.got one.rest one.one in
      let us = sound_more 3 one.rest two.got two.rest two.one in
      let u = snd mid.rest three.got three.rest three.one in
      let h3 : mid.rest ≡ write three.got ++ 41 ∷ r = u.written ∙ ap (λ (m : List ℕ). write three.got ++ m) end.went in
      let h2 : two.rest ≡ 41 ∷ 32 ∷ (write three.got ++ 41 ∷ r) = spc.went ∙ ap (λ (m : List ℕ). 41 ∷ 32 ∷ m) h3 in
      let h1 : one.rest ≡ write_more two.got ++ 41 ∷ 32 ∷ (write three.got ++ 41 ∷ r) = us.written ∙ ap (λ (m : List ℕ). write_more two.got ++ m) h2 in
      let h : l ≡ write_typed one.got ++ (write_more two.got ++ 41 ∷ 32 ∷ (write three.got ++ 41 ∷ r)) = v.0 ∙ ap (λ (m : List ℕ). write_typed one.got ++ m) h1 in
      fin_quant k q l one.got two.got mid.got three.got f r h spc.same end.same v.1 us.words us.few u.good

  sound_lit : (l : List ℕ) (f : Formula) (r : List ℕ) → read_lit l ≡ ok f r → FRead (suc k) l f r
  unfolding read_lit
  sound_lit l f r e =
      let zer = if_ok (begins (40 ∷ []) l) (and_then (read_word false (drop 1 l)) (λ n l1. and_then (want (32 ∷ []) n l1) (λ m l2. and_then (read_var l2) (λ v l3. and_then (read_vars (length l3) l3) (λ vs r. want close (literal m (v ∷ vs)) r))))) f r e in
      let one = then_ok (read_word false (drop 1 l)) (λ n l1. and_then (want (32 ∷ []) n l1) (λ m l2. and_then (read_var l2) (λ v l3. and_then (read_vars (length l3) l3) (λ vs r. want close (literal m (v ∷ vs)) r)))) f r zer.1 in
      let mid = then_ok (want (32 ∷ []) one.got one.rest) (λ m l2. and_then (read_var l2) (λ v l3. and_then (read_vars (length l3) l3) (λ vs r. want close (literal m (v ∷ vs)) r))) f r one.two in
      let spc = want_ok (32 ∷ []) one.got one.rest mid.got mid.rest mid.one in
      let two = then_ok (read_var mid.rest) (λ v l3. and_then (read_vars (length l3) l3) (λ vs r. want close (literal mid.got (v ∷ vs)) r)) f r mid.two in
      let three = then_ok (read_vars (length two.rest) two.rest) (λ vs r. want close (literal mid.got (two.got ∷ vs)) r) f r two.two in
      let end = want_ok close (literal mid.got (two.got ∷ three.got)) three.rest f r three.two in
      let n = sound_word false (drop 1 l) one.got one.rest one.one in
      let v = sound_var mid.rest two.got two.rest two.one in
      let us = sound_vars (length two.rest) two.rest three.got three.rest three.one in
      let h3 : two.rest ≡ write_vars three.got ++ 41 ∷ r = us.written ∙ ap (λ (m : List ℕ). write_vars three.got ++ m) end.went in
      let h2 : mid.rest ≡ two.got ++ (write_vars three.got ++ 41 ∷ r) = v.written ∙ ap (λ (m : List ℕ). two.got ++ m) h3 in
      let h1 : one.rest ≡ 32 ∷ (two.got ++ (write_vars three.got ++ 41 ∷ r)) = spc.went ∙ ap (λ (m : List ℕ). 32 ∷ m) h2 in
      let h : l ≡ 40 ∷ (one.got ++ 32 ∷ (two.got ++ (write_vars three.got ++ 41 ∷ r))) = begins_is (40 ∷ []) l zer.0 ∙ ap (λ (m : List ℕ). 40 ∷ m) (n.written ∙ ap (λ (m : List ℕ). one.got ++ m) h1) in
      fin_lit k l one.got mid.got two.got three.got f r h spc.same end.same n.word v.word us.words

-- what the form says of the first bytes
abbrev pub KindIs : Head → List ℕ → Type 0
KindIs is_not l = begins not_word l ≡ true
KindIs is_implies l = begins imp_word l ≡ true
KindIs is_and l = begins (join_word ands) l ≡ true
KindIs is_or l = begins (join_word ors) l ≡ true
KindIs is_exists l = begins (quant_word somes) l ≡ true
KindIs is_forall l = begins (quant_word everys) l ≡ true
KindIs is_other l = Unit

pick_is : (P : Head → Type 0) (t : Bool) (a b : Head) → (t ≡ true → P a) → P b → P (elim t [ true ↦ a | false ↦ b ])
pick_is P true a b f h = f refl
pick_is P false a b f h = h

pub kind_is : (l : List ℕ) → KindIs (kind_of l) l
unfolding kind_of
kind_is l =
    let P : Head → Type 0 = λ k. KindIs k l in
    pick_is P (begins not_word l) is_not _ (λ e. e)
    (pick_is P (begins imp_word l) is_implies _ (λ e. e)
    (pick_is P (begins (join_word ands) l) is_and _ (λ e. e)
    (pick_is P (begins (join_word ors) l) is_or _ (λ e. e)
    (pick_is P (begins (quant_word somes) l) is_exists _ (λ e. e)
    (pick_is P (begins (quant_word everys) l) is_forall _ (λ e. e) tt)))))

-- what is read was written, and is of its form
sound_body : (k : ℕ) (g : List ℕ → Res Formula) → SoundReader k g → (d : Head) (l : List ℕ) → KindIs d l → (f : Formula) (r : List ℕ) → read_body g d l ≡ ok f r → FRead (suc k) l f r
sound_body k g s is_not l h f r e = rw (begins_is not_word l h) (sound_neg k g s (drop 5 l) f r e)
sound_body k g s is_implies l h f r e = rw (begins_is imp_word l h) (sound_imp k g s (drop 9 l) f r e)
sound_body k g s is_and l h f r e = rw (begins_is (join_word ands) l h) (sound_join k g s ands (drop 5 l) f r e)
sound_body k g s is_or l h f r e = rw (begins_is (join_word ors) l h) (sound_join k g s ors (drop 4 l) f r e)
sound_body k g s is_exists l h f r e = rw (begins_is (quant_word somes) l h) (sound_quant k g s somes (drop 9 l) f r e)
sound_body k g s is_forall l h f r e = rw (begins_is (quant_word everys) l h) (sound_quant k g s everys (drop 9 l) f r e)
sound_body k g s is_other l h f r e = sound_lit k g s l f r e

pub sound : (k : ℕ) (l : List ℕ) (f : Formula) (r : List ℕ) → read k l ≡ ok f r → FRead k l f r
unfolding read
sound zero l f r e = let z : ◌≡◌ {A = ℕ} 0 1 = cc in absurd (omega arith)
sound (suc k) l f r e = sound_body k (λ m. read k m) (λ m h q p. sound k m h q p) (kind_of l) l (kind_is l) f r e

-- ---- what is written is read
pub parts_none : (g : List ℕ → Res Formula) (n : ℕ) (r : List ℕ) → begins (32 ∷ []) r ≡ false → read_parts g n r ≡ ok nil r
unfolding read_parts
parts_none g zero r e = rw (e, read_parts)
parts_none g (suc n) r e = rw (e, read_parts)

unfoldable pub count : Formulas → ℕ
count nil = 0
count (cons f fs) = suc (count fs)

count_le : (fs : Formulas) (r : List ℕ) → count fs ≤ length (write_parts fs ++ r)
unfolding count write_parts
count_le nil r = zero-le
count_le (cons f fs) r = suc-le-suc (from_this (count_le fs r) (ap length (append_assoc (write f) (write_parts fs) r) ∙ length-append (write f) (write_parts fs ++ r)))
  where
    from_this : count fs ≤ length (write_parts fs ++ r) → length ((write f ++ write_parts fs) ++ r) ≡ length (write f) + length (write_parts fs ++ r) → count fs ≤ length ((write f ++ write_parts fs) ++ r)
    from_this h e = omega arith

module _ (g : List ℕ → Res Formula) where
  done_neg : (a : Formula) (r : List ℕ) → g (write a ++ 41 ∷ r) ≡ ok a (41 ∷ r) → read_neg g (write a ++ 41 ∷ r) ≡ ok (negation a) r
  unfolding read_neg want begins
  done_neg a r h = rw h

  done_imp : (a b : Formula) (r : List ℕ) → g (write a ++ 32 ∷ (write b ++ 41 ∷ r)) ≡ ok a (32 ∷ (write b ++ 41 ∷ r)) → g (write b ++ 41 ∷ r) ≡ ok b (41 ∷ r) → read_imp g (write a ++ 32 ∷ (write b ++ 41 ∷ r)) ≡ ok (implication a b) r
  unfolding read_imp want begins
  done_imp a b r h e = rw (h, e)

  done_parts : (a : Formula) (fs : Formulas) (n : ℕ) (r : List ℕ) → g (write a ++ (write_parts fs ++ r)) ≡ ok a (write_parts fs ++ r) → read_parts g n (write_parts fs ++ r) ≡ ok fs r → read_parts g (suc n) (write_parts (cons a fs) ++ r) ≡ ok (cons a fs) r
  unfolding read_parts write_parts begins
  done_parts a fs n r h e = rw (append_assoc (write a) (write_parts fs) r, h, e)

  done_join : (j : Join) (a : Formula) (fs : Formulas) (r : List ℕ) → g (write a ++ (write_parts fs ++ 41 ∷ r)) ≡ ok a (write_parts fs ++ 41 ∷ r)
      → read_parts g (length (write_parts fs ++ 41 ∷ r)) (write_parts fs ++ 41 ∷ r) ≡ ok fs (41 ∷ r)
      → read_join g j (write a ++ (write_parts fs ++ 41 ∷ r)) ≡ ok (join j (cons a fs)) r
  unfolding read_join want begins
  done_join j a fs r h e = rw (h, e)

  done_quant : (q : Quant) (v : Quantified) (vs : List Quantified) (a : Formula) (r : List ℕ) → is_quantified v ≡ true → AllQuantified vs
      → length vs ≤ 3 → g (write a ++ 41 ∷ r) ≡ ok a (41 ∷ r) → read_quant g q (write_typed v ++ (write_more vs ++ 41 ∷ 32 ∷ (write a ++ 41 ∷ r)))
      ≡ ok (quant q (v ∷ vs) a) r
  unfolding read_quant want begins
  done_quant q v vs a r w ws le h =
      let end = typed_close (32 ∷ (write a ++ 41 ∷ r)) in
      rw (complete_typed v (write_more vs ++ 41 ∷ 32 ∷ (write a ++ 41 ∷ r)) w (more_stop vs (41 ∷ 32 ∷ (write a ++ 41 ∷ r)) end), complete_more ws 3 (41 ∷ 32 ∷ (write a ++ 41 ∷ r)) le refl end, h)

done_lit : (n v : List ℕ) (vs : List (List ℕ)) (r : List ℕ) → IsWord false n → is_variable v ≡ true → Variables vs → read_lit (40 ∷ (n ++ 32 ∷ (v ++ (write_vars vs ++ 41 ∷ r)))) ≡ ok (literal n (v ∷ vs)) r
unfolding read_lit want begins span is_capital is_small is_between is_digit
done_lit n v vs r wn w ws =
    rw (complete_word false n (32 ∷ (v ++ (write_vars vs ++ 41 ∷ r))) wn refl, complete_var v (write_vars vs ++ 41 ∷ r) w (vars_stop vs (41 ∷ r) refl), complete_vars ws (length (write_vars vs ++ 41 ∷ r)) (41 ∷ r) (each_le read_var (λ v. v) is_variable vs (41 ∷ r)) refl refl)

-- a capital is no keyword's second byte
not_cap : (c k : ℕ) → first false c ≡ true → 90 < k → eqb k c ≡ false
unfolding is_capital is_between
not_cap c k e h = ne_eqb k c (λ q. from_this q (leb-true c 90 (and_r (leb 65 c) (leb c 90) e)))
  where
    from_this : k ≡ c → c ≤ 90 → ⊥
    from_this q le = omega arith

pub kind_lit : (c : ℕ) (l : List ℕ) → first false c ≡ true → kind_of (40 ∷ c ∷ l) ≡ is_other
unfolding begins
kind_lit c l e = kind_6 (40 ∷ c ∷ l) (rw (not_cap c 110 e (lit< tt))) (rw (not_cap c 105 e (lit< tt))) (rw (not_cap c 97 e (lit< tt))) (rw (not_cap c 111 e (lit< tt))) (rw (not_cap c 101 e (lit< tt))) (rw (not_cap c 102 e (lit< tt)))

parts_more : (g : List ℕ → Res Formula) (a : Formula) (fs : Formulas) (n : ℕ) (r : List ℕ) → ((s : List ℕ) → g (write a ++ s) ≡ ok a s) → ((m : ℕ) → count fs ≤ m → read_parts g m (write_parts fs ++ r) ≡ ok fs r) → count (cons a fs) ≤ n → read_parts g n (write_parts (cons a fs) ++ r) ≡ ok (cons a fs) r
unfolding count
parts_more g a fs zero r h e le = absurd (not-suc-le-zero le)
parts_more g a fs (suc n) r h e le = done_parts g a fs n r (h (write_parts fs ++ r)) (e n (le_of_suc-le-suc le))

-- what `read` does with each form
read_join_lem : (k : ℕ) (j : Join) (l : List ℕ) → read (suc k) (join_word j ++ l) ≡ read_join (λ m. read k m) j l
unfolding read kind_of begins read_join
read_join_lem k ands l = refl
read_join_lem k ors l = refl

read_quant_lem : (k : ℕ) (q : Quant) (l : List ℕ) → read (suc k) (quant_word q ++ l) ≡ read_quant (λ m. read k m) q l
unfolding read kind_of begins read_quant
read_quant_lem k somes l = refl
read_quant_lem k everys l = refl

read_neg_lem : (k : ℕ) (l : List ℕ) → read (suc k) (not_word ++ l) ≡ read_neg (λ m. read k m) l
unfolding read kind_of begins read_neg
read_neg_lem k l = refl

read_imp_lem : (k : ℕ) (l : List ℕ) → read (suc k) (imp_word ++ l) ≡ read_imp (λ m. read k m) l
unfolding read kind_of begins read_imp
read_imp_lem k l = refl

read_lit_lem : (k : ℕ) (n l : List ℕ) → IsWord false n → read (suc k) (40 ∷ (n ++ l)) ≡ read_lit (40 ∷ (n ++ l))
unfolding read
read_lit_lem k n l w = ap (λ (d : Head). read_body (λ m. read k m) d (40 ∷ (n ++ l))) (ap (λ (m : List ℕ). kind_of (40 ∷ (m ++ l))) w.is ∙ kind_lit w.head (w.tail ++ l) w.starts)

comp_join : (k : ℕ) (j : Join) (f : Formula) (fs : Formulas) (r : List ℕ) → ((t : List ℕ) → read k (write f ++ t) ≡ ok f t) → ((n : ℕ) → count fs ≤ n → read_parts (λ m. read k m) n (write_parts fs ++ 41 ∷ r) ≡ ok fs (41 ∷ r)) → read (suc k) (write (join j (cons f fs)) ++ r) ≡ ok (join j (cons f fs)) r
comp_join k j f fs r h e =
    ap (λ (l : List ℕ). read (suc k) l) (ap (λ (m : List ℕ). m ++ r) (write_join j f fs)
    ∙ lay_join (join_word j) (write f) (write_parts fs) (41 ∷ []) r) ∙ read_join_lem k j (write f ++ (write_parts fs ++ 41 ∷ r))
    ∙ done_join (λ m. read k m) j f fs r (h (write_parts fs ++ 41 ∷ r)) (e (length (write_parts fs ++ 41 ∷ r)) (count_le fs (41 ∷ r)))

comp_quant : (k : ℕ) (q : Quant) (v : Quantified) (vs : List Quantified) (f : Formula) (r : List ℕ) → AllQuantified (v ∷ vs) → length (v ∷ vs) ≤ 4 → ((t : List ℕ) → read k (write f ++ t) ≡ ok f t) → read (suc k) (write (quant q (v ∷ vs) f) ++ r) ≡ ok (quant q (v ∷ vs) f) r
comp_quant k q v vs f r (a_word w ws) le h =
    ap (λ (l : List ℕ). read (suc k) l) (ap (λ (m : List ℕ). m ++ r) (write_quant q v vs f)
    ∙ lay_quant (quant_word q) (write_typed v) (write_more vs) (41 ∷ 32 ∷ write f) (41 ∷ []) r)
    ∙ read_quant_lem k q (write_typed v ++ (write_more vs ++ 41 ∷ 32 ∷ (write f ++ 41 ∷ r)))
    ∙ done_quant (λ m. read k m) q v vs f r w ws (le_of_suc-le-suc le) (h (41 ∷ r))

comp_lit : (k : ℕ) (n v : List ℕ) (vs : List (List ℕ)) (r : List ℕ) → is_relation_name n ≡ true → Variables (v ∷ vs) → read (suc k) (write (literal n (v ∷ vs)) ++ r) ≡ ok (literal n (v ∷ vs)) r
comp_lit k n v vs r e (a_word w ws) = ap (λ (l : List ℕ). read (suc k) l) (ap (λ (m : List ℕ). m ++ r) (write_lit n v vs) ∙ lay_join (40 ∷ n) (32 ∷ v) (write_vars vs) (41 ∷ []) r) ∙ read_lit_lem k n (32 ∷ (v ++ (write_vars vs ++ 41 ∷ r))) (name_is n e) ∙ done_lit n v vs r (name_is n e) w ws

mutual
  unfolding write begins

  pub complete : {k : ℕ} {f : Formula} → WellFormed k f → (r : List ℕ) → read k (write f ++ r) ≡ ok f r
  complete (g_lit {k = k} {n = n} {v = v} {vs = vs} wn ws) r = comp_lit k n v vs r wn ws
  complete (g_neg {k = k} {f = f} h) r = ap (λ (l : List ℕ). read (suc k) l) (lay3 not_word (write f) (41 ∷ []) r) ∙ read_neg_lem k (write f ++ 41 ∷ r) ∙ done_neg (λ m. read k m) f r (complete h (41 ∷ r))
  complete (g_imp {k = k} {f = f} {g = g} h e) r = ap (λ (l : List ℕ). read (suc k) l) (lay4 imp_word (write f) (32 ∷ write g) (41 ∷ []) r) ∙ read_imp_lem k (write f ++ 32 ∷ (write g ++ 41 ∷ r)) ∙ done_imp (λ m. read k m) f g r (complete h (32 ∷ (write g ++ 41 ∷ r))) (complete e (41 ∷ r))
  complete (g_and {k = k} {f = f} {fs = fs} h e) r = comp_join k ands f fs r (λ t. complete h t) (λ n le. complete_parts e n (41 ∷ r) le refl)
  complete (g_or {k = k} {f = f} {fs = fs} h e) r = comp_join k ors f fs r (λ t. complete h t) (λ n le. complete_parts e n (41 ∷ r) le refl)
  complete (g_exists {k = k} {q = v} {qs = vs} {f = f} ws le h) r = comp_quant k somes v vs f r ws le (λ t. complete h t)
  complete (g_forall {k = k} {q = v} {qs = vs} {f = f} ws le h) r = comp_quant k everys v vs f r ws le (λ t. complete h t)

  pub complete_parts : {k : ℕ} {fs : Formulas} → AllWellFormed k fs → (n : ℕ) (r : List ℕ) → count fs ≤ n → begins (32 ∷ []) r ≡ false → read_parts (λ m. read k m) n (write_parts fs ++ r) ≡ ok fs r
  complete_parts (no_goods {k = k}) n r le e = parts_none (λ m. read k m) n r e
  complete_parts (a_good {k = k} {f = f} {fs = fs} h hs) n r le e = parts_more (λ m. read k m) f fs n r (λ s. complete h s) (λ m p. complete_parts hs m r p e) le

-- ---- `inside`, by the tests in turn
pub inside_first : (b : Bool) (c : ℕ) → first b c ≡ true → inside b c ≡ true
inside_first b c e = rw e

pub inside_score : (b : Bool) (c : ℕ) → first b c ≡ false → c ≡ 95 → inside b c ≡ true
unfolding is_digit is_between
inside_score b c e h = rw (e, eq-eqb c 95 h) (or-true (leb 48 c && leb c 57))

pub inside_low : (b : Bool) (c : ℕ) → first b c ≡ false → (c ≡ 95 → ⊥) → c < 48 → inside b c ≡ false
unfolding is_digit is_between
inside_low b c e h l = rw (e, ne_eqb c 95 h, lt-leb 48 c l)

pub inside_rest : (b : Bool) (c : ℕ) → first b c ≡ false → (c ≡ 95 → ⊥) → 48 ≤ c → inside b c ≡ leb c 57
unfolding is_digit is_between
inside_rest b c e h l = rw (e, ne_eqb c 95 h, le-leb 48 c l) (or-false (leb c 57))

-- ---- the whole: a text is read as f, with nothing left, just when it is the writing of f, and f is of its form
append_nil' : (l : List ℕ) → l ++ [] ≡ l
append_nil' [] = refl
append_nil' (x ∷ l) = ap (λ (m : List ℕ). x ∷ m) (append_nil' l)

pub whole : (k : ℕ) (s : List ℕ) (f : Formula) → (read k s ≡ ok f []) ↔ (WellFormed k f × (s ≡ write f))
whole k s f = (λ e. ((sound k s f [] e).good, (sound k s f [] e).written ∙ append_nil' (write f)), λ h. rw (h.1, ← (append_nil' (write f))) (complete h.0 []))

-- a text is accepted as f just when f is of its form and the text is its writing
finish_is : (x : Res Formula) (f : Formula) → finish x ≡ some f → x ≡ ok f []
finish_is bad f e = let z : ◌≡◌ {A = ℕ} 0 1 = cc in absurd (omega arith)
finish_is (ok g []) f e = ap (λ (h : Formula). ok h []) (cc)
finish_is (ok g (b ∷ l)) f e = let z : ◌≡◌ {A = ℕ} 0 1 = cc in absurd (omega arith)

pub accepted_texts : (t : List ℕ) (f : Formula) → (read_formula t ≡ some f) ↔ (WellFormed 128 f × (t ≡ write f))
unfolding read_formula
accepted_texts t f = (λ e. (whole 128 t f).0 (finish_is (read 128 t) f e), λ h. rw ((whole 128 t f).1 h))

-- no text is the writing of two formulas
pub one_formula : (k : ℕ) (f g : Formula) → WellFormed k f → WellFormed k g → write f ≡ write g → f ≡ g
one_formula k f g hf hg e =
    let a : read k (write f ++ []) ≡ ok f [] = complete hf [] in
    let b : read k (write g ++ []) ≡ ok g [] = complete hg [] in
    let q : read k (write f ++ []) ≡ read k (write g ++ []) = ap (λ (l : List ℕ). read k (l ++ [])) e in
    let r : ok f [] ≡ ok g [] = sym a ∙ q ∙ b in
    cc
