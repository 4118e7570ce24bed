-- What is written of tuples and relations, by the names, the facts' words and the relations by number. Assumes nothing.
use Rattle.std.specs.Prelude.{ℕ, zero, suc, ◌+◌, ◌-◌, ◌*◌, ◌/◌, ◌%◌, ◌^◌, ◌≤◌, ◌<◌, ◌≡◌, refl, Bool, true, false, not, List, [], ◌∷◌, ◌++◌, map, ltb, get_or, if◌then◌else◌}
use mathlib.Core.Bool.{beq}
use Rattle.std.proofs.Common.{sym, ap, ap₂, subst, ◌∙◌, arith, pow-suc, one-mul, mul-le-mul, le_refl, mod-eq_of_lt, mod-lt, div-one, add-one, lt-ltb, le-ltb}
use Rattle.std.proofs.lemmas.List.{map-append}
use Rattle.std.proofs.Math.Nat.{pow-zero}
use Rattle.std.proofs.Math.Arith.{digits_div, digits_mod}
use Rattle.definitions.specs.Lists.{flat_map, from, below}
use Rattle.definitions.specs.Sheet.Text.{bytes}
use Rattle.definitions.specs.Sheet.Formula.{write_each}
use Rattle.definitions.specs.Sheet.Relations.{built_in_holds}
use Rattle.definitions.specs.Problem.Atoms.{places_of}
use Rattle.definitions.specs.Reply.Pddl.{object_word, indented}
use Rattle.laws.specs.Rows.{places_snoc, pair_places}
use Rattle.step_start.specs.Rows.{holds_at}
use Rattle.step_start.specs.RowLaws.{is_pair}
use Rattle.problem_layout.specs.declared.Relations.{Relations}
use Rattle.problem_layout.specs.Laid.{RelationsFit}
use Rattle.problem_layout.specs.LaidLaws.{pow_most}
use Rattle.print_words.specs.declared.Word.{Word}
use Rattle.print_words.specs.Words.{atom_in, WordFits}
use Rattle.print_words.specs.Loops.{flat_first}
use Rattle.print_instance.specs.declared.Known.{Known}

unfoldable pub agree : Bool → Bool → Bool
agree true b = b
agree false b = not b

abbrev pub relation_word : ℕ → ℕ → Word
relation_word kind r = record { kind = kind; which = r; shape = 0 }

unfoldable pub word_for : Bool → ℕ → Word
word_for true r = relation_word 0 r
word_for false r = relation_word 1 r

-- a line: what a word says of elements
unfoldable pub said_text : (q ns : List ℕ) → Word → List ℕ → List ℕ
said_text q ns w xs = indented 4 (atom_in q ns w (map (λ x. 8 + x) xs))

unfoldable pub elements_text : (q ns : List ℕ) → Word → ℕ → List ℕ
elements_text q ns w x = said_text q ns w (x ∷ [])

-- that of a row's tuple, if it is one of those that are written
unfoldable pub row_text : (q ns f : List ℕ) → Known → ℕ → List ℕ
row_text q ns f k row =
    if agree (holds_at f k.n k.r k.kind k.first row) k.holds then said_text q ns (word_for k.holds k.r) (places_of k.n k.arity row) else []

-- those of n rows that differ in the last place alone, and of all
abbrev pub run_text : (q ns f : List ℕ) → Known → ℕ → List ℕ
run_text q ns f k b = flat_map (row_text q ns f k) (from (b * k.n) k.n)

unfoldable pub tuples_text : (q ns f : List ℕ) → Known → List ℕ
tuples_text q ns f k = flat_map (run_text q ns f k) (below (k.n ^ (k.arity - 1)))

unfoldable pub is_fun : ℕ → Bool
is_fun kind = if ltb kind 2 then false else ltb kind 6

unfoldable pub is_inj : ℕ → Bool
is_inj kind = if ltb kind 4 then false else ltb kind 6

abbrev pub other : Known → Known
other k = record { n = k.n; r = k.r; arity = k.arity; kind = k.kind; first = k.first; holds = false }

unfoldable pub relation_text : (q ns f : List ℕ) → Known → List ℕ
relation_text q ns f k =
    tuples_text q ns f k
    ++ (tuples_text q ns f (other k)
    ++ ((if is_fun k.kind then flat_map (elements_text q ns (relation_word 2 k.r)) (below k.n) else [])
    ++ (if is_inj k.kind then flat_map (elements_text q ns (relation_word 3 k.r)) (below k.n) else [])))

-- how many words of facts a relation has, and the first of them
unfoldable pub words_of : (n r arity : ℕ) → ℕ
words_of n r arity = if ltb r 5 then 0 else (n ^ arity + 63) / 64

unfoldable pub first_of : ℕ → Relations → ℕ → ℕ
first_of n g zero = 0
first_of n g (suc r) = first_of n g r + words_of n r (get_or g.arity r 0)

abbrev pub known_at : ℕ → Relations → ℕ → Known
known_at n g r = record { n = n; r = r; arity = get_or g.arity r 0; kind = get_or g.kind r 0; first = first_of n g r; holds = true }

unfoldable pub relations_text : (q ns f : List ℕ) → ℕ → Relations → List ℕ
relations_text q ns f n g = flat_map (λ r. relation_text q ns f (known_at n g r)) (below g.count)

unfoldable pub instance_in : (q ns f : List ℕ) → ℕ → Relations → List ℕ
instance_in q ns f n g =
    (bytes "(define (problem site)" ++ (10 ∷ (bytes "  (:domain case)" ++ (10 ∷ bytes "  (:objects"))))
    ++ (write_each (λ v. v) (map object_word (from 1 (n - 2)))
    ++ ((41 ∷ 10 ∷ (bytes "  (:init" ++ (10 ∷ (bytes "    (guess)" ++ (10 ∷ [])))))
    ++ (relations_text q ns f n g
    ++ (bytes "  )" ++ (10 ∷ (bytes "  (:goal (holds_goal))" ++ (10 ∷ 41 ∷ 10 ∷ [])))))))

-- ---- what keeps numbers in range
pub record KnownFits (k : Known) : Type 0 where
  pub some : 0 < k.n
  pub few : k.n ≤ 64
  pub number : k.r < 18
  pub placed : 1 ≤ k.arity
  pub places : k.arity ≤ 3
  pub first : k.first ≤ 2 ^ 32

pub record RelationsKnown (n : ℕ) (g : Relations) : Type 0 where
  pub some : 0 < n
  pub few : n ≤ 64
  pub fit : RelationsFit g
  pub placed : (r : ℕ) → r < g.count → (1 ≤ get_or g.arity r 0) × (get_or g.arity r 0 ≤ 3)

power_le : (n a : ℕ) → n ≤ 64 → a ≤ 3 → n ^ a ≤ 64 ^ 4
power_le n a h l = pow_most n a h (omega arith)

words_le : (n r a : ℕ) → 0 < n → n ≤ 64 → a ≤ 3 → words_of n r a ≤ 262145
unfolding words_of
words_le n r a p h l = by_test (ltb r 5)
  where
    by_test : (b : Bool) → (if b then 0 else (n ^ a + 63) / 64) ≤ 262145
    by_test true = omega arith
    by_test false = let x = power_le n a h l in omega arith

pub first_le : (n : ℕ) (g : Relations) → RelationsKnown n g → (r : ℕ) → r ≤ g.count → first_of n g r ≤ r * 262145
unfolding first_of
first_le n g G zero h = omega arith
first_le n g G (suc r) h = omega (arith, first_le n g G r (omega arith), words_le n r (get_or g.arity r 0) G.some G.few (G.placed r (omega arith)).1)

pub known_fits : (n : ℕ) (g : Relations) → RelationsKnown n g → (r : ℕ) → r < g.count → KnownFits (known_at n g r)
known_fits n g G r h = record {
  some = G.some;
  few = G.few;
  number = omega (arith, G.fit.count);
  placed = (G.placed r h).0;
  places = (G.placed r h).1;
  first = omega (arith, first_le n g G r (omega arith), G.fit.count);
}

-- ---- laws of each function
pub so_pair : (f : List ℕ) (k : Known) (before z : ℕ) → k.r < 3 → z < k.n → built_in_holds k.n k.r before z ≡ holds_at f k.n k.r k.kind k.first (before * k.n + z)
so_pair f k before z h l =
    ap₂ (built_in_holds k.n k.r) (sym (digits_div before l)) (sym (digits_mod before l)) ∙ is_pair f k.n k.r k.kind k.first (before * k.n + z) h

pub agree_is : (a b : Bool) → beq a b ≡ agree a b
unfolding agree
agree_is true true = refl
agree_is true false = refl
agree_is false true = refl
agree_is false false = refl

pub word_held : (b : Bool) (r : ℕ) → b ≡ true → relation_word 0 r ≡ word_for b r
unfolding word_for
word_held b r e = rw e refl

pub word_not : (b : Bool) (r : ℕ) → b ≡ false → relation_word 1 r ≡ word_for b r
unfolding word_for
word_not b r e = rw e refl

pub word_fits : (b : Bool) (r : ℕ) → r < 18 → WordFits (word_for b r)
unfolding word_for WordFits
word_fits true r h _ = h
word_fits false r h _ = h

pub relation_fits : (kind r : ℕ) → r < 18 → WordFits (relation_word kind r)
unfolding WordFits
relation_fits kind r h _ = h

pub if_yes : (is : Bool) (t : List ℕ) → is ≡ true → (if is then t else []) ≡ t
if_yes is t e = rw e refl

pub if_no : (is : Bool) (t : List ℕ) → is ≡ false → (if is then t else []) ≡ []
if_no is t e = rw e refl

-- rows are far from the largest number
pub row_small : (before n z : ℕ) → before < 2 ^ 32 → n ≤ 64 → z < n → before * n + z < 2 ^ 39
row_small before n z b h l = let m : before * n ≤ before * 64 = mul-le-mul (le_refl before) h in omega arith

pub row_most : (n count row : ℕ) → n ≤ 64 → count ≤ 2 → row < n ^ count → row < 2 ^ 32
row_most n count row h c l = omega (arith, pow_most n count h (omega arith))

pub before_small : (k : Known) (before : ℕ) → KnownFits k → before < k.n ^ (k.arity - 1) → before < 2 ^ 32
before_small k before K h = omega (arith, pow_most k.n (k.arity - 1) K.few (omega (arith, K.places)))

pub run_first : (F : ℕ → List ℕ) (a m : ℕ) → flat_map F (from a m) ≡ flat_map F (from (a + 0) (m - 0))
run_first F a m = let e : a ≡ a + 0 = omega arith in let d : m ≡ m - 0 = omega arith in ap₂ (λ (x y : ℕ). flat_map F (from x y)) e d

pub only_code : (codes none : List ℕ) (k : ℕ) → none ≡ below 0 → codes ≡ none ++ (k ∷ []) → codes ≡ k ∷ []
unfolding below from
only_code codes none k e d = d ∙ ap (λ (l : List ℕ). l ++ (k ∷ [])) e

-- the places of a row, two at the most
pub no_places : (n count row : ℕ) → count ≡ 0 → below 0 ≡ map (λ x. 8 + x) (places_of n count row)
unfolding places_of below from
no_places n count row e = rw e refl

places_one : (n row : ℕ) → row < n ^ 1 → (8 + row) ∷ [] ≡ map (λ x. 8 + x) (places_of n 1 row)
unfolding places_of
places_one n row h =
    let e : n ^ 1 ≡ n = pow-suc n 0 ∙ ap (λ (x : ℕ). x * n) (pow-zero n) ∙ one-mul n in
    let l : row < n = omega arith in
    sym (ap (λ (x : ℕ). (8 + x) ∷ []) (ap (λ (x : ℕ). row / x % n) (pow-zero n) ∙ ap (λ (x : ℕ). x % n) (div-one row) ∙ mod-eq_of_lt l))

pub one_place : (n count row : ℕ) (codes none : List ℕ) → count ≡ 1 → row < n ^ count → none ≡ below 0 → codes ≡ none ++ ((8 + row) ∷ []) → codes ≡ map (λ x. 8 + x) (places_of n count row)
one_place n count row codes none e h a b =
    only_code codes none (8 + row) a b ∙ places_one n row (subst (λ (k : ℕ). row < n ^ k) e h) ∙ ap (λ (k : ℕ). map (λ x. 8 + x) (places_of n k row)) (sym e)

pub two_places : (n count row : ℕ) (codes one none : List ℕ) → 0 < n → count ≡ 2 → row < n ^ count → none ≡ below 0 → one ≡ none ++ ((8 + row / n) ∷ []) → codes ≡ one ++ ((8 + row % n) ∷ [])
    → codes ≡ map (λ x. 8 + x) (places_of n count row)
two_places n count row codes one none p e h a b d =
    d ∙ ap (λ (l : List ℕ). l ++ ((8 + row % n) ∷ [])) (only_code one none (8 + row / n) a b)
    ∙ sym (ap (map (λ x. 8 + x)) (pair_places n row p (subst (λ (k : ℕ). row < n ^ k) e h)).0) ∙ ap (λ (k : ℕ). map (λ x. 8 + x) (places_of n k row)) (sym e)

pub pair_small : (n count row : ℕ) → 0 < n → count ≡ 2 → row < n ^ count → (row / n < n) × (row % n < n)
pair_small n count row p e h = ((pair_places n row p (subst (λ (k : ℕ). row < n ^ k) e h)).1, mod-lt row p)

-- and one place more
pub row_codes : (k : Known) (before z : ℕ) (codes : List ℕ) → KnownFits k → before < k.n ^ (k.arity - 1) → z < k.n → codes ≡ map (λ x. 8 + x) (places_of k.n (k.arity - 1) before)
    → codes ++ ((8 + z) ∷ []) ≡ map (λ x. 8 + x) (places_of k.n k.arity (before * k.n + z))
row_codes k before z codes K h l e =
    let s : suc (k.arity - 1) ≡ k.arity = omega (arith, K.placed) in
    ap (λ (xs : List ℕ). xs ++ ((8 + z) ∷ [])) e ∙ sym (map-append (λ x. 8 + x) (places_of k.n (k.arity - 1) before) (z ∷ []))
    ∙ ap (map (λ x. 8 + x)) (sym (places_snoc k.n (k.arity - 1) before z K.some h l)) ∙ ap (λ (a : ℕ). map (λ x. 8 + x) (places_of k.n a (before * k.n + z))) s

-- a row's line as it is written
pub row_is : (q ns f : List ℕ) (k : Known) (row : ℕ) (so is : Bool) (w : Word) (codes : List ℕ) → so ≡ holds_at f k.n k.r k.kind k.first row → is ≡ agree so k.holds → w ≡ word_for k.holds k.r
    → codes ≡ map (λ x. 8 + x) (places_of k.n k.arity row) → row_text q ns f k row ≡ (if is then indented 4 (atom_in q ns w codes) else [])
unfolding row_text said_text
row_is q ns f k row so is w codes a b c d = sym (ap₂ (λ (x : Bool) (t : List ℕ). if x then t else []) (b ∙ ap (λ (x : Bool). agree x k.holds) a) (ap₂ (λ (v : Word) (xs : List ℕ). indented 4 (atom_in q ns v xs)) c d))

pub element_is : (q ns : List ℕ) (w : Word) (x : ℕ) (codes : List ℕ) → codes ≡ (8 + x) ∷ [] → elements_text q ns w x ≡ indented 4 (atom_in q ns w codes)
unfolding elements_text said_text
element_is q ns w x codes e = ap (λ (xs : List ℕ). indented 4 (atom_in q ns w xs)) (sym e)

pub tuples_first : (q ns f : List ℕ) (k : Known) (runs : ℕ) → runs ≡ k.n ^ (k.arity - 1) → tuples_text q ns f k ≡ flat_map (run_text q ns f k) (from 0 (runs - 0))
unfolding tuples_text
tuples_first q ns f k runs e = ap (λ (m : ℕ). flat_map (run_text q ns f k) (below m)) (sym e) ∙ flat_first (run_text q ns f k) runs

pub other_fits : (k : Known) → KnownFits k → KnownFits (other k)
other_fits k K = record { some = K.some; few = K.few; number = K.number; placed = K.placed; places = K.places; first = K.first }

pub relation_parts : (q ns f : List ℕ) (k : Known) (is too : Bool) → is ≡ is_fun k.kind → too ≡ is_inj k.kind → relation_text q ns f k ≡ tuples_text q ns f k
    ++ (tuples_text q ns f (other k) ++ ((if is then flat_map (elements_text q ns (relation_word 2 k.r)) (below k.n) else []) ++ (if too then flat_map (elements_text q ns (relation_word 3 k.r)) (below k.n) else [])))
unfolding relation_text
relation_parts q ns f k is too a b = rw (a, b) refl

-- a relation by its number
abbrev pub known_by : ℕ → Relations → ℕ → ℕ → Known
known_by n g r first = record { n = n; r = r; arity = get_or g.arity r 0; kind = get_or g.kind r 0; first = first; holds = true }

pub known_is : (q ns f : List ℕ) (n : ℕ) (g : Relations) (r first : ℕ) → first ≡ first_of n g r → relation_text q ns f (known_at n g r) ≡ relation_text q ns f (known_by n g r first)
known_is q ns f n g r first e = ap (λ (x : ℕ). relation_text q ns f (known_by n g r x)) (sym e)

pub known_here : (n : ℕ) (g : Relations) (r first : ℕ) → RelationsKnown n g → r < g.count → first ≡ first_of n g r → KnownFits (known_by n g r first)
known_here n g r first G h e = subst (λ (x : ℕ). KnownFits (known_by n g r x)) (sym e) (known_fits n g G r h)

pub first_next : (n : ℕ) (g : Relations) (r first w : ℕ) → first ≡ first_of n g r → w ≡ words_of n r (get_or g.arity r 0) → first + w ≡ first_of n g (r + 1)
unfolding first_of
first_next n g r first w a b = ap₂ ◌+◌ a b ∙ ap (first_of n g) (sym (add-one r))

pub first_small : (n : ℕ) (g : Relations) (r first w : ℕ) → RelationsKnown n g → r < g.count → first ≡ first_of n g r → w ≡ words_of n r (get_or g.arity r 0) → first + w < 2 ^ 32
first_small n g r first w G h a b = omega (arith, first_next n g r first w a b, first_le n g G (r + 1) (omega arith), G.fit.count)

-- ---- kinds
pub fun_low : (k : ℕ) → k < 2 → false ≡ is_fun k
unfolding is_fun
fun_low k h = rw (lt-ltb k 2 h) refl

pub fun_high : (k : ℕ) → 2 ≤ k → ltb k 6 ≡ is_fun k
unfolding is_fun
fun_high k h = rw (le-ltb k 2 h) refl

pub inj_low : (k : ℕ) → k < 4 → false ≡ is_inj k
unfolding is_inj
inj_low k h = rw (lt-ltb k 4 h) refl

pub inj_high : (k : ℕ) → 4 ≤ k → ltb k 6 ≡ is_inj k
unfolding is_inj
inj_high k h = rw (le-ltb k 4 h) refl

pub words_low : (n r a : ℕ) → r < 5 → 0 ≡ words_of n r a
unfolding words_of
words_low n r a h = rw (lt-ltb r 5 h) refl

pub words_high : (n r a p : ℕ) → 5 ≤ r → p ≡ n ^ a → (p + 63) / 64 ≡ words_of n r a
unfolding words_of
words_high n r a p h e = rw (le-ltb r 5 h, e) refl

-- ---- objects
pub object_next : (x n : ℕ) → x + 1 < n → write_each (λ v. v) (map object_word (from x (n - 1 - x))) ≡ (32 ∷ []) ++ (object_word x ++ write_each (λ v. v) (map object_word (from (x + 1) (n - 1 - (x + 1)))))
unfolding write_each from
object_next x n h =
    let e : n - 1 - x ≡ suc (n - 1 - (x + 1)) = omega arith in
    ap (λ (m : ℕ). write_each (λ v. v) (map object_word (from x m))) e ∙ ap (λ (j : ℕ). 32 ∷ (object_word x ++ write_each (λ v. v) (map object_word (from j (n - 1 - (x + 1)))))) (sym (add-one x))

pub object_end : (x n : ℕ) → n ≤ x + 1 → write_each (λ v. v) (map object_word (from x (n - 1 - x))) ≡ []
unfolding write_each from
object_end x n h = let e : n - 1 - x ≡ 0 = omega arith in ap (λ (m : ℕ). write_each (λ v. v) (map object_word (from x m))) e

pub object_first : (n : ℕ) → write_each (λ v. v) (map object_word (from 1 (n - 2))) ≡ write_each (λ v. v) (map object_word (from 1 (n - 1 - 1)))
object_first n = let e : n - 2 ≡ n - 1 - 1 = omega arith in ap (λ (m : ℕ). write_each (λ v. v) (map object_word (from 1 m))) e
