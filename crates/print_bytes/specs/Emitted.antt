-- A text written into a lent table of bytes from a place on, as much of it as fits; and the place after all of it, whether it fits or not.
-- So a text is measured by writing it into an empty table. Assumes nothing.
use Rattle.std.specs.Prelude.{ℕ, zero, suc, ◌+◌, ◌-◌, ◌/◌, ◌%◌, ◌^◌, ◌≤◌, ◌<◌, min, ◌≡◌, refl, Bool, true, false, List, [], ◌∷◌, ◌++◌, ltb, leb, if◌then◌else◌, length, take, drop, set}
use Rattle.std.proofs.Common.{sym, ap, subst, ◌∙◌, add-zero, arith, ltb-true, ltb-false, take-append-drop, length-take, drop_of_length-le, take_at, length-append}
use Rattle.definitions.specs.Sheet.Text.{decimal_in, decimal}
use Rattle.definitions.specs.Reply.Outcome.{written}
use Rattle.definitions.specs.Reply.Page.{spaces, left, right}
use Rattle.print_line.specs.Printed.{Prints, print, print_is, print_length, print_parts, print_none}

-- a place counts on past the table's end, up to the largest number of 64 bits
unfoldable pub counted : ℕ → ℕ
counted k = min k (2 ^ 64 - 1)

-- what a writing function leaves: the table with as much of the text in it as fits, and the place after all of the text
pub record Emits (text old : List ℕ) (at : ℕ) (new : List ℕ) (next : ℕ) : Type 0 where
  pub place : next ≡ counted (at + length text)
  pub table : new ≡ print old at text

-- ---- past the end nothing is stored
pub set_past : (old : List ℕ) (at b : ℕ) → length old ≤ at → set old at b ≡ old
set_past [] at b h = refl
set_past (x ∷ old) zero b h = absurd (omega arith)
set_past (x ∷ old) (suc at) b h = ap (λ (l : List ℕ). x ∷ l) (set_past old at b (omega arith))

pub print_past : (text old : List ℕ) (at : ℕ) → length old ≤ at → print old at text ≡ old
unfolding print
print_past [] old at h = refl
print_past (b ∷ text) old at h = rw (set_past old at b h) (print_past text old (suc at) (omega arith))

pub print_counted : (text old : List ℕ) (k : ℕ) → length old < 2 ^ 64 → print old (counted k) text ≡ print old k text
unfolding counted
print_counted text old k h = by_size (ltb k (2 ^ 64)) refl
  where
    by_size : (b : Bool) → ltb k (2 ^ 64) ≡ b → print old (min k (2 ^ 64 - 1)) text ≡ print old k text
    by_size true q = let l = ltb-true k (2 ^ 64) q in let e : min k (2 ^ 64 - 1) ≡ k = omega arith in ap (λ (i : ℕ). print old i text) e
    by_size false q = let l = ltb-false k (2 ^ 64) q in print_past text old (min k (2 ^ 64 - 1)) (omega arith) ∙ sym (print_past text old k (omega arith))

-- ---- one byte: where there is room, and past the end
pub byte_stored : (old : List ℕ) (at b next : ℕ) → next ≡ min (at + 1) (2 ^ 64 - 1) → Emits (b ∷ []) old at (set old at b) next
unfolding print counted
byte_stored old at b next e = record { place = e; table = refl }

pub byte_dropped : (old : List ℕ) (at b next : ℕ) → length old ≤ at → next ≡ min (at + 1) (2 ^ 64 - 1) → Emits (b ∷ []) old at old next
unfolding counted
byte_dropped old at b next h e = record { place = e; table = sym (print_past (b ∷ []) old at h) }

-- ---- a text: as much of it as fits is printed
pub fits_as : (text old : List ℕ) (at k : ℕ) → at ≤ length old → k ≡ min (length text) (length old - at) → print old at text ≡ print old at (take k text)
fits_as text old at k h e =
    let c : text ≡ take k text ++ drop k text = sym (take-append-drop k text) in
    let q = print_length old at (take k text) in
    ap (print old at) c ∙ print_parts (take k text) (drop k text) old at ∙ by_test (ltb k (length text)) refl q
  where
    by_test : (b : Bool) → ltb k (length text) ≡ b → length (print old at (take k text)) ≡ length old → print (print old at (take k text)) (at + length (take k text)) (drop k text) ≡ print old at (take k text)
    by_test true l q = let m = ltb-true k (length text) l in print_past (drop k text) _ _ (omega (arith, length-take k text))
    by_test false l q = let m = ltb-false k (length text) l in rw (drop_of_length-le text {i = k} m) (print_none _ _)

pub emits_text : {text old new : List ℕ} {at next k place : ℕ} → at ≤ length old → k ≡ min (length text) (length old - at) → next ≡ min (at + length text) (2 ^ 64 - 1) → Prints (take k text) old at new place → Emits text old at new next
unfolding counted
emits_text {text} {old} {at = at} h e n p = record { place = n; table = p.table ∙ sym (fits_as text old at _ h e) }

pub emits_past : {text old : List ℕ} {at next : ℕ} → length old ≤ at → next ≡ min (at + length text) (2 ^ 64 - 1) → Emits text old at old next
unfolding counted
emits_past {text} {old} {at} h n = record { place = n; table = sym (print_past text old at h) }

-- what is printed into a table from the front on stands at the front
pub printed_front : {text old new : List ℕ} {next : ℕ} → length text ≤ length old → Prints text old 0 new next → (next ≡ length text) × (take next new ≡ text)
printed_front {text} {old} {new} {next} h p =
    let z : next ≡ length text = omega (arith, p.place) in
    (z, rw z (ap (take (length text)) (p.table ∙ print_is old 0 text (omega arith)) ∙ take_at text _ _ refl))

-- ---- A text is written part by part: `rest` is still to be written into `table` from `at` on, so that the whole stands in `old`
-- from `from` on. `begin`, then `next` for each part, then `finish`.
pub record Left (whole old : List ℕ) (from : ℕ) (rest table : List ℕ) (at : ℕ) : Type 0 where
  pub same : print old from whole ≡ print table at rest
  pub end : counted (from + length whole) ≡ counted (at + length rest)
  pub size : length table ≡ length old
  pub short : length old < 2 ^ 64
  pub here : at < 2 ^ 64

pub begin : {whole rest : List ℕ} {at : ℕ} (old : List ℕ) → whole ≡ rest → length old < 2 ^ 64 → at < 2 ^ 64 → Left whole old at rest old at
begin {whole} {rest} {at} old e h l = record { same = ap (print old at) e; end = ap (λ (t : List ℕ). counted (at + length t)) e; size = refl; short = h; here = l }

-- what is left, said in another way
pub recut : {whole old table rest parts : List ℕ} {from at : ℕ} → rest ≡ parts → Left whole old from rest table at → Left whole old from parts table at
recut {whole} {old} {table} {from = from} {at} e l = subst (λ (t : List ℕ). Left whole old from t table at) e l

counted_on : (at x y place : ℕ) → place ≡ counted (at + x) → counted (at + (x + y)) ≡ counted (place + y)
unfolding counted
counted_on at x y place e = omega arith

counted_fits : (k j : ℕ) → k ≡ counted j → k < 2 ^ 64
unfolding counted
counted_fits k j e = omega arith

pub next : {whole old table new : List ℕ} {from at place : ℕ} (x y : List ℕ) → Left whole old from (x ++ y) table at → Emits x table at new place → Left whole old from y new place
next {table = table} {new} {at = at} {place} x y l p =
    let m : length new ≡ length table = ap length p.table ∙ print_length table at x in
    let h : length new < 2 ^ 64 = omega (arith, l.size, l.short) in
    record {
      same = l.same ∙ print_parts x y table at ∙ ap (λ (t : List ℕ). print t (at + length x) y) (sym p.table) ∙ sym (print_counted y new (at + length x) h) ∙ ap (λ (i : ℕ). print new i y) (sym p.place);
      end = l.end ∙ ap (λ (k : ℕ). counted (at + k)) (length-append x y) ∙ counted_on at (length x) (length y) place p.place;
      size = m ∙ l.size;
      short = l.short;
      here = counted_fits place (at + length x) p.place;
    }

pub finish : {whole old table new : List ℕ} {from at place : ℕ} (x : List ℕ) → Left whole old from x table at → Emits x table at new place → Emits whole old from new place
finish x l p = record { place = p.place ∙ sym l.end; table = p.table ∙ sym l.same }

counted_here : (k : ℕ) → k < 2 ^ 64 → k ≡ counted k
unfolding counted
counted_here k h = omega arith

pub finished : {whole old table : List ℕ} {from at : ℕ} → Left whole old from [] table at → Emits whole old from table at
finished {table = table} {at = at} l = record { place = counted_here at l.here ∙ ap counted (sym (add-zero at)) ∙ sym l.end; table = sym (l.same ∙ print_none table at) }

-- nothing written; and the same text, said in another way
pub emits_none : (old : List ℕ) (at : ℕ) → at < 2 ^ 64 → Emits [] old at old at
emits_none old at h = record { place = counted_here at h ∙ ap counted (sym (add-zero at)); table = sym (print_none old at) }

pub emits_as : {text other old new : List ℕ} {at next : ℕ} → text ≡ other → Emits other old at new next → Emits text old at new next
emits_as {old = old} {new} {at} {next} e p = subst (λ (t : List ℕ). Emits t old at new next) (sym e) p

-- ---- what was written from the front on: all of it where there is room, as much as fits where there is not, and how long it is
pub measured : {text old new : List ℕ} {next : ℕ} → length text < 2 ^ 64 → Emits text old 0 new next → next ≡ length text
unfolding counted
measured {text} h p = p.place ∙ omega arith

pub whole_written : {text old new : List ℕ} {next : ℕ} → length text ≤ length old → Emits text old 0 new next → new ≡ written text old
unfolding written
whole_written {text} {old} h p = let z : 0 + length text ≡ length text = omega arith in p.table ∙ print_is old 0 text (omega arith) ∙ ap (λ (k : ℕ). text ++ drop k old) z

under : (b : ℕ) (old : List ℕ) (i : ℕ) (text : List ℕ) → print (b ∷ old) (suc i) text ≡ b ∷ print old i text
unfolding print
under b old i [] = refl
under b old i (c ∷ text) = under b (set old i c) (suc i) text

pub front_written : (text old : List ℕ) → length old ≤ length text → print old 0 text ≡ take (length old) text
unfolding print
front_written text [] h = print_past text [] 0 (omega arith)
front_written [] (x ∷ old) h = absurd (omega arith)
front_written (b ∷ text) (x ∷ old) h = under b old 0 text ∙ ap (λ (l : List ℕ). b ∷ l) (front_written text old (omega arith))

-- ---- spaces and columns, part by part
pub one_space : (k : ℕ) → 0 < k → spaces k ≡ (32 ∷ []) ++ spaces (k - 1)
unfolding spaces
one_space zero h = absurd (omega arith)
one_space (suc k) h = let e : suc k - 1 ≡ k = omega arith in rw e

pub no_space : (k : ℕ) → k ≤ 0 → spaces k ≡ []
unfolding spaces
no_space zero h = refl
no_space (suc k) h = absurd (omega arith)

-- the spaces that fill up, by their count
pub left_is : (k j : ℕ) (text : List ℕ) → j ≡ k - length text → left k text ≡ text ++ spaces j
unfolding left
left_is k j text e = rw e

pub right_is : (k j : ℕ) (text : List ℕ) → j ≡ k - length text → right k text ≡ spaces j ++ text
unfolding right
right_is k j text e = rw e

-- ---- how many digits a number has
few_of : (k n : ℕ) → length (decimal_in k n) ≤ k
unfolding decimal_in
few_of zero n = omega arith
few_of (suc k) n = by_test (leb n 9) (few_of k (n / 10))
  where
    by_test : (b : Bool) → length (decimal_in k (n / 10)) ≤ k → length (if b then (n + 48) ∷ [] else decimal_in k (n / 10) ++ ((n % 10 + 48) ∷ [])) ≤ suc k
    by_test true h = omega arith
    by_test false h = omega (arith, length-append (decimal_in k (n / 10)) ((n % 10 + 48) ∷ []))

pub few_digits : (k : ℕ) → length (decimal k) ≤ 20
unfolding decimal
few_digits k = few_of 20 k
