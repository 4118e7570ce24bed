-- A text printed into a table of bytes from a place on, and what is left to print of a text. Assumes nothing.
use Rattle.std.specs.Prelude.{ℕ, suc, ◌+◌, ◌≤◌, ◌≡◌, refl, List, [], ◌∷◌, ◌++◌, length, take, drop, set}
use Rattle.std.proofs.Common.{sym, ap, subst, ◌∙◌, append_assoc, add-zero, arith, length-append}
use Rattle.std.proofs.lemmas.List.Edits.{sets, sets-eq}
use Rattle.std.proofs.Math.Seq.{length-sets}

-- the table once the text is stored in it, byte by byte from a place on
unfoldable pub print : List ℕ → ℕ → List ℕ → List ℕ
print table at text = sets table at text

-- what a printing function leaves: the table with the text in it, and the place after the text
pub record Prints (text old : List ℕ) (at : ℕ) (new : List ℕ) (next : ℕ) : Type 0 where
  pub place : next ≡ at + length text
  pub table : new ≡ print old at text

pub prints_byte : (old : List ℕ) (at b : ℕ) → Prints (b ∷ []) old at (set old at b) (at + 1)
unfolding print
prints_byte old at b = record { place = refl; table = refl }

-- where there is room, the bytes before the text and those after it are the old ones
pub print_is : (old : List ℕ) (at : ℕ) (text : List ℕ) → at + length text ≤ length old → print old at text ≡ take at old ++ (text ++ drop (at + length text) old)
unfolding print
print_is old at text h = sets-eq text old at h ∙ append_assoc (take at old) text (drop (at + length text) old)

pub print_length : (old : List ℕ) (at : ℕ) (text : List ℕ) → length (print old at text) ≡ length old
unfolding print
print_length old at text = length-sets old at text

pub print_none : (old : List ℕ) (at : ℕ) → print old at [] ≡ old
unfolding print
print_none old at = refl

-- a text in two parts is printed in two goes
pub print_parts : (x y old : List ℕ) (at : ℕ) → print old at (x ++ y) ≡ print (print old at x) (at + length x) y
unfolding print
print_parts [] y old at = rw (add-zero at)
print_parts (b ∷ x) y old at = print_parts x y (set old at b) (suc at) ∙ ap (λ (i : ℕ). sets (sets (set old at b) (suc at) x) i y) (omega arith)

-- ---- A text is printed part by part: `rest` is still to be printed into `table` from `at` on, so that the whole stands in `old`
-- from `from` on. `begin`, then `next` for each part, then `finish`.
pub record Left (whole old : List ℕ) (from : ℕ) (rest table : List ℕ) (at : ℕ) : Type 0 where
  pub same : print old from whole ≡ print table at rest
  pub end : from + length whole ≡ at + length rest
  pub room : at + length rest ≤ length table

pub begin : {whole rest : List ℕ} {at : ℕ} (old : List ℕ) → whole ≡ rest → at + length whole ≤ length old → Left whole old at rest old at
begin {whole} {rest} {at} old e h = record { same = ap (print old at) e; end = ap (λ (t : List ℕ). at + length t) e; room = rw (← e) h }

-- what is left, said in another way
pub recut : {whole old table rest parts : List ℕ} {from at : ℕ} → rest ≡ parts → Left whole old from rest table at → Left whole old from parts table at
recut {whole} {old} {table} {from = from} {at} e l = subst (λ (t : List ℕ). Left whole old from t table at) e l

pub left_length : {whole old table rest : List ℕ} {from at : ℕ} → Left whole old from rest table at → length table ≡ length old
left_length {whole} {old} {table} {rest} {from} {at} l = sym (print_length table at rest) ∙ ap length (sym l.same) ∙ print_length old from whole

-- there is room for the next part
pub room_for : {whole old table : List ℕ} {from at : ℕ} (x y : List ℕ) → Left whole old from (x ++ y) table at → at + length x ≤ length table
room_for {at = at} x y l = let e = length-append x y in let r = l.room in omega arith

pub next : {whole old table new : List ℕ} {from at place : ℕ} (x y : List ℕ) → Left whole old from (x ++ y) table at → Prints x table at new place → Left whole old from y new place
next {table = table} {new} {at = at} {place} x y l p =
    let e = length-append x y in
    let m : length new ≡ length table = ap length p.table ∙ print_length table at x in
    record {
      same = l.same ∙ print_parts x y table at ∙ rw (p.table, p.place);
      end = omega (arith, l.end, p.place);
      room = omega (arith, l.room, p.place);
    }

pub finish : {whole old table new : List ℕ} {from at place : ℕ} (x : List ℕ) → Left whole old from x table at → Prints x table at new place → Prints whole old from new place
finish x l p = record { place = p.place ∙ sym l.end; table = p.table ∙ sym l.same }

pub finished : {whole old table : List ℕ} {from at : ℕ} → Left whole old from [] table at → Prints whole old from table at
finished {table = table} {at = at} l = record { place = sym (l.end ∙ add-zero at); table = sym (l.same ∙ print_none table at) }
