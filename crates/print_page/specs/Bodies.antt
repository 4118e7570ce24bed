-- The step lines of a page among those of all steps: where its first stands, and the bytes from there on. Assumes nothing.
use Rattle.std.specs.Prelude.{ℕ, zero, suc, ◌+◌, ◌-◌, ◌*◌, ◌^◌, ◌≤◌, ◌<◌, ◌≡◌, refl, ◌⊎◌, get_or, take, replicate}
use Rattle.std.proofs.Math.Path.{sym, ap, ap₂}
use Rattle.std.proofs.Common.{subst, ◌∙◌, inl, inr, ⊎_elim, drop_of_length-le, drop_at, length-take-le}
use Rattle.std.proofs.Math.Option.{some}
use mathlib.Core.List.Memᴰ
use mathlib.Core.List.{List, [], ◌∷◌, ◌++◌, append_assoc, append-nil}
use Rattle.std.proofs.Math.Numerals.{add-one}
use native.Mathlib.Omega.{arith}
use Rattle.std.proofs.Math.ListN.{length, drop, length-append, length-drop}
use Rattle.std.proofs.Math.Seq.{drop-append-add, drop-cons, drop-drop, take_at}
use Rattle.std.proofs.lemmas.List.{drop-append-le}
use Rattle.definitions.specs.Lists.{flat_map, map_from}
use Rattle.definitions.specs.Sheet.Sheets.{Label}
use Rattle.definitions.specs.Problem.Atoms.{Problem}
use Rattle.definitions.specs.Sheet.Text.{decimal}
use Rattle.definitions.specs.Problem.Actions.{Action, action_at}
use Rattle.definitions.specs.Reply.Outcome.{written}
use Rattle.definitions.specs.Reply.Page.{spaces, right, lines_of, ended_line, blank_line, page_lines, page_text}
use Rattle.laws.specs.Lists.{flat_append}
use Rattle.laws.specs.Pages.{Each, Shown, lines_at, lines_from, from_long, from_few, lines_long, ended_length, bytes_drop, page_bytes, page_lines_long, page_lines_count, page_lines_are, page_length}
use Rattle.print_line.specs.Printed.{print, print_is, print_length, print_parts}
use Rattle.print_bytes.specs.Emitted.{counted, Emits, Left, print_past, print_counted, measured, whole_written, front_written, begin, next, finish}

module _ (ls : List Label) (p : Problem) (steps : List ℕ) where
  abbrev pub rest_from : ℕ → List (List ℕ)
  rest_from i = lines_from ls p i (drop i steps)

  -- so many lines stand before those of the steps from index i on
  pub record Before (i line : ℕ) : Type 0 where
    pub rest : drop line (lines_of ls p steps) ≡ rest_from i
    pub total : length (lines_of ls p steps) ≡ line + length (rest_from i)

  pub before_none : Before 0 0
  unfolding lines_of
  before_none = record { rest = refl; total = omega arith }

  pub rest_next : (i k : ℕ) → i < length steps → k ≡ get_or steps i 0 → rest_from i ≡ lines_at ls p i k ++ rest_from (i + 1)
  unfolding flat_map map_from
  rest_next i k h e =
      let d : drop i steps ≡ k ∷ drop (i + 1) steps = rw (e, add-one, drop-cons steps i 0) in
      ap (lines_from ls p i) d ∙ ap (λ (j : ℕ). lines_at ls p i k ++ lines_from ls p j (drop (i + 1) steps)) (sym (add-one i))

  pub rest_end : (i : ℕ) → length steps ≤ i → rest_from i ≡ []
  unfolding flat_map map_from
  rest_end i h = ap (lines_from ls p i) (drop_of_length-le steps h)

  pub before_next : (i line many k : ℕ) → i < length steps → k ≡ get_or steps i 0 → many ≡ length (lines_at ls p i k) → Before i line → Before (i + 1) (line + many)
  before_next i line many k h e m B =
      let q = rest_next i k h e in
      record {
        rest = sym (drop-drop many line (lines_of ls p steps)) ∙ ap (drop many) (B.rest ∙ q) ∙ drop_at (lines_at ls p i k) (rest_from (i + 1)) many (sym m);
        total = B.total ∙ ap (λ (l : List (List ℕ)). line + length l) q ∙ ap (λ (n : ℕ). line + n) (length-append (lines_at ls p i k) (rest_from (i + 1))) ∙ omega (arith, m);
      }

  -- the line first is one of step i's, or there is none
  pub here : (i line many k first : ℕ) → i < length steps → k ≡ get_or steps i 0 → many ≡ length (lines_at ls p i k) → Before i line → first < line + many → first < length (lines_of ls p steps)
  here i line many k first h e m B l = omega (arith, B.total, m, ap length (rest_next i k h e), length-append (lines_at ls p i k) (rest_from (i + 1)))

  pub not_here : (i line first : ℕ) → length steps ≤ i → Before i line → line ≤ first → length (lines_of ls p steps) ≤ first
  not_here i line first h B l = omega (arith, B.total, ap length (rest_end i h))

  -- what a search for the line of number first tells
  pub record Finds (first index line : ℕ) : Type 0 where
    pub before : Before index line
    pub there : index < length steps → first < length (lines_of ls p steps)
    pub not_there : length steps ≤ index → length (lines_of ls p steps) ≤ first
    pub near : index < length steps → first < line + length (lines_at ls p index (get_or steps index 0))

  pub finds_here : (i line many k first : ℕ) → i < length steps → k ≡ get_or steps i 0 → many ≡ length (lines_at ls p i k) → Before i line → first < line + many → Finds first i line
  finds_here i line many k first h e m B l = record { before = B; there = λ _. here i line many k first h e m B l; not_there = λ n. absurd (omega arith); near = λ _. subst (λ (j : ℕ). first < line + length (lines_at ls p i j)) e (omega (arith, m)) }

  pub finds_none : (i line first : ℕ) → length steps ≤ i → Before i line → line ≤ first → Finds first i line
  finds_none i line first h B l = record { before = B; there = λ n. absurd (omega arith); not_there = λ _. not_here i line first h B l; near = λ n. absurd (omega arith) }

-- ---- a text of which as much was written as fits, and the writing stopped past the end
pub record Covers (text old : List ℕ) (at : ℕ) (new : List ℕ) (next : ℕ) : Type 0 where
  pub table : new ≡ print old at text
  pub place : (next ≡ counted (at + length text)) ⊎ ((length old ≤ next) × (next ≤ at + length text))
  pub here : next < 2 ^ 64

pub covers_all : {text old new : List ℕ} {at next : ℕ} → next < 2 ^ 64 → Emits text old at new next → Covers text old at new next
covers_all h e = record { table = e.table; place = inl e.place; here = h }

pub covers_early : {text old rest table : List ℕ} {at next : ℕ} → Left text old at rest table next → length old ≤ next → Covers text old at table next
unfolding counted
covers_early {text} {old} {rest} {table} {at} {next} l h = record {
  table = sym (l.same ∙ print_past rest table next (omega (arith, l.size)));
  place = inr (h, omega (arith, l.end, l.here));
  here = l.here;
}

-- what is written after it
pub covers_then : {x y old mid new : List ℕ} {at next last : ℕ} → length old < 2 ^ 64 → Covers x old at mid next → Emits y mid next new last → new ≡ print old at (x ++ y)
covers_then {x} {y} {old} {mid} {new} {at} {next} {last} h c e =
    e.table ∙ ⊎_elim
    (λ q. ap (λ (k : ℕ). print mid k y) q ∙ print_counted y mid (at + length x) (omega (arith, m)))
    (λ q. print_past y mid next (omega (arith, m, q.0)) ∙ sym (print_past y mid (at + length x) (omega (arith, m, q.0, q.1))))
    c.place
    ∙ ap (λ (t : List ℕ). print t (at + length x) y) c.table ∙ sym (print_parts x y old at)
  where
    m : length mid ≡ length old
    m = ap length c.table ∙ print_length old at x

-- ---- blank lines
pub blank_next : (k : ℕ) → 0 < k → flat_map ended_line (replicate k blank_line) ≡ spaces 72 ++ ((10 ∷ []) ++ flat_map ended_line (replicate (k - 1) blank_line))
unfolding flat_map ended_line blank_line
blank_next zero h = absurd (omega arith)
blank_next (suc k) h = let e : suc k - 1 ≡ k = omega arith in rw e (append_assoc (spaces 72) (10 ∷ []) (flat_map ended_line (replicate k blank_line)))

pub no_blank : (k : ℕ) → k ≤ 0 → flat_map ended_line (replicate k blank_line) ≡ []
unfolding flat_map
no_blank zero h = refl
no_blank (suc k) h = absurd (omega arith)

-- ---- the bytes of the steps from one on
module _ (ls : List Label) (p : Problem) (steps : List ℕ) where
  pub bytes_next : (i k : ℕ) → i < length steps → k ≡ get_or steps i 0 → flat_map ended_line (rest_from ls p steps i) ≡ flat_map ended_line (lines_at ls p i k) ++ flat_map ended_line (rest_from ls p steps (i + 1))
  bytes_next i k h e = ap (flat_map ended_line) (rest_next ls p steps i k h e) ∙ flat_append ended_line (lines_at ls p i k) (rest_from ls p steps (i + 1))

  pub bytes_end : (i : ℕ) → length steps ≤ i → flat_map ended_line (rest_from ls p steps i) ≡ []
  unfolding flat_map
  bytes_end i h = ap (flat_map ended_line) (rest_end ls p steps i h)

-- ---- the first step of a page, written into a table of its own, of which a part is copied
one_step : (ls : List Label) (p : Problem) (i k : ℕ) → lines_from ls p i (k ∷ []) ≡ lines_at ls p i k
unfolding flat_map map_from
one_step ls p i k = append-nil (lines_at ls p i k)

pub at_lines : (ls : List Label) (p : Problem) (i k : ℕ) → ((j : ℕ) (a : Action) → action_at p j ≡ some a → Shown ls p j a) → i < 10 ^ 7 → Each (λ y. length y ≡ 72) (lines_at ls p i k) × (length (lines_at ls p i k) ≤ 7)
at_lines ls p i k S h = (
  subst (Each (λ y. length y ≡ 72)) (one_step ls p i k) (from_long ls p S i (k ∷ []) (omega arith)),
  omega (arith, from_few ls p S i (k ∷ []), ap length (one_step ls p i k)),
)

pub record Cut (ls : List (List ℕ)) (skip : ℕ) (table : List ℕ) (len : ℕ) : Type 0 where
  pub low : 73 * skip ≤ len
  pub high : len ≤ length table
  pub part : take (len - 73 * skip) (drop (73 * skip) table) ≡ flat_map ended_line (drop skip ls)

pub cut_is : (ls : List (List ℕ)) (skip len : ℕ) (old table : List ℕ) → Each (λ y. length y ≡ 72) ls → length ls ≤ 7 → skip ≤ length ls → length old ≡ 511 → Emits (flat_map ended_line ls) old 0 table len → Cut ls skip table len
unfolding written
cut_is ls skip len old table L f h o E =
    let t : List ℕ = flat_map ended_line ls in
    let n : length t ≡ 73 * length ls = ended_length ls L in
    let e : len ≡ length t = measured (omega arith) E in
    let w : table ≡ t ++ drop (length t) old = whole_written (omega arith) E in
    let a : drop (73 * skip) table ≡ drop (73 * skip) t ++ drop (length t) old = ap (drop (73 * skip)) w ∙ drop-append-le (73 * skip) t (drop (length t) old) (omega arith) in
    let d : length (drop (73 * skip) t) ≡ len - 73 * skip = length-drop (73 * skip) t ∙ omega arith in
    record {
      low = omega arith;
      high = omega (arith, ap length w, length-append t (drop (length t) old));
      part = ap (take (len - 73 * skip)) a ∙ take_at (drop (73 * skip) t) (drop (length t) old) (len - 73 * skip) d ∙ bytes_drop ls L skip;
    }

-- ---- a page's lines: those of its first step from one on, those of the following steps, blank ones
pub body_is : (x y b old mid more new : List ℕ) (begun gone last : ℕ) → length old < 2 ^ 64 → Emits x old 0 mid begun → Covers y mid begun more gone → Emits b more gone new last → new ≡ print old 0 (x ++ (y ++ b))
body_is x y b old mid more new begun gone last h X Y B =
    let m : length mid ≡ length old = ap length X.table ∙ print_length old 0 x in
    covers_then (omega arith) Y B
    ∙ ap (λ (k : ℕ). print mid k (y ++ b)) X.place ∙ print_counted (y ++ b) mid (0 + length x) (omega arith)
    ∙ ap (λ (t : List ℕ). print t (0 + length x) (y ++ b)) X.table ∙ sym (print_parts x (y ++ b) old 0)

module _ (ls : List Label) (p : Problem) (steps : List ℕ) (index skip k : ℕ) (h : index < length steps) (e : k ≡ get_or steps index 0) (s : skip ≤ length (lines_at ls p index k)) where
  pub rest_cut : flat_map ended_line (drop skip (rest_from ls p steps index)) ≡ flat_map ended_line (drop skip (lines_at ls p index k)) ++ flat_map ended_line (rest_from ls p steps (index + 1))
  rest_cut =
      ap (λ (l : List (List ℕ)). flat_map ended_line (drop skip l)) (rest_next ls p steps index k h e)
      ∙ ap (flat_map ended_line) (drop-append-le skip (lines_at ls p index k) (rest_from ls p steps (index + 1)) s)
      ∙ flat_append ended_line (drop skip (lines_at ls p index k)) (rest_from ls p steps (index + 1))

-- ---- the whole page: its lines in 4,307 bytes, and the line with its number after them
pub rest_of : (ls : List Label) (p : Problem) (steps : List ℕ) (index line skip : ℕ) → Before ls p steps index line → drop skip (rest_from ls p steps index) ≡ drop (line + skip) (lines_of ls p steps)
rest_of ls p steps index line skip B = ap (drop skip) (sym B.rest) ∙ drop-drop skip line (lines_of ls p steps)

pub footer_is : (m : ℕ) → ended_line (spaces 66 ++ right 6 (decimal m)) ≡ spaces 66 ++ (right 6 (decimal m) ++ (10 ∷ []))
unfolding ended_line
footer_is m = append_assoc (spaces 66) (right 6 (decimal m)) (10 ∷ [])

blank_page : page_lines [] 0 ≡ replicate 59 blank_line
blank_page = page_lines_are [] 0

blanks_long : length (flat_map ended_line (replicate 59 blank_line)) ≡ 4307
blanks_long = ap (λ (l : List (List ℕ)). length (flat_map ended_line l)) (sym blank_page) ∙ ended_length (page_lines [] 0) (page_lines_long [] (λ z j. absurd (Memᴰ.not-nil j)) 0) ∙ omega (arith, page_lines_count [] 0)

module _ (all : List (List ℕ)) (L : Each (λ y. length y ≡ 72) all) (m : ℕ) (h : suc m < 10 ^ 6) where
  abbrev body : List ℕ
  body = flat_map ended_line (page_lines all m)

  abbrev foot : List ℕ
  foot = ended_line (spaces 66 ++ right 6 (decimal (suc m)))

  body_long : length body ≡ 4307
  body_long = ended_length (page_lines all m) (page_lines_long all L m) ∙ omega (arith, page_lines_count all m)

  foot_long : length foot ≡ 73
  unfolding page_text
  foot_long = omega (arith, body_long, page_length all L m h, length-append body foot)

  -- the bytes that are lent for the lines
  pub body_written : (old new : List ℕ) → length old ≡ 4307 → new ≡ print old 0 (flat_map ended_line (drop (59 * m) all) ++ flat_map ended_line (replicate 59 blank_line)) → new ≡ body
  body_written old new n e =
      let b = blanks_long in
      e ∙ front_written (flat_map ended_line (drop (59 * m) all) ++ flat_map ended_line (replicate 59 blank_line)) old (omega (arith, length-append (flat_map ended_line (drop (59 * m) all)) (flat_map ended_line (replicate 59 blank_line))))
      ∙ ap₂ (λ (k : ℕ) (t : List ℕ). take k (t ++ flat_map ended_line (replicate 59 blank_line))) n (sym (bytes_drop all L (59 * m))) ∙ sym (page_bytes all L m)

  pub page_written : (old new whole : List ℕ) (last : ℕ) → 4380 ≤ length old → new ≡ body ++ drop 4307 old → Emits foot new 4307 whole last → (last ≡ 4380) × (whole ≡ written (page_text all m) old)
  unfolding written page_text counted
  page_written old new whole last r e E =
      let l = ap length e ∙ length-append body (drop 4307 old) in
      let d = length-drop 4307 old in (
        E.place ∙ omega (arith, foot_long),
        E.table ∙ print_is new 4307 foot (omega (arith, foot_long, body_long))
            ∙ ap₂ (λ (x y : List ℕ). x ++ (foot ++ y)) (ap (take 4307) e ∙ take_at body (drop 4307 old) 4307 body_long)
            (ap (drop (4307 + length foot)) e ∙ ap (λ (k : ℕ). drop (k + length foot) (body ++ drop 4307 old)) (sym body_long) ∙ drop-append-add body (drop 4307 old) (length foot) ∙ drop-drop (length foot) 4307 old)
            ∙ sym (append_assoc body foot (drop (4307 + length foot) old)) ∙ ap (λ (k : ℕ). (body ++ foot) ++ drop k old) (sym (length-append body foot ∙ ap (λ (k : ℕ). k + length foot) body_long)),
      )

-- the page once its lines were written into the first 4,307 bytes, and then its last line
page_is : (ls : List Label) (p : Problem) (steps : List ℕ) (index line skip m : ℕ) (old part new whole : List ℕ) (last : ℕ) → Before ls p steps index line → line + skip ≡ 59 * m → suc m < 10 ^ 6
    → ((j : ℕ) (a : Action) → action_at p j ≡ some a → Shown ls p j a) → length steps ≤ 10 ^ 7 → 4380 ≤ length old
    → part ≡ print (take 4307 old) 0 (flat_map ended_line (drop skip (rest_from ls p steps index)) ++ flat_map ended_line (replicate 59 blank_line)) → new ≡ part ++ drop 4307 old
    → Emits (ended_line (spaces 66 ++ right 6 (decimal (suc m)))) new 4307 whole last
    → (last ≡ 4380) × (whole ≡ written (page_text (lines_of ls p steps) m) old)
page_is ls p steps index line skip m old part new whole last B e h S n r q w E =
    let L = lines_long ls p S steps n in
    let d : drop skip (rest_from ls p steps index) ≡ drop (59 * m) (lines_of ls p steps) = rest_of ls p steps index line skip B ∙ ap (λ (k : ℕ). drop k (lines_of ls p steps)) e in
    let t = body_written (lines_of ls p steps) L m h (take 4307 old) part (length-take-le 4307 old (omega arith)) (q ∙ ap (λ (l : List (List ℕ)). print (take 4307 old) 0 (flat_map ended_line l ++ flat_map ended_line (replicate 59 blank_line))) d) in
    page_written (lines_of ls p steps) L m h old new whole last r (w ∙ ap (λ (l : List ℕ). l ++ drop 4307 old) t) E

-- the same, its last line written in three parts
pub page_done : (ls : List Label) (p : Problem) (steps : List ℕ) (index line skip m number : ℕ) (old part new a b whole : List ℕ) (i j last : ℕ) → length old < 2 ^ 64 → Before ls p steps index line → line + skip ≡ 59 * m → number ≡ suc m → suc m < 10 ^ 6
    → ((j : ℕ) (a : Action) → action_at p j ≡ some a → Shown ls p j a) → length steps ≤ 10 ^ 7 → 4380 ≤ length old
    → part ≡ print (take 4307 old) 0 (flat_map ended_line (drop skip (rest_from ls p steps index)) ++ flat_map ended_line (replicate 59 blank_line)) → new ≡ part ++ drop 4307 old
    → Emits (spaces 66) new 4307 a i → Emits (right 6 (decimal number)) a i b j → Emits (10 ∷ []) b j whole last
    → (last ≡ 4380) × (whole ≡ written (page_text (lines_of ls p steps) m) old)
page_done ls p steps index line skip m number old part new a b whole i j last z B e d h S n r q w X Y Z =
    let l : length part ≡ 4307 = ap length q ∙ print_length (take 4307 old) 0 _ ∙ length-take-le 4307 old (omega arith) in
    let k : length new < 2 ^ 64 = omega (arith, ap length w, length-append part (drop 4307 old), length-drop 4307 old) in
    page_is ls p steps index line skip m old part new whole last B e h S n r q w
    (finish (10 ∷ []) (next (right 6 (decimal (suc m))) (10 ∷ []) (next (spaces 66) (right 6 (decimal (suc m)) ++ (10 ∷ [])) (begin new (footer_is (suc m)) k (omega arith)) X) (subst (λ (x : ℕ). Emits (right 6 (decimal x)) a i b j) d Y)) Z)
