-- How long what is printed can be: names and elements have at most 12 bytes, steps of 32 bits at most 10, and any number at most 20.
-- Assumes nothing.
use Rattle.std.specs.Prelude.{ℕ, zero, suc, ◌+◌, ◌*◌, ◌/◌, ◌%◌, ◌^◌, ◌≤◌, ◌<◌, ◌≡◌, Bool, true, false, List, [], ◌∷◌, ◌++◌, map, leb, length, get_or, if◌then◌else◌}
use Rattle.std.proofs.Common.{◌∙◌, add-zero, add_comm, suc-mul, mul-suc, mul-add, mod-lt, arith, length-append}
use Rattle.definitions.specs.Lists.{flat_map, from, below, sum}
use Rattle.definitions.specs.Sheet.Text.{bytes, decimal_in, decimal}
use Rattle.definitions.specs.Problem.Atoms.{places_of}
use Rattle.definitions.specs.Reply.Outcome.{Sizes}
use Rattle.definitions.specs.Reply.Desk.{print_line, sizes_line, step_line}
use Rattle.laws.specs.Decimals.{decimal_length}
use Rattle.read_names.specs.declared.Signature.{Signature}
use Rattle.read_names.specs.Signatures.{SoundSignature}
use Rattle.print_line.specs.Lines.{field, no_is, ok_is, step_is, sizes_is, count_is}
use Rattle.print_report.specs.Report.{name_at, count_at, counts}

-- ---- numbers

digits_most : (f k : ℕ) → length (decimal_in f k) ≤ f
unfolding decimal_in
digits_most zero k = omega arith
digits_most (suc f) k = by_test (leb k 9) (digits_most f (k / 10))
  where
    by_test : (b : Bool) → length (decimal_in f (k / 10)) ≤ f → length (if b then (k + 48) ∷ [] else decimal_in f (k / 10) ++ ((k % 10 + 48) ∷ [])) ≤ suc f
    by_test true h = omega arith
    by_test false h = rw (length-append (decimal_in f (k / 10)) ((k % 10 + 48) ∷ [])) (omega arith)

field_most : (k : ℕ) → length (field k) ≤ 21
unfolding field decimal
field_most k = let h = digits_most 20 k in omega arith

field_short : (n k : ℕ) → k < 10 ^ suc n → length (field k) ≤ suc (suc n)
unfolding field
field_short n k h = let l = decimal_length n k h in omega arith

-- ---- lines

pub no_short : (k place : ℕ) → length (print_line (bytes "no" ∷ decimal k ∷ decimal place ∷ [])) ≤ 45
no_short k place =
    let a = field_most k in
    let b = field_most place in
    let c = length-append (field k) (field place ++ (10 ∷ [])) in
    let d = length-append (field place) (10 ∷ []) in
    rw (no_is k place) (omega arith)

pub ok_short : (k : ℕ) → length (print_line (bytes "ok" ∷ decimal k ∷ [])) ≤ 24
ok_short k =
    let a = field_most k in
    let c = length-append (field k) (10 ∷ []) in
    rw (ok_is k) (omega arith)

pub sizes_short : (s : Sizes) → length (sizes_line s) ≤ 90
sizes_short s =
    let a = field_most s.elements in
    let b = field_most s.atom_count in
    let c = field_most s.action_count in
    let d = field_most s.step_bound in
    let e = length-append (field s.elements) (field s.atom_count ++ (field s.action_count ++ (field s.step_bound ++ (10 ∷ [])))) in
    let f = length-append (field s.atom_count) (field s.action_count ++ (field s.step_bound ++ (10 ∷ []))) in
    let g = length-append (field s.action_count) (field s.step_bound ++ (10 ∷ [])) in
    let h = length-append (field s.step_bound) (10 ∷ []) in
    rw (sizes_is s) (omega arith)

count_short : (name : List ℕ) (k : ℕ) → length name ≤ 12 → length (print_line (bytes "count" ∷ name ∷ decimal k ∷ [])) ≤ 40
count_short name k l =
    let a = field_most k in
    let c = length-append name (field k ++ (10 ∷ [])) in
    let d = length-append (field k) (10 ∷ []) in
    rw (count_is name k) (omega arith)

step_short : (k : ℕ) → k < 2 ^ 32 → length (step_line k) ≤ 16
step_short k h =
    let a = field_short 9 k (omega arith) in
    let c = length-append (field k) (10 ∷ []) in
    rw (step_is k) (omega arith)

places_short : (say : ℕ → List ℕ) → ((x : ℕ) → x < 16 → length (say x) ≤ 12) → (f : List ℕ) (n k row : ℕ) → 0 < n → n ≤ 16 → length (print_line (f ∷ map say (places_of n k row))) ≤ length f + 13 * k + 1
unfolding print_line places_of
places_short say s f n zero row h l = let a = length-append f (10 ∷ []) in omega arith
places_short say s f n (suc k) row h l =
    let m : row / n ^ k % n < n = mod-lt (row / n ^ k) h in
    let a = s (row / n ^ k % n) (omega arith) in
    let b = places_short say s (say (row / n ^ k % n)) n k row h l in
    let c = length-append f (9 ∷ print_line (say (row / n ^ k % n) ∷ map say (places_of n k row))) in
    omega arith

pub pick_short : (say : ℕ → List ℕ) → ((x : ℕ) → x < 16 → length (say x) ≤ 12) → (name : List ℕ) (n k row : ℕ) → length name ≤ 12 → 0 < n → n ≤ 16 → k ≤ 3
    → length (print_line (bytes "pick" ∷ name ∷ map say (places_of n k row))) ≤ 57
unfolding print_line
pick_short say s name n k row l p h m =
    let a = places_short say s name n k row p h in
    let c = length-append (bytes "pick") (9 ∷ print_line (name ∷ map say (places_of n k row))) in
    omega arith

-- ---- lines one after another

flat_short : (f : ℕ → List ℕ) (b a m : ℕ) → ((i : ℕ) → i < m → length (f (a + i)) ≤ b) → length (flat_map f (from a m)) ≤ m * b
unfolding flat_map from
flat_short f b a zero h = omega arith
flat_short f b a (suc m) h =
    let r = flat_short f b (suc a) m (λ i l. let e : a + suc i ≡ suc a + i = omega arith in rw e at (h (suc i) (omega arith))) in
    let s : length (f a) ≤ b = rw (add-zero a) at (h 0 (omega arith)) in
    let c = length-append (f a) (flat_map f (from (suc a) m)) in
    let z : suc m * b ≡ b + m * b = suc-mul m b ∙ add_comm (m * b) b in
    omega arith

-- lines of at most b bytes each; lists of them, by how many lines each has
pub flat_most : (f : ℕ → List ℕ) (b : ℕ) (l : List ℕ) → ((x : ℕ) → length (f x) ≤ b) → length (flat_map f l) ≤ b * length l
unfolding flat_map
flat_most f b [] h = omega arith
flat_most f b (x ∷ l) h =
    let r = flat_most f b l h in
    let c = length-append (f x) (flat_map f l) in
    let z : b * suc (length l) ≡ b * length l + b = mul-suc b (length l) in
    omega (arith, h x)

pub sum_most : (f : ℕ → List ℕ) (c : ℕ → ℕ) (b a m : ℕ) → ((i : ℕ) → i < m → length (f (a + i)) ≤ b * c (a + i)) → length (flat_map f (from a m)) ≤ b * sum (map c (from a m))
unfolding flat_map from sum
sum_most f c b a zero h = omega arith
sum_most f c b a (suc m) h =
    let r = sum_most f c b (suc a) m (λ i l. let e : a + suc i ≡ suc a + i = omega arith in rw e at (h (suc i) (omega arith))) in
    let s : length (f a) ≤ b * c a = rw (add-zero a) at (h 0 (omega arith)) in
    let d = length-append (f a) (flat_map f (from (suc a) m)) in
    let z = mul-add b (c a) (sum (map c (from (suc a) m))) in
    omega arith

pub steps_short : (ks : List ℕ) → ((i : ℕ) → get_or ks i 0 < 2 ^ 32) → length (flat_map step_line ks) ≤ 16 * length ks
unfolding flat_map
steps_short [] h = omega arith
steps_short (k ∷ ks) h =
    let a = step_short k (h 0) in
    let b = steps_short ks (λ i. h (suc i)) in
    let c = length-append (step_line k) (flat_map step_line ks) in
    omega arith

pub counts_short : (q : List ℕ) (g : Signature) (n : ℕ) (words : List ℕ) → SoundSignature q g → ((j : ℕ) → j < g.chosen → length (name_at q g (g.rels + j)) ≤ 12) → length (counts q g n words) ≤ 160
unfolding counts count_at below
counts_short q g n words s named = let h = flat_short (count_at q g n words) 40 0 g.chosen (λ j h. let z : 0 + j ≡ j = omega arith in rw z (count_short (name_at q g (g.rels + j)) _ (named j h))) in let c = s.chosen_le in omega arith
