-- Row order for any arity: `row_of` and `places_of` are inverse.
use Rattle.std.specs.Prelude.{ℕ, zero, suc, ◌+◌, ◌*◌, ◌/◌, ◌%◌, ◌^◌, ◌<◌, ◌≡◌, refl, List, [], ◌∷◌, ◌++◌, T, ltb, length}
use Rattle.std.proofs.Common.{sym, ap, ap₂, ◌∙◌, arith, pow-suc, div-add-mod', mod-lt, mod-eq_of_lt, div-lt_iff_lt-mul, mul_assoc, one-mul, div-one, mul-one, zero-mul, add-mul, add-one, ltb→lt, lt→ltb, length-append}
use Rattle.std.proofs.Math.Nat.{pow-zero, pow-succ', mod-add-div', add-mul-div_right, add-mul-mod_self_right, one-le-pow}
use Rattle.std.proofs.Math.Arith.{digits_lt, digits_div}
use Rattle.definitions.specs.Lists.{all}
use Rattle.definitions.specs.Problem.Atoms.{row_of, places_of}
use Rattle.laws.specs.Booleans.{and_T, T_and_l, T_and_r}

-- every place is an element
abbrev pub Below : ℕ → List ℕ → Type 0
Below n xs = T (all (λ x. ltb x n) xs)

pub below_cons : (n x : ℕ) (xs : List ℕ) → Below n (x ∷ xs) → (x < n) × Below n xs
unfolding all
below_cons n x xs t = (ltb→lt x n (T_and_l (ltb x n) _ t), T_and_r (ltb x n) _ t)

pub cons_below : (n x : ℕ) (xs : List ℕ) → x < n → Below n xs → Below n (x ∷ xs)
unfolding all
cons_below n x xs h t = and_T (ltb x n) _ (lt→ltb x n h) t

pub row_lt : (n : ℕ) (xs : List ℕ) → Below n xs → row_of n xs < n ^ length xs
unfolding row_of
row_lt n [] b = rw pow-zero (omega arith)
row_lt n (x ∷ xs) b = let q = below_cons n x xs b in rw pow-succ' (digits_lt q.0 (row_lt n xs q.1))

pub length_places : (n k row : ℕ) → length (places_of n k row) ≡ k
unfolding places_of
length_places n zero row = refl
length_places n (suc k) row = ap suc (length_places n k row)

pub places_below : (n k row : ℕ) → 0 < n → Below n (places_of n k row)
unfolding places_of all
places_below n zero row h = tt
places_below n (suc k) row h = cons_below n (row / n ^ k % n) (places_of n k row) (mod-lt (row / n ^ k) h) (places_below n k row h)

-- what lies above the k lowest places does not matter
pub places_shift : (n k row m : ℕ) → 0 < n → places_of n k (row + m * n ^ k) ≡ places_of n k row
unfolding places_of
places_shift n zero row m h = refl
places_shift n (suc k) row m h =
    let e : m * n ^ suc k ≡ m * n * n ^ k = ap (λ (x : ℕ). m * x) (pow-succ' n k) ∙ sym (mul_assoc m n (n ^ k)) in
    let p : 0 < n ^ k = one-le-pow k n h in
    ap₂ ◌∷◌ (ap (λ (x : ℕ). (row + x) / n ^ k % n) e ∙ ap (λ (x : ℕ). x % n) (add-mul-div_right row (m * n) p) ∙ add-mul-mod_self_right (row / n ^ k) m n)
    (ap (λ (x : ℕ). places_of n k (row + x)) e ∙ places_shift n k row (m * n) h)

places_mod : (n k row : ℕ) → 0 < n → places_of n k row ≡ places_of n k (row % n ^ k)
places_mod n k row h = ap (places_of n k) (sym (mod-add-div' row (n ^ k))) ∙ places_shift n k (row % n ^ k) (row / n ^ k) h

pub row_places : (n k row : ℕ) → 0 < n → row < n ^ k → row_of n (places_of n k row) ≡ row
unfolding places_of row_of
row_places n zero row h l = let e : n ^ 0 ≡ 1 = pow-zero n in omega arith
row_places n (suc k) row h l =
    let p : 0 < n ^ k = one-le-pow k n h in
    let l' : row < n * n ^ k = rw pow-succ' at l in
    let q : row / n ^ k < n = (div-lt_iff_lt-mul p).1 l' in
    ap₂ ◌+◌ (ap₂ (λ (x y : ℕ). x * n ^ y) (mod-eq_of_lt q) (length_places n k row)) (ap (row_of n) (places_mod n k row h) ∙ row_places n k (row % n ^ k) h (mod-lt row p))
    ∙ div-add-mod' row (n ^ k)

pub places_row : (n : ℕ) (xs : List ℕ) → 0 < n → Below n xs → places_of n (length xs) (row_of n xs) ≡ xs
unfolding places_of row_of
places_row n [] h b = refl
places_row n (x ∷ xs) h b =
    let q = below_cons n x xs b in
    let l : row_of n xs < n ^ length xs = row_lt n xs q.1 in
    let s : x * n ^ length xs + row_of n xs ≡ row_of n xs + x * n ^ length xs = omega arith in
    ap₂ ◌∷◌ (ap (λ (z : ℕ). z % n) (digits_div x l) ∙ mod-eq_of_lt q.0)
    (ap (places_of n (length xs)) s ∙ places_shift n (length xs) (row_of n xs) x h ∙ places_row n xs h q.1)

-- a row of two places
power_one : (n : ℕ) → n ^ 1 ≡ n
power_one n = pow-suc n 0 ∙ ap (λ (x : ℕ). x * n) (pow-zero n) ∙ one-mul n

pub square : (n : ℕ) → n ^ 2 ≡ n * n
square n = pow-suc n 1 ∙ ap (λ (x : ℕ). x * n) (power_one n)

pub pair_places : (n row : ℕ) → 0 < n → row < n ^ 2 → (places_of n 2 row ≡ row / n ∷ row % n ∷ []) × (row / n < n)
unfolding places_of
pair_places n row h l =
    let e = power_one n in
    let z : n ^ 0 ≡ 1 = pow-zero n in
    let l' : row < n * n = rw (square n) at l in
    let q : row / n < n = (div-lt_iff_lt-mul h).1 l' in
    (ap₂ (λ (x y : ℕ). x ∷ y ∷ []) (ap (λ (x : ℕ). row / x % n) e ∙ mod-eq_of_lt q) (ap (λ (x : ℕ). row / x % n) z ∙ ap (λ (x : ℕ). x % n) (div-one row)), q)

-- ---- rows with one place more
pub row_snoc : (n : ℕ) (xs : List ℕ) (z : ℕ) → row_of n (xs ++ (z ∷ [])) ≡ row_of n xs * n + z
unfolding row_of
row_snoc n [] z = let e = pow-zero n in let m = mul-one z in let o = zero-mul n in rw e (omega arith)
row_snoc n (x ∷ xs) z =
    let e : length (xs ++ (z ∷ [])) ≡ suc (length xs) = length-append xs (z ∷ []) ∙ add-one (length xs) in
    let r = row_snoc n xs z in
    let a : x * n ^ length (xs ++ (z ∷ [])) ≡ x * n ^ length xs * n = ap (λ (k : ℕ). x * n ^ k) e ∙ ap (λ (y : ℕ). x * y) (pow-suc n (length xs)) ∙ sym (mul_assoc x (n ^ length xs) n) in
    let b : (x * n ^ length xs + row_of n xs) * n ≡ x * n ^ length xs * n + row_of n xs * n = add-mul (x * n ^ length xs) (row_of n xs) n in
    omega arith

pub below_append : (n : ℕ) (xs ys : List ℕ) → Below n xs → Below n ys → Below n (xs ++ ys)
unfolding all
below_append n [] ys a b = b
below_append n (x ∷ xs) ys a b = let q = below_cons n x xs a in cons_below n x (xs ++ ys) q.0 (below_append n xs ys q.1 b)

pub places_snoc : (n k row z : ℕ) → 0 < n → row < n ^ k → z < n → places_of n (suc k) (row * n + z) ≡ places_of n k row ++ (z ∷ [])
unfolding all
places_snoc n k row z h l g =
    let xs : List ℕ = places_of n k row in
    let a : row_of n (xs ++ (z ∷ [])) ≡ row * n + z = row_snoc n xs z ∙ ap (λ (y : ℕ). y * n + z) (row_places n k row h l) in
    let b : length (xs ++ (z ∷ [])) ≡ suc k = length-append xs (z ∷ []) ∙ add-one (length xs) ∙ ap suc (length_places n k row) in
    ap₂ (places_of n) (sym b) (sym a) ∙ places_row n (xs ++ (z ∷ [])) h (below_append n xs (z ∷ []) (places_below n k row h) (cons_below n z [] g tt))
