-- Laws of values and weights of levels.
use Rattle.std.specs.Prelude.{◌≡◌, refl, Bool, true, false, List, [], ◌∷◌, ◌++◌, map, ℕ, zero, suc, ◌+◌, ◌-◌, ◌*◌, ◌/◌, ◌%◌, ◌^◌, ◌≤◌, ◌<◌, eqb, length, get_or, take, drop, set, if◌then◌else◌}
use Rattle.std.proofs.Common.{sym, ap, ap₂, ◌∙◌, subst, pow-suc, add-mul, mul-add, div-one, mul-le-mul, mul-zero, add-one, arith, eq-eqb, ne_eqb, length-append, take-suc, drop-cons, get_or-take, get_or-set_same, get_or-set_other, length-take-le}
use Rattle.std.proofs.Math.Path.{fun_ext}
use Rattle.std.proofs.Math.Nat.{pow-zero, pow-le-pow_left, pow-le-pow_right, div-div-eq-div-mul}
use Rattle.std.proofs.Math.Decide.{ℕ_discrete, dec_lt}
use Rattle.std.proofs.lemmas.List.{length-map}
use Rattle.std.proofs.Math.ListN.{get_or-map}
use Rattle.std.proofs.Math.Seq.{set_out}
use Rattle.definitions.specs.Problem.Atoms.{row_of, places_of}
use Rattle.definitions.specs.Problem.Actions.{Values, values_in, with_value}
use Rattle.rule_nodes.specs.Tables.{Levels}
use Rattle.rows.specs.Values.{value_in, Within, Most, weight_of, weighed}

-- ---- powers
pub pow_first : (n : ℕ) → 1 ≡ n ^ 0
pow_first n = sym (pow-zero n)

pub pow_next : (n i r : ℕ) → r ≡ n ^ i → r * n ≡ n ^ (i + 1)
pow_next n i r e = rw (add-one, pow-suc, e)

pub pow_below : (n i k m : ℕ) → 0 < n → i < k → n ^ k < m → n ^ (i + 1) < m
pow_below n i k m h l b = let q : n ^ (i + 1) ≤ n ^ k = pow-le-pow_right h (omega arith) in omega arith

-- ---- values
pub set_value : (env : List ℕ) (d x : ℕ) → d < length env → value_in (set env d x) ≡ with_value (value_in env) d x
unfolding value_in with_value
set_value env d x h = fun_ext (λ l. by_number l (ℕ_discrete l d))
  where
    by_number : (l : ℕ) → Dec (l ≡ d) → value_in (set env d x) l ≡ with_value (value_in env) d x l
    by_number l (yes e) = rw (eq-eqb l d e, e) (get_or-set_same env d x 0 h)
    by_number l (no k) = rw (ne_eqb l d k) (get_or-set_other env d l x 0 k)

pub within_set : (n : ℕ) (env : List ℕ) (d x : ℕ) → x < n → Within n env → Within n (set env d x)
within_set n env d x h w l = by_number l (ℕ_discrete l d) (dec_lt d (length env))
  where
    by_number : (l : ℕ) → Dec (l ≡ d) → Dec (d < length env) → get_or (set env d x) l 0 < n
    by_number l (yes e) (yes k) = rw (e, get_or-set_same env d x 0 k) h
    by_number l (yes e) (no k) = rw (set_out env d x (omega arith)) (w l)
    by_number l (no k) b = rw (get_or-set_other env d l x 0 k) (w l)

zeros : (l : ℕ) → ◌≡◌ {A = ℕ} (get_or (0 ∷ 0 ∷ 0 ∷ 0 ∷ []) l 0) 0
zeros zero = refl
zeros (suc zero) = refl
zeros (suc (suc zero)) = refl
zeros (suc (suc (suc zero))) = refl
zeros (suc (suc (suc (suc l)))) = refl

pub within_zeros : (n : ℕ) → 0 < n → Within n (0 ∷ 0 ∷ 0 ∷ 0 ∷ [])
within_zeros n h l = rw (zeros l) h

pub value_zeros : value_in (0 ∷ 0 ∷ 0 ∷ 0 ∷ []) ≡ (λ _. 0)
unfolding value_in
value_zeros = fun_ext zeros

values_nil : (ls : List ℕ) (l : ℕ) → values_in ls [] l ≡ 0
unfolding values_in
values_nil [] l = refl
values_nil (d ∷ ds) l = refl

places_zero : (n row : ℕ) → places_of n 0 row ≡ []
unfolding places_of
places_zero n row = refl

places_suc : (n k row : ℕ) → places_of n (suc k) row ≡ row / n ^ k % n ∷ places_of n k row
unfolding places_of
places_suc n k row = refl

values_cons : (d x : ℕ) (ds xs : List ℕ) → values_in (d ∷ ds) (x ∷ xs) ≡ with_value (values_in ds xs) d x
unfolding values_in with_value
values_cons d x ds xs = refl

pub values_none : (n row w : ℕ) (ls : List ℕ) → value_in (0 ∷ 0 ∷ 0 ∷ 0 ∷ []) ≡ values_in (drop w (take w ls)) (places_of n (w - w) row)
values_none n row w ls =
    let e : w - w ≡ 0 = omega arith in
    value_zeros ∙ rw (e, places_zero) (fun_ext (λ l. sym (values_nil (drop w (take w ls)) l)))

pub rest_none : (n row w : ℕ) → row ≡ row / n ^ (w - w)
rest_none n row w = let e : w - w ≡ 0 = omega arith in rw (e, pow-zero, div-one)

pub values_next : (n w i row rest : ℕ) (out ls : List ℕ) → 0 < i → i ≤ w → w ≤ length ls → get_or ls (i - 1) 0 < length out → rest ≡ row / n ^ (w - i)
    → value_in out ≡ values_in (drop i (take w ls)) (places_of n (w - i) row)
    → (value_in (set out (get_or ls (i - 1) 0) (rest % n)) ≡ values_in (drop (i - 1) (take w ls)) (places_of n (w - (i - 1)) row)) × (rest / n ≡ row / n ^ (w - (i - 1)))
values_next n w zero row rest out ls p h l k e v = absurd (omega arith)
values_next n w (suc j) row rest out ls p h l k e v =
    let one : suc j - 1 ≡ j = omega arith in
    let d : w - j ≡ suc (w - suc j) = omega arith in
    rw one (step (rw one at k) (w - j) d, rw (e, d, pow-suc, div-div-eq-div-mul))
  where
    step : get_or ls j 0 < length out → (m : ℕ) → m ≡ suc (w - suc j) → value_in (set out (get_or ls j 0) (rest % n)) ≡ values_in (drop j (take w ls)) (places_of n m row)
    step k' m d =
        let t : drop j (take w ls) ≡ get_or ls j 0 ∷ drop (suc j) (take w ls) =
        drop-cons (take w ls) j 0 (omega (arith, length-take-le w ls l)) ∙ ap (λ (x : ℕ). x ∷ drop (suc j) (take w ls)) (get_or-take w ls j 0 (omega arith)) in
        set_value out (get_or ls j 0) (rest % n) k'
        ∙ ap₂ (λ (f : Values) (x : ℕ). with_value f (get_or ls j 0) (x % n)) v e
        ∙ sym (values_cons (get_or ls j 0) (row / n ^ (w - suc j) % n) (drop (suc j) (take w ls)) (places_of n (w - suc j) row))
        ∙ ap₂ values_in (sym t) (sym (places_suc n (w - suc j) row) ∙ ap (λ (x : ℕ). places_of n x row) (sym d))

pub values_all : (n w i row : ℕ) (out ls : List ℕ) → i ≤ 0 → value_in out ≡ values_in (drop i (take w ls)) (places_of n (w - i) row) → value_in out ≡ values_in (take w ls) (places_of n w row)
values_all n w i row out ls h e =
    let z : i ≡ 0 = omega arith in
    let y : w - i ≡ w = omega arith in
    rw z at (rw y at e)

-- ---- weights
abbrev one : ℕ → ℕ → ℕ
one l x = if eqb l x then 1 else 0

weight_snoc : (n : ℕ) (xs : List ℕ) (x l : ℕ) → weight_of n (xs ++ (x ∷ [])) l ≡ weight_of n xs l * n + one l x
unfolding weight_of
weight_snoc n [] x l = by_test (eqb l x)
  where
    by_test : (b : Bool) → (if b then n ^ 0 else 0) + 0 ≡ 0 * n + (if b then 1 else 0)
    by_test true = let e : n ^ 0 ≡ 1 = pow-zero n in omega arith
    by_test false = omega arith
weight_snoc n (y ∷ xs) x l =
    let e : length (xs ++ (x ∷ [])) ≡ suc (length xs) = length-append xs (x ∷ []) ∙ omega arith in
    rw (weight_snoc n xs x l, e, add-mul) (by_test (eqb l y))
  where
    by_test : (b : Bool) → (if b then n ^ suc (length xs) else 0) + (weight_of n xs l * n + one l x) ≡ (if b then n ^ length xs else 0) * n + weight_of n xs l * n + one l x
    by_test true = let e = pow-suc n (length xs) in omega arith
    by_test false = omega arith

weight_lt : (n : ℕ) (xs : List ℕ) (l : ℕ) → 0 < n → weight_of n xs l < suc n ^ length xs
unfolding weight_of
weight_lt n [] l h = let e : suc n ^ 0 ≡ 1 = pow-zero (suc n) in omega arith
weight_lt n (x ∷ xs) l h =
    let e : suc n ^ suc (length xs) ≡ suc n ^ length xs * suc n = pow-suc (suc n) (length xs) in
    let m : suc n ^ length xs * suc n ≡ suc n ^ length xs * n + suc n ^ length xs = omega arith in
    let a : n ^ length xs ≤ suc n ^ length xs = pow-le-pow_left (omega arith) (length xs) in
    let q : suc n ^ length xs * 1 ≤ suc n ^ length xs * n = mul-le-mul (omega arith) h in
    let r = weight_lt n xs l h in
    by_test (eqb l x) (omega arith) (omega arith)
  where
    by_test : (b : Bool) → n ^ length xs + weight_of n xs l < suc n ^ suc (length xs) → weight_of n xs l < suc n ^ suc (length xs) → (if b then n ^ length xs else 0) + weight_of n xs l < suc n ^ suc (length xs)
    by_test true a b = a
    by_test false a b = omega arith

pub weight_most : (n k : ℕ) (ls : List ℕ) → 0 < n → n ≤ 64 → k ≤ 4 → k ≤ length ls → (l : ℕ) → weight_of n (take k ls) l ≤ 65 ^ 4
weight_most n k ls h a b c l =
    let e : length (take k ls) ≡ k = length-take-le k ls c in
    let r : weight_of n (take k ls) l < suc n ^ k = rw e at (weight_lt n (take k ls) l h) in
    let p : suc n ^ k ≤ 65 ^ k = pow-le-pow_left (omega arith) k in
    let q : 65 ^ k ≤ 65 ^ 4 = pow-le-pow_right (omega arith) b in
    omega arith

pub weight_none : (n : ℕ) (ls : List ℕ) → value_in (0 ∷ 0 ∷ 0 ∷ 0 ∷ []) ≡ weight_of n (take 0 ls)
unfolding weight_of
weight_none n ls = value_zeros

times_at : (n : ℕ) (w : List ℕ) (l : ℕ) → get_or (map (λ (x : ℕ). x * n) w) l 0 ≡ get_or w l 0 * n
times_at n w l =
    let z : 0 * n ≡ 0 = omega arith in
    ap (get_or (map (λ (x : ℕ). x * n) w) l) (sym z) ∙ get_or-map (λ (x : ℕ). x * n) w l 0

pub weight_next : (n i : ℕ) (w ls : List ℕ) → i < length ls → get_or ls i 0 < length w → value_in w ≡ weight_of n (take i ls)
    → value_in (set (map (λ (x : ℕ). x * n) w) (get_or ls i 0) (get_or (map (λ (x : ℕ). x * n) w) (get_or ls i 0) 0 + 1)) ≡ weight_of n (take (i + 1) ls)
unfolding value_in
weight_next n i w ls h k e = fun_ext (λ l. by_number l (ℕ_discrete l (get_or ls i 0)))
  where
    by_number : (l : ℕ) → Dec (l ≡ get_or ls i 0) → value_in (set (map (λ (x : ℕ). x * n) w) (get_or ls i 0) (get_or (map (λ (x : ℕ). x * n) w) (get_or ls i 0) 0 + 1)) l ≡ weight_of n (take (i + 1) ls) l
    by_number l (yes q) =
        ap (λ (d : ℕ). get_or (set (map (λ (x : ℕ). x * n) w) d (get_or (map (λ (x : ℕ). x * n) w) d 0 + 1)) l 0) (sym q)
        ∙ get_or-set_same (map (λ (x : ℕ). x * n) w) l _ 0 (omega (arith, length-map w (λ (x : ℕ). x * n)))
        ∙ ap (λ (x : ℕ). x + 1) (times_at n w l) ∙ ap₂ (λ (x y : ℕ). x * n + y) (ap (λ (f : Values). f l) e) (sym (ap (λ (b : Bool). if b then 1 else 0) (eq-eqb l (get_or ls i 0) q)))
        ∙ sym (weight_snoc n (take i ls) (get_or ls i 0) l) ∙ rw (add-one, take-suc ls i 0 h) refl
    by_number l (no q) =
        get_or-set_other (map (λ (x : ℕ). x * n) w) (get_or ls i 0) l _ 0 q ∙ times_at n w l
        ∙ ap (λ (x : ℕ). x * n) (ap (λ (f : Values). f l) e) ∙ sym (add_none _)
        ∙ ap (λ (y : ℕ). weight_of n (take i ls) l * n + y) (sym (ap (λ (b : Bool). if b then 1 else 0) (ne_eqb l (get_or ls i 0) q)))
        ∙ sym (weight_snoc n (take i ls) (get_or ls i 0) l) ∙ rw (add-one, take-suc ls i 0 h) refl
      where
        add_none : (x : ℕ) → x + 0 ≡ x
        add_none x = omega arith

-- the row of the values of levels is linear in them
levels_of : (k : ℕ) (ls : List ℕ) → Levels ls → Levels (take k ls)
levels_of zero ls h i = omega arith
levels_of (suc k) [] h i = h i
levels_of (suc k) (x ∷ xs) h zero = h 0
levels_of (suc k) (x ∷ xs) h (suc i) = levels_of k xs (λ j. h (suc j)) i

row_levels : (n : ℕ) (e : Values) (ls : List ℕ) → Levels ls → row_of n (map e ls) ≡ weighed e (weight_of n ls)
unfolding row_of weight_of
row_levels n e [] h = omega arith
row_levels n e (x ∷ xs) h = rw (length-map xs e, row_levels n e xs (λ i. h (suc i))) (by_number x (h 0))
  where
    P : ℕ
    P = n ^ length xs

    by_number : (x : ℕ) → x < 4 → e x * P + weighed e (weight_of n xs)
        ≡ e 0 * ((if eqb 0 x then P else 0) + weight_of n xs 0) + (e 1 * ((if eqb 1 x then P else 0) + weight_of n xs 1) + (e 2 * ((if eqb 2 x then P else 0) + weight_of n xs 2) + e 3 * ((if eqb 3 x then P else 0) + weight_of n xs 3)))
    by_number zero l = rw mul-add (omega arith)
    by_number (suc zero) l = rw mul-add (omega arith)
    by_number (suc (suc zero)) l = rw mul-add (omega arith)
    by_number (suc (suc (suc zero))) l = rw mul-add (omega arith)
    by_number (suc (suc (suc (suc x)))) l = absurd (omega arith)

pub row_weighed : (n : ℕ) (e : Values) (k : ℕ) (ls : List ℕ) → Levels ls → row_of n (map e (take k ls)) ≡ weighed e (weight_of n (take k ls))
row_weighed n e k ls h = row_levels n e (take k ls) (levels_of k ls h)

pub times_most : (x n : ℕ) → x ≤ 2 ^ 32 → n ≤ 64 → x * n ≤ 2 ^ 32 * 64
times_most x n a b = mul-le-mul a b

-- ---- the search
pub stride_le : (s a b : ℕ) → a ≤ b → s * a ≤ s * b
stride_le s a b h = let r : s ≤ s = omega arith in mul-le-mul r h

pub locate_start : (t : List ℕ) (at s count k : ℕ) → get_or t at 0 ≤ k → k < get_or t (at + s * count) 0 → (0 < count) × (get_or t (at + s * 0) 0 ≤ k)
locate_start t at s zero k a b =
    let e : at + s * 0 ≡ at = let z = mul-zero s in omega arith in
    let q : k < get_or t at 0 = rw e at b in
    absurd (omega arith)
locate_start t at s (suc c) k a b = let e : at + s * 0 ≡ at = let z = mul-zero s in omega arith in (omega arith, rw e a)

pub map_four : (n : ℕ) (w : List ℕ) → length w ≡ 4 → (get_or w 0 0 * n) ∷ (get_or w 1 0 * n) ∷ (get_or w 2 0 * n) ∷ (get_or w 3 0 * n) ∷ [] ≡ map (λ (x : ℕ). x * n) w
map_four n (a ∷ b ∷ c ∷ d ∷ []) e = refl
map_four n [] e = absurd (omega arith)
map_four n (a ∷ []) e = absurd (omega arith)
map_four n (a ∷ b ∷ []) e = absurd (omega arith)
map_four n (a ∷ b ∷ c ∷ []) e = absurd (omega arith)
map_four n (a ∷ b ∷ c ∷ d ∷ x ∷ xs) e = absurd (omega arith)

pub value_most : (w : List ℕ) (f : Values) (b : ℕ) → value_in w ≡ f → ((l : ℕ) → f l ≤ b) → Most w b
unfolding value_in
value_most w f b e h l = subst (λ (g : Values). g l ≤ b) (sym e) (h l)

-- a turn of the loop that weighs levels: what stands before it is small, and so is its product
pub weight_turn : (n i : ℕ) (w t ls : List ℕ) → length ls ≡ 4 → length w ≡ 4 → i < 4 → Levels ls → t ≡ map (λ (x : ℕ). x * n) w → value_in w ≡ weight_of n (take i ls)
    → value_in (set t (get_or ls i 0) (get_or t (get_or ls i 0) 0 + 1)) ≡ weight_of n (take (i + 1) ls)
weight_turn n i w t ls a b h l e q = rw e (weight_next n i w ls (omega arith) (omega (arith, l i)) q)

pub product_most : (n l : ℕ) (w t : List ℕ) → n ≤ 64 → t ≡ map (λ (x : ℕ). x * n) w → Most w (65 ^ 4) → get_or t l 0 ≤ 65 ^ 4 * 64
product_most n l w t h e m = rw (e, times_at n w l) (mul-le-mul (m l) h)
