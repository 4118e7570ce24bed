-- Laws of lines written one after another.
use Rattle.std.specs.Prelude.{◌≡◌}
use Rattle.std.proofs.Math.Path.{refl, sym, ap, ap₂}
use Rattle.std.proofs.Common.{◌∙◌, mul-zero, add-zero, mul-le-mul, add-one, take-append-drop, length-take-le}
use mathlib.Core.List.{List, [], ◌∷◌, ◌++◌, append_assoc}
use Prim.Native.Nat.{ℕ, zero, suc, ◌+◌, ◌-◌, ◌*◌, ◌≤◌, ◌<◌}
use Rattle.std.proofs.Math.Nat.{mul-suc}
use Rattle.std.proofs.Math.Decide.{dec_lt}
use native.Mathlib.Omega.{arith}
use Rattle.std.proofs.Math.ListN.{length, get_or, take, drop, length-append, length-drop, get_or-append, get_or-eq_default}
use Rattle.std.proofs.Math.Seq.{take-length, drop-append-add, take_at, get_or-append-add, get_or-take, get_or-drop, drop-drop, paste}
use Rattle.rows.specs.Values.{Most}
use Rattle.problem_layout.specs.Filled.{splice, tab}

-- zeros stand from place k on
abbrev pub ZeroFrom : ℕ → List ℕ → Type 0
ZeroFrom k d = (i : ℕ) → k ≤ i → get_or d i 0 ≡ 0

-- ---- one piece
pub splice_all : (d : List ℕ) (at : ℕ) (s : List ℕ) (j : ℕ) → length s ≤ j → j ≤ length s → paste d at s j ≡ splice at s d
unfolding splice
splice_all d at s j h k =
    let e : j ≡ length s = omega arith in
    rw (e, take-length s) (append_assoc (take at d) s (drop (at + length s) d))

module _ (at : ℕ) (s d : List ℕ) (room : at + length s ≤ length d) where
  front : length (take at d) ≡ at
  front = length-take-le at d (omega arith)

  pub length_splice : length (splice at s d) ≡ length d
  unfolding splice
  length_splice =
      let a = length-append (take at d) (s ++ drop (at + length s) d) in
      let b = length-append s (drop (at + length s) d) in
      let c = length-drop (at + length s) d in
      omega (arith, a, b, c, front)

  pub read_in : (j : ℕ) → j < length s → get_or (splice at s d) (at + j) 0 ≡ get_or s j 0
  unfolding splice
  read_in j h =
      ap (λ (k : ℕ). get_or (take at d ++ (s ++ drop (at + length s) d)) (k + j) 0) (sym front)
      ∙ get_or-append-add (take at d) (s ++ drop (at + length s) d) j 0 ∙ get_or-append s (drop (at + length s) d) 0 j h

  pub read_before : (i : ℕ) → i < at → get_or (splice at s d) i 0 ≡ get_or d i 0
  unfolding splice
  read_before i h = get_or-append (take at d) (s ++ drop (at + length s) d) 0 i (omega (arith, front)) ∙ get_or-take at d i 0 h

  pub read_after : (i : ℕ) → at + length s ≤ i → get_or (splice at s d) i 0 ≡ get_or d i 0
  unfolding splice
  read_after i h =
      let k : ℕ = i - (at + length s) in
      let e : i ≡ length (take at d) + (length s + k) = omega (arith, front) in
      let f : at + length s + k ≡ i = omega arith in
      ap (λ (x : ℕ). get_or (take at d ++ (s ++ drop (at + length s) d)) x 0) e
      ∙ get_or-append-add (take at d) (s ++ drop (at + length s) d) (length s + k) 0 ∙ get_or-append-add s (drop (at + length s) d) k 0
      ∙ get_or-drop (at + length s) d k 0 ∙ ap (λ (x : ℕ). get_or d x 0) f

  -- in place of zeros: past the piece, too, one reads what a list has past its end
  pub read_from : ZeroFrom at d → (j : ℕ) → get_or (splice at s d) (at + j) 0 ≡ get_or s j 0
  read_from h j = from_this (dec_lt j (length s))
    where
      from_this : Dec (j < length s) → get_or (splice at s d) (at + j) 0 ≡ get_or s j 0
      from_this (yes k) = read_in j k
      from_this (no k) = read_after (at + j) (omega arith) ∙ h (at + j) (omega arith) ∙ sym (get_or-eq_default s 0 (omega arith))

  pub zeros_after : (k : ℕ) → at + length s ≤ k → ZeroFrom at d → ZeroFrom k (splice at s d)
  zeros_after k h q i b = read_after i (omega arith) ∙ q i (omega arith)

  -- a piece right after it
  pub splice_next : (u : List ℕ) → at + length s + length u ≤ length d → splice (at + length s) u (splice at s d) ≡ splice at (s ++ u) d
  unfolding splice
  splice_next u h =
      let t : take (at + length s) (take at d ++ (s ++ drop (at + length s) d)) ≡ take at d ++ s =
      ap (λ (x : List ℕ). take (at + length s) x) (sym (append_assoc (take at d) s (drop (at + length s) d)))
      ∙ take_at (take at d ++ s) (drop (at + length s) d) (at + length s) (let a = length-append (take at d) s in omega (arith, a, front)) in
      let r : drop (at + length s + length u) (take at d ++ (s ++ drop (at + length s) d)) ≡ drop (at + length s + length u) d =
      ap (λ (x : List ℕ). drop (at + length s + length u) x) (sym (append_assoc (take at d) s (drop (at + length s) d)))
      ∙ ap (λ (x : ℕ). drop x ((take at d ++ s) ++ drop (at + length s) d)) (let a = length-append (take at d) s in let e : at + length s + length u ≡ length (take at d ++ s) + length u = omega (arith, a, front) in e)
      ∙ drop-append-add (take at d ++ s) (drop (at + length s) d) (length u) ∙ drop-drop (length u) (at + length s) d in
      let z : at + length s + length u ≡ at + length (s ++ u) = omega (arith, length-append s u) in
      ap₂ (λ (x y : List ℕ). x ++ (u ++ y)) t (r ∙ ap (λ (x : ℕ). drop x d) z)
      ∙ append_assoc (take at d) s (u ++ drop (at + length (s ++ u)) d)
      ∙ ap (λ (x : List ℕ). take at d ++ x) (sym (append_assoc s u (drop (at + length (s ++ u)) d)))

-- ---- lines of s numbers each
module _ (f : ℕ → List ℕ) (s : ℕ) (each : (i : ℕ) → length (f i) ≡ s) where
  pub length_tab : (k : ℕ) → length (tab f k) ≡ s * k
  unfolding tab
  length_tab zero = sym (mul-zero s)
  length_tab (suc k) =
      let a = length-append (tab f k) (f k) in
      let b = length_tab k in
      let c = mul-suc s k in
      omega (arith, a, b, c, each k)

  tab_suc : (k : ℕ) → tab f (suc k) ≡ tab f k ++ f k
  unfolding tab
  tab_suc k = refl

  in_tab : (k i j : ℕ) → i < k → j < s → s * i + j < length (tab f k)
  in_tab k i j h l =
      let b = length_tab k in
      let r : s ≤ s = omega arith in
      let m : s * suc i ≤ s * k = mul-le-mul r h in
      let c = mul-suc s i in
      omega arith

  last_at : (k j : ℕ) (u : List ℕ) → get_or (tab f k ++ u) (s * k + j) 0 ≡ get_or u j 0
  last_at k j u = ap (λ (x : ℕ). get_or (tab f k ++ u) (x + j) 0) (sym (length_tab k)) ∙ get_or-append-add (tab f k) u j 0

  pub tab_at : (k i j : ℕ) → i < k → j < s → get_or (tab f k) (s * i + j) 0 ≡ get_or (f i) j 0
  tab_at zero i j h l = absurd (omega arith)
  tab_at (suc k) i j h l = from_this (dec_lt i k) (λ q. tab_at k i j q l)
    where
      from_this : Dec (i < k) → ((q : i < k) → get_or (tab f k) (s * i + j) 0 ≡ get_or (f i) j 0) → get_or (tab f (suc k)) (s * i + j) 0 ≡ get_or (f i) j 0
      from_this (yes q) r = ap (λ (x : List ℕ). get_or x (s * i + j) 0) (tab_suc k) ∙ get_or-append (tab f k) (f k) 0 (s * i + j) (in_tab k i j q l) ∙ r q
      from_this (no q) r =
          let e : i ≡ k = omega arith in
          rw e (ap (λ (x : List ℕ). get_or x (s * k + j) 0) (tab_suc k) ∙ last_at k j (f k))

  -- with a piece after them
  pub lines_at : (k : ℕ) (u : List ℕ) (i j : ℕ) → i < k → j < s → get_or (tab f k ++ u) (s * i + j) 0 ≡ get_or (f i) j 0
  lines_at k u i j h l = get_or-append (tab f k) u 0 (s * i + j) (in_tab k i j h l) ∙ tab_at k i j h l

  pub end_at : (k : ℕ) (u : List ℕ) (j : ℕ) → get_or (tab f k ++ u) (s * k + j) 0 ≡ get_or u j 0
  end_at k u j = last_at k j u

  pub tab_next : (at k : ℕ) (line w d z : List ℕ) → at + s * (k + 1) ≤ length d → line ≡ f k → w ≡ splice at (tab f k) d → z ≡ splice (at + s * k) line w → z ≡ splice at (tab f (k + 1)) d
  tab_next at k line w d z room c e q =
      let b = length_tab k in
      let m : s * (k + 1) ≡ s * suc k = ap (λ (x : ℕ). s * x) (add-one k) in
      let u = mul-suc s k in
      let g = each k in
      q ∙ ap₂ (λ (x : List ℕ) (y : List ℕ). splice (at + s * k) x y) c e ∙ ap (λ (x : ℕ). splice (at + x) (f k) (splice at (tab f k) d)) (sym b)
      ∙ splice_next at (tab f k) d (omega arith) (f k) (omega arith)
      ∙ ap (λ (x : List ℕ). splice at x d) (sym (tab_suc k) ∙ ap (tab f) (sym (add-one k)))

  pub tab_end : (at k : ℕ) (u w d : List ℕ) → at + s * k + length u ≤ length d → w ≡ splice at (tab f k) d → splice (at + s * k) u w ≡ splice at (tab f k ++ u) d
  tab_end at k u w d room e =
      let b = length_tab k in
      ap₂ (λ (x : ℕ) (y : List ℕ). splice (at + x) u y) (sym b) e ∙ splice_next at (tab f k) d (omega arith) u (omega arith)

pub tab_none : (f : ℕ → List ℕ) (at : ℕ) (d : List ℕ) → d ≡ splice at (tab f 0) d
unfolding tab splice
tab_none f at d = let e : at + 0 ≡ at = add-zero at in rw (e, take-append-drop at d) refl

pub append_most : (s u : List ℕ) (b : ℕ) → Most s b → Most u b → Most (s ++ u) b
append_most s u b h k i = from_this (dec_lt i (length s))
  where
    from_this : Dec (i < length s) → get_or (s ++ u) i 0 ≤ b
    from_this (yes q) = rw (get_or-append s u 0 i q) (h i)
    from_this (no q) =
        let e : i ≡ length s + (i - length s) = omega arith in
        rw e (rw (get_or-append-add s u (i - length s) 0) (k (i - length s)))

pub tab_most : (f : ℕ → List ℕ) (k b : ℕ) → ((i : ℕ) → i < k → Most (f i) b) → Most (tab f k) b
unfolding tab
tab_most f zero b h = λ i. omega arith
tab_most f (suc k) b h = append_most (tab f k) (f k) b (tab_most f k b (λ i l. h i (omega arith))) (h k (omega arith))

-- each of the numbers is at most b
abbrev pub Each : ℕ → List ℕ → Type 0
Each b [] = Unit {0}
Each b (x ∷ xs) = (x ≤ b) × Each b xs

pub each_most : (b : ℕ) (xs : List ℕ) → Each b xs → Most xs b
each_most b [] e i = omega arith
each_most b (x ∷ xs) e zero = e.0
each_most b (x ∷ xs) e (suc i) = each_most b xs e.1 i
