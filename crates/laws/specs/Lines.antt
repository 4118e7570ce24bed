-- Lines and fields: a text of lines is cut into these lines, and a line of fields into these fields.
use Rattle.std.specs.Prelude.{ℕ, ◌+◌, ◌≤◌, ◌<◌, ◌≡◌, Bool, true, false, not, ◌&&◌, ◌||◌, T, eqb, leb, if◌then◌else◌}
use Rattle.std.proofs.Math.Path.{refl, ap}
use Rattle.std.proofs.Common.{sym, ap₂, subst, ◌∙◌, ⊎_elim, arith, leb→le, eqb→eq, T_not, eq-eqb}
use mathlib.Core.List.Memᴰ
use mathlib.Core.List.{List, [], ◌∷◌, ◌++◌, append_assoc, Memᴰ}
use Rattle.std.proofs.Math.Dec.{not_T}
use Rattle.std.proofs.Math.ListN.{length}
use Rattle.definitions.specs.Lists.{all, is_empty, flat_map}
use Rattle.definitions.specs.Sheet.Text.{on_first, split, Line, lines_from, is_between, is_digit, is_capital, is_relation_name}
use Rattle.definitions.specs.Refusal.{Result, accepted, ◌>>=◌, read_lines}
use Rattle.definitions.specs.Reply.Desk.{print_line}
use Rattle.laws.specs.Booleans.{T_and_l, T_and_r, T_false, T_or, and_T}
use Rattle.laws.specs.Lists.{all_at, all_of}

-- no byte of the list is `sep`
abbrev pub Without : ℕ → List ℕ → Type 0
Without sep xs = T (all (λ b. not (eqb b sep)) xs)

pub split_cons : (sep : ℕ) (t : List ℕ) → (q : List ℕ) × (qs : List (List ℕ)) × (split sep t ≡ q ∷ qs)
unfolding split on_first
split_cons sep [] = ([], [], refl)
split_cons sep (b ∷ t) = by_test (eqb b sep) (split_cons sep t)
  where
    by_test : (e : Bool) → ((q : List ℕ) × (qs : List (List ℕ)) × (split sep t ≡ q ∷ qs)) → (q : List ℕ) × (qs : List (List ℕ)) × ((if e then [] ∷ split sep t else on_first b (split sep t)) ≡ q ∷ qs)
    by_test true h = ([], split sep t, refl)
    by_test false h = (b ∷ h.0, h.1, ap (on_first b) h.2)

pub split_last : (sep : ℕ) (xs : List ℕ) → Without sep xs → split sep xs ≡ xs ∷ []
unfolding split on_first all
split_last sep [] w = refl
split_last sep (b ∷ xs) w =
    let e : eqb b sep ≡ false = T_false (eqb b sep) (T_not (eqb b sep) (T_and_l (not (eqb b sep)) _ w)) in
    rw e (ap (on_first b) (split_last sep xs (T_and_r (not (eqb b sep)) _ w)))

pub split_at : (sep : ℕ) (xs ys : List ℕ) → Without sep xs → split sep (xs ++ (sep ∷ ys)) ≡ xs ∷ split sep ys
unfolding split on_first all
split_at sep [] ys w = let e : eqb sep sep ≡ true = eq-eqb sep sep refl in rw e refl
split_at sep (b ∷ xs) ys w =
    let e : eqb b sep ≡ false = T_false (eqb b sep) (T_not (eqb b sep) (T_and_l (not (eqb b sep)) _ w)) in
    rw e (ap (on_first b) (split_at sep xs ys (T_and_r (not (eqb b sep)) _ w)))

-- ---- lists without a byte
pub without_append : (sep : ℕ) (xs ys : List ℕ) → Without sep xs → Without sep ys → Without sep (xs ++ ys)
unfolding all
without_append sep [] ys w v = v
without_append sep (b ∷ xs) ys w v = and_T (not (eqb b sep)) _ (T_and_l (not (eqb b sep)) _ w) (without_append sep xs ys (T_and_r (not (eqb b sep)) _ w) v)

above : (sep : ℕ) (f : ℕ → Bool) → ((b : ℕ) → T (f b) → sep < b) → (xs : List ℕ) → T (all f xs) → Without sep xs
above sep f h xs t = all_of (λ b. not (eqb b sep)) xs (λ b m. let l = h b (all_at f xs t b m) in not_T (eqb b sep) (λ q. let e = eqb→eq b sep q in omega arith))

-- digits and the bytes of names stand above the bytes that part lines and fields
digit_high : (b : ℕ) → T (is_digit b) → 48 ≤ b
unfolding is_digit is_between
digit_high b t = leb→le 48 b (T_and_l (leb 48 b) _ t)

capital_high : (b : ℕ) → T (is_capital b) → 65 ≤ b
unfolding is_capital is_between
capital_high b t = leb→le 65 b (T_and_l (leb 65 b) _ t)

pub digits_without : (sep : ℕ) → sep < 48 → (xs : List ℕ) → T (all is_digit xs) → Without sep xs
digits_without sep h xs t = above sep is_digit (λ b q. let d = digit_high b q in omega arith) xs t

pub name_without : (sep : ℕ) → sep < 48 → (name : List ℕ) → T (is_relation_name name) → Without sep name
unfolding is_relation_name all
name_without sep h [] t = tt
name_without sep h (b ∷ bs) t =
    let a = T_and_l (is_capital b && all (λ c. is_capital c || is_digit c || eqb c 95) bs) _ t in
    let k = capital_high b (T_and_l (is_capital b) _ a) in
    and_T (not (eqb b sep)) _ (not_T (eqb b sep) (λ q. let e = eqb→eq b sep q in omega arith)) (above sep (λ c. is_capital c || is_digit c || eqb c 95) inside bs (T_and_r (is_capital b) _ a))
  where
    inside : (c : ℕ) → T (is_capital c || is_digit c || eqb c 95) → sep < c
    inside c t = ⊎_elim (λ q. ⊎_elim (λ r. let k = capital_high c r in omega arith) (λ r. let k = digit_high c r in omega arith) (T_or (is_capital c) _ q)) (λ q. let e = eqb→eq c 95 q in omega arith) (T_or (is_capital c || is_digit c) _ t)

-- ---- fields joined by tabs
unfoldable pub joined : List (List ℕ) → List ℕ
joined [] = []
joined (f ∷ []) = f
joined (f ∷ g ∷ fs) = f ++ (9 ∷ joined (g ∷ fs))

unfoldable pub AllWithout : ℕ → List (List ℕ) → Type 0
AllWithout sep [] = Unit {0}
AllWithout sep (f ∷ fs) = Without sep f × AllWithout sep fs

pub print_joined : (fs : List (List ℕ)) → print_line fs ≡ joined fs ++ (10 ∷ [])
unfolding print_line joined
print_joined [] = refl
print_joined (f ∷ []) = refl
print_joined (f ∷ g ∷ fs) = ap (λ (t : List ℕ). f ++ (9 ∷ t)) (print_joined (g ∷ fs)) ∙ sym (append_assoc f (9 ∷ joined (g ∷ fs)) (10 ∷ []))

pub split_joined : (f : List ℕ) (fs : List (List ℕ)) → AllWithout 9 (f ∷ fs) → split 9 (joined (f ∷ fs)) ≡ f ∷ fs
unfolding joined AllWithout
split_joined f [] w = split_last 9 f w.0
split_joined f (g ∷ fs) w = split_at 9 f (joined (g ∷ fs)) w.0 ∙ ap (λ (l : List (List ℕ)). f ∷ l) (split_joined g fs w.1)

pub joined_without : (fs : List (List ℕ)) → AllWithout 10 fs → Without 10 (joined fs)
unfolding joined AllWithout all
joined_without [] w = tt
joined_without (f ∷ []) w = w.0
joined_without (f ∷ g ∷ fs) w = without_append 10 f (9 ∷ joined (g ∷ fs)) w.0 (joined_without (g ∷ fs) w.1)

-- ---- a text is read line by line
module _ {S : Type 0} (line : S → Line → Result S) where
  pub read_line : (s : S) (at : ℕ) (w rest : List ℕ) → Without 10 w → read_lines line s (lines_from at (split 10 (w ++ (10 ∷ rest)))) ≡ (line s (record { at = at; ended = true; content = w }) >>= λ s'. read_lines line s' (lines_from (at + length w + 1) (split 10 rest)))
  unfolding lines_from read_lines
  read_line s at w rest h =
      let (q, qs, e) = split_cons 10 rest in
      ap (λ (l : List (List ℕ)). read_lines line s (lines_from at l)) (split_at 10 w rest h ∙ ap (λ (l : List (List ℕ)). w ∷ l) e)
      ∙ ap (λ (l : List (List ℕ)). line s (record { at = at; ended = true; content = w }) >>= λ s'. read_lines line s' (lines_from (at + length w + 1) l)) (sym e)

  pub read_end : (s : S) (at : ℕ) → read_lines line s (lines_from at (split 10 [])) ≡ accepted s
  unfolding lines_from read_lines split is_empty
  read_end s at = refl

-- ---- a text whose lines say things one by one, each thing as R has it of the line's fields
unfoldable pub LineByLine : {A : Type 0} → (A → List (List ℕ) → Type 0) → List A → List ℕ → Type 0
LineByLine R [] text = text ≡ []
LineByLine R (a ∷ s) text = (fs : List (List ℕ)) × R a fs × ((rest : List ℕ) × (text ≡ print_line fs ++ rest) × LineByLine R s rest)

-- where each thing has only one line, it is what is written for them
pub line_by_line : {A : Type 0} (write : A → List (List ℕ)) (P : A → Type 0) (s : List A) (text : List ℕ) → LineByLine (λ a fs. (fs ≡ write a) × P a) s text → (text ≡ flat_map (λ a. print_line (write a)) s) × ((a : A) → Memᴰ a s → P a)
unfolding LineByLine flat_map
line_by_line write P [] text h = (h, λ a m. absurd (Memᴰ.not-nil m))
line_by_line write P (b ∷ s) text (fs, r, (rest, e, h)) =
    let (f, g) = line_by_line write P s rest h in (
      e ∙ ap₂ (λ (x : List (List ℕ)) (y : List ℕ). print_line x ++ y) r.0 f,
      λ a m. ⊎_elim (λ q. subst P (sym q) r.1) (λ q. g a q) (Memᴰ.cases_cons m),
    )

pub write_lines : {A : Type 0} (R : A → List (List ℕ) → Type 0) (write : A → List (List ℕ)) (s : List A) → ((a : A) → Memᴰ a s → R a (write a)) → LineByLine R s (flat_map (λ a. print_line (write a)) s)
unfolding LineByLine flat_map
write_lines R write [] h = refl
write_lines R write (a ∷ s) h = (write a, h a (Memᴰ.head refl), (flat_map (λ a. print_line (write a)) s, refl, write_lines R write s (λ b m. h b (Memᴰ.tail m))))

pub weaken_lines : {A : Type 0} (R Q : A → List (List ℕ) → Type 0) (s : List A) (text : List ℕ) → ((a : A) (fs : List (List ℕ)) → Memᴰ a s → R a fs → Q a fs) → LineByLine R s text → LineByLine Q s text
unfolding LineByLine
weaken_lines R Q [] text f h = h
weaken_lines R Q (a ∷ s) text f (fs, r, (rest, e, h)) = (fs, f a fs (Memᴰ.head refl) r, (rest, e, weaken_lines R Q s rest (λ b gs m. f b gs (Memᴰ.tail m)) h))

-- ---- a name is short
pub name_short : (name : List ℕ) → T (is_relation_name name) → length name ≤ 12
unfolding is_relation_name
name_short [] t = absurd t
name_short (b ∷ bs) t = leb→le (length (b ∷ bs)) 12 (T_and_r (is_capital b && all (λ c. is_capital c || is_digit c || eqb c 95) bs) (leb (length (b ∷ bs)) 12) t)
