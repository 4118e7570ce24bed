-- How an element may be written in a field: by its number or by its label. What is read was so written, and what is so written is read.
use Prim.Native.Nat.{ℕ, suc, ◌<◌, ◌≤◌}
use Rattle.std.specs.Prelude.{◌≡◌, ◌⊎◌, Bool, true, false, ◌&&◌, ◌||◌, ltb, leb, eqb, length, if◌then◌else◌}
use Rattle.std.proofs.Math.Path.{refl, ap, subst}
use Rattle.std.proofs.Common.{sym, ap₂, ◌∙◌, arith, leb→le}
use Rattle.std.proofs.Math.Logic.{inl, inr, ⊎_elim}
use Rattle.std.proofs.Math.Option.{Option, none, some}
use mathlib.Core.List.{List, [], ◌∷◌, map}
use Rattle.std.proofs.Math.Dec.{T, ltb→lt}
use Rattle.definitions.specs.Lists.{all, option}
use Rattle.definitions.specs.Sheet.Text.{decimal, decimal_in, number, is_between, is_digit, is_capital, is_relation_name}
use Rattle.definitions.specs.Sheet.Sheets.{Element, numbered, named, element, elements, Label, name_of, element_of, elements_of, is_in_range}
use Rattle.definitions.specs.Reply.Desk.{said}
use Rattle.laws.specs.Booleans.{and_T, T_and_l, T_and_r, T_false, T_of, T_true}
use Rattle.laws.specs.Lists.{none_some, some_eq}
use Rattle.laws.specs.Labels.{LabelsFit, name_at, one_to_one, option_parts}
use Rattle.laws.specs.Decimals.{decimal_length, decimal_number, digits_of, number_decimal}
use Rattle.laws.specs.Lines.{Without, AllWithout, digits_without, name_short, name_without}

-- a field spells an element; fields spell elements, one by one
unfoldable pub Spells : List Label → ℕ → List ℕ → Type 0
Spells labels x f = (f ≡ decimal x) ⊎ (name_of labels x ≡ some f)

unfoldable pub Spelled : List Label → List ℕ → List (List ℕ) → Type 0
Spelled labels [] [] = Unit {0}
Spelled labels [] (f ∷ fs) = ⊥
Spelled labels (x ∷ xs) [] = ⊥
Spelled labels (x ∷ xs) (f ∷ fs) = Spells labels x f × Spelled labels xs fs

-- ---- a field's form
no_digits : (f : List ℕ) → all is_digit f ≡ false → number f ≡ none
unfolding number
no_digits f e = rw e refl

capital_no_digit : (b : ℕ) → T (is_capital b) → is_digit b ≡ false
unfolding is_capital is_digit is_between
capital_no_digit b t = T_false (leb 48 b && leb b 57) (λ q. let high = leb→le 65 b (T_and_l (leb 65 b) _ t) in let low = leb→le b 57 (T_and_r (leb 48 b) _ q) in absurd (omega arith))

name_no_number : (f : List ℕ) → T (is_relation_name f) → number f ≡ none
unfolding is_relation_name all
name_no_number [] t = absurd t
name_no_number (b ∷ bs) t =
    let c = T_and_l (is_capital b) _ (T_and_l (is_capital b && all (λ c. is_capital c || is_digit c || eqb c 95) bs) _ t) in
    no_digits (b ∷ bs) (rw (capital_no_digit b c) refl)

element_cases : (f : List ℕ) (e : Element) → element f ≡ some e → ((x : ℕ) × (e ≡ numbered x) × (number f ≡ some x)) ⊎ ((e ≡ named f) × T (is_relation_name f))
unfolding element option
element_cases f e q = by_option (number f) refl (is_relation_name f) refl q
  where
    by_option : (o : Option ℕ) → number f ≡ o → (b : Bool) → is_relation_name f ≡ b → option o (if b then some (named f) else none) (λ x. some (numbered x)) ≡ some e → ((x : ℕ) × (e ≡ numbered x) × (number f ≡ some x)) ⊎ ((e ≡ named f) × T (is_relation_name f))
    by_option (some x) n b r q = inl (x, sym (some_eq q), n)
    by_option none n true r q = inr (sym (some_eq q), T_of r)
    by_option none n false r q = absurd (none_some q)

pub element_number : (f : List ℕ) (x : ℕ) → number f ≡ some x → element f ≡ some (numbered x)
unfolding element option
element_number f x e = rw e refl

pub element_name : (f : List ℕ) → T (is_relation_name f) → element f ≡ some (named f)
unfolding element option
element_name f t = rw (name_no_number f t, T_true (is_relation_name f) t) refl

-- ---- what is read was spelled
module _ (n : ℕ) (labels : List Label) (K : LabelsFit n labels) where
  pub spells_of : (f : List ℕ) (e : Element) (x : ℕ) → element f ≡ some e → element_of labels e ≡ some x → Spells labels x f
  unfolding Spells element_of
  spells_of f e x q m = ⊎_elim
      (λ h. inl ((decimal_number f h.0 h.2).0 ∙ ap decimal (some_eq (ap (element_of labels) (sym h.1) ∙ m))))
      (λ h. inr ((one_to_one labels K.one x f).1 (ap (element_of labels) (sym h.0) ∙ m)))
      (element_cases f e q)

  pub spelled_of : (fs : List (List ℕ)) (es : List Element) (xs : List ℕ) → elements fs ≡ some es → elements_of labels es ≡ some xs → Spelled labels xs fs
  unfolding elements elements_of Spelled
  spelled_of [] es xs q m = subst (λ (ys : List ℕ). Spelled labels ys []) (some_eq (ap (elements_of labels) (some_eq q) ∙ m)) tt
  spelled_of (f ∷ fs) es xs q m =
      let (e, a, q₁) = option_parts (element f) _ es q in
      let (es', b, q₂) = option_parts (elements fs) _ es q₁ in
      let (x, c, m₁) = option_parts (element_of labels e) _ xs (ap (elements_of labels) (some_eq q₂) ∙ m) in
      let (xs', d, m₂) = option_parts (elements_of labels es') _ xs m₁ in
      subst (λ (ys : List ℕ). Spelled labels ys (f ∷ fs)) (some_eq m₂) (spells_of f e x a c, spelled_of fs es' xs' b d)

  -- ---- what is spelled is read, and is in range
  pub spells_read : (x : ℕ) (f : List ℕ) → n ≤ 64 → T (ltb x n) → Spells labels x f → (e : Element) × (element f ≡ some e) × (element_of labels e ≡ some x) × T (is_in_range n e)
  unfolding Spells element_of is_in_range
  spells_read x f few l s = ⊎_elim
      (λ q. let h = ltb→lt x n l in (numbered x, element_number f x (ap number q ∙ number_decimal x (omega arith)), refl, l))
      (λ q. let (k, m, a, b) = name_at labels x f q in (named f, element_name f (subst (λ (g : List ℕ). T (is_relation_name g)) b (K.formed k m)), (one_to_one labels K.one x f).0 q, tt))
      s

  pub spelled_read : (xs : List ℕ) (fs : List (List ℕ)) → n ≤ 64 → T (all (λ x. ltb x n) xs) → Spelled labels xs fs
      → (es : List Element) × (elements fs ≡ some es) × (elements_of labels es ≡ some xs) × T (all (is_in_range n) es) × (length es ≡ length xs)
  unfolding Spelled elements elements_of all option
  spelled_read [] [] few t s = ([], refl, refl, tt, refl)
  spelled_read [] (f ∷ fs) few t s = absurd s
  spelled_read (x ∷ xs) [] few t s = absurd s
  spelled_read (x ∷ xs) (f ∷ fs) few t s =
      let (e, a, b, c) = spells_read x f few (T_and_l (ltb x n) _ t) s.0 in
      let (es, p, q, r, l) = spelled_read xs fs few (T_and_r (ltb x n) _ t) s.1 in
      (e ∷ es, rw (a, p) refl, rw (b, q) refl, and_T (is_in_range n e) _ c r, ap suc l)

  -- a field that spells an element has none of the bytes that part fields and lines
  spells_without : (sep : ℕ) → sep < 48 → (x : ℕ) (f : List ℕ) → Spells labels x f → Without sep f
  unfolding Spells decimal
  spells_without sep h x f s = ⊎_elim
      (λ q. subst (Without sep) (sym q) (digits_without sep h (decimal_in 20 x) (T_of (digits_of 20 x))))
      (λ q. let (k, m, a, b) = name_at labels x f q in subst (Without sep) b (name_without sep h k.name (K.formed k m)))
      s

  pub spelled_without : (sep : ℕ) → sep < 48 → (xs : List ℕ) (fs : List (List ℕ)) → Spelled labels xs fs → AllWithout sep fs
  unfolding Spelled AllWithout
  spelled_without sep h [] [] s = tt
  spelled_without sep h [] (f ∷ fs) s = absurd s
  spelled_without sep h (x ∷ xs) [] s = absurd s
  spelled_without sep h (x ∷ xs) (f ∷ fs) s = (spells_without sep h x f s.0, spelled_without sep h xs fs s.1)

pub spelled_length : (labels : List Label) (xs : List ℕ) (fs : List (List ℕ)) → Spelled labels xs fs → length fs ≡ length xs
unfolding Spelled
spelled_length labels [] [] s = refl
spelled_length labels [] (f ∷ fs) s = absurd s
spelled_length labels (x ∷ xs) [] s = absurd s
spelled_length labels (x ∷ xs) (f ∷ fs) s = ap suc (spelled_length labels xs fs s.1)

pub numbers_spelled : (labels : List Label) (xs : List ℕ) → Spelled labels xs (map decimal xs)
unfolding Spelled Spells
numbers_spelled labels [] = tt
numbers_spelled labels (x ∷ xs) = (inl refl, numbers_spelled labels xs)

-- ---- how the desk program spells them; where there are no labels, the only way
pub said_spells : (labels : List Label) (x : ℕ) → Spells labels x (said labels x)
unfolding said option Spells
said_spells labels x = by_option (name_of labels x) refl
  where
    by_option : (o : Option (List ℕ)) → name_of labels x ≡ o → (option o (decimal x) (λ name. name) ≡ decimal x) ⊎ (name_of labels x ≡ some (option o (decimal x) (λ name. name)))
    by_option none e = inl refl
    by_option (some name) e = inr e

pub said_spelled : (labels : List Label) (xs : List ℕ) → Spelled labels xs (map (said labels) xs)
unfolding Spelled
said_spelled labels [] = tt
said_spelled labels (x ∷ xs) = (said_spells labels x, said_spelled labels xs)

pub said_plain : (x : ℕ) → said [] x ≡ decimal x
unfolding said name_of option
said_plain x = refl

pub spelled_plain : (xs : List ℕ) (fs : List (List ℕ)) → Spelled [] xs fs → fs ≡ map (said []) xs
unfolding Spelled Spells name_of
spelled_plain [] [] s = refl
spelled_plain [] (f ∷ fs) s = absurd s
spelled_plain (x ∷ xs) [] s = absurd s
spelled_plain (x ∷ xs) (f ∷ fs) s = ap₂ ◌∷◌ (⊎_elim (λ q. q ∙ sym (said_plain x)) (λ q. absurd (none_some q)) s.0) (spelled_plain xs fs s.1)

-- ---- an element as it is printed is short
pub said_short : (n : ℕ) (ls : List Label) → LabelsFit n ls → (x : ℕ) → x < 64 → length (said ls x) ≤ 12
unfolding said option
said_short n ls L x h = by_option (name_of ls x) refl
  where
    by_option : (o : Option (List ℕ)) → name_of ls x ≡ o → length (option o (decimal x) (λ name. name)) ≤ 12
    by_option none e = omega (arith, decimal_length 1 x (omega arith))
    by_option (some name) e = let (l, m, a, b) = name_at ls x name e in subst (λ (t : List ℕ). length t ≤ 12) b (name_short l.name (L.formed l m))
