-- Laws of relation names.
use Prim.Native.Nat.{ℕ, suc, ◌-◌, ◌≤◌, ◌<◌}
use mathlib.Core.Path.{◌≡◌, refl, sym, ◌∙◌}
use mathlib.Core.Logic.{◌⊎◌, inl, inr}
use mathlib.Core.Bool.{Bool, true, false, ◌&&◌, and-true}
use mathlib.Core.List.{List, [], ◌∷◌}
use native.Mathlib.Omega.{arith}
use lib.Dec.{eqb, leb}
use lib.ListN.{length, get_or, take, drop}
use borrow.Author.Tests.{le-leb, lt-leb}
use Rattle.std.proofs.Common.{take_all}
use Rattle.std.specs.List.{list_all}
use Rattle.std.specs.Char.{is_ascii_digit, is_ascii_uppercase}
use Rattle.definitions.specs.Lists.{all}
use Rattle.definitions.specs.Sheet.Text.{is_between, is_capital, is_digit, is_relation_name}
use Rattle.read_text.specs.Spans.{is_name_byte}
use Rattle.read_text.proofs.Laws.{all_list}

-- the library's tests of a byte
pub capital_is : (c : ℕ) → is_ascii_uppercase c ≡ is_capital c
unfolding is_capital is_between
capital_is c = refl

pub byte_capital : (c : ℕ) → is_ascii_uppercase c ≡ true → true ≡ is_name_byte c
unfolding is_name_byte is_capital is_between
byte_capital c p = rw p

pub byte_digit : (c : ℕ) → is_ascii_uppercase c ≡ false → is_ascii_digit c ≡ true → true ≡ is_name_byte c
unfolding is_name_byte is_capital is_digit is_between
byte_digit c p q = rw (p, q)

pub byte_other : (c : ℕ) → is_ascii_uppercase c ≡ false → is_ascii_digit c ≡ false → eqb c 95 ≡ is_name_byte c
unfolding is_name_byte is_capital is_digit is_between
byte_other c p q = rw (p, q)

third_false : (a b : Bool) → (a && b && false) ≡ false
third_false true true = refl
third_false true false = refl
third_false false b = refl

-- a name by its first byte and the others
pub name_empty : (t : List ℕ) → length t < 1 → false ≡ is_relation_name t
unfolding is_relation_name
name_empty [] h = refl
name_empty (b ∷ t) h = absurd (omega arith)

-- the bytes after the first, as the pattern of the code takes them
abbrev others : List ℕ → List ℕ
others t = take (length t - 1) (drop 1 t)

name_is : (t : List ℕ) → 1 ≤ length t → is_relation_name t ≡ (is_capital (get_or t 0 0) && all is_name_byte (others t) && leb (suc (length (others t))) 12)
unfolding is_relation_name is_name_byte
name_is [] h = absurd (omega arith)
name_is (b ∷ t) h = let q : suc (length t) - 1 ≡ length t = omega arith in rw (q, take_all (length t) t (omega arith))

module _ (t : List ℕ) (h : 1 ≤ length t) (b : Bool) (p : b ≡ is_ascii_uppercase (get_or t 0 0)) where
  head_is : is_capital (get_or t 0 0) ≡ b
  head_is = sym (p ∙ capital_is (get_or t 0 0))

  pub name_refused : (b ≡ false) ⊎ ((b ≡ true) × (12 ≤ length (others t))) → false ≡ is_relation_name t
  name_refused (inl q) = sym (name_is t h ∙ rw (head_is, q))
  name_refused (inr q) = sym (name_is t h ∙ rw (lt-leb (suc (length (others t))) 12 (omega arith)) (third_false (is_capital (get_or t 0 0)) (all is_name_byte (others t))))

  pub name_good : b ≡ true → length (others t) < 12 → list_all is_name_byte (others t) ≡ is_relation_name t
  name_good q l = sym (name_is t h ∙ rw (head_is, q, le-leb (suc (length (others t))) 12 (omega arith)) (and-true (all is_name_byte (others t))) ∙ sym (all_list is_name_byte (others t)))
