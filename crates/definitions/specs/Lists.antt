-- What lists of numbers stand for, and plain functions on lists. (The test that chooses between two values, `if`, is the library's.)
use Rattle.std.specs.Prelude.{ℕ, zero, suc, ◌+◌, Bool, true, false, ◌&&◌, ◌||◌, List, [], ◌∷◌, ◌++◌, eqb, leb, ltb, if◌then◌else◌}
use Rattle.std.proofs.Math.Option.{Option, none, some}

-- the bytes of a text or of a part of one; those of a name; action numbers; words of 64 bits, as states and picks are lent
abbrev pub Text : Type 0
Text = List ℕ

abbrev pub Name : Type 0
Name = List ℕ

abbrev pub Steps : Type 0
Steps = List ℕ

abbrev pub Words : Type 0
Words = List ℕ

module _ {A : Type 0} where
  -- every element passes the test; some element does; those that do, in order
  unfoldable pub all : (A → Bool) → List A → Bool
  all p [] = true
  all p (x ∷ xs) = p x && all p xs

  unfoldable pub any : (A → Bool) → List A → Bool
  any p [] = false
  any p (x ∷ xs) = p x || any p xs

  unfoldable pub filter : (A → Bool) → List A → List A
  filter p [] = []
  filter p (x ∷ xs) = if p x then x ∷ filter p xs else filter p xs

module _ {A B : Type 0} where
  unfoldable pub flat_map : (A → List B) → List A → List B
  flat_map f [] = []
  flat_map f (x ∷ xs) = f x ++ flat_map f xs

  -- each element with its number, the first one's being i
  unfoldable pub map_from : (ℕ → A → B) → ℕ → List A → List B
  map_from f i [] = []
  map_from f i (x ∷ xs) = f i x ∷ map_from f (suc i) xs

  unfoldable pub option : Option A → B → (A → B) → B
  option none b f = b
  option (some a) b f = f a

-- whether there is something, and it alone as a list
unfoldable pub is_some : {A : Type 0} → Option A → Bool
is_some none = false
is_some (some a) = true

unfoldable pub listed : {A : Type 0} → Option A → List A
listed none = []
listed (some a) = a ∷ []

-- the index of the first element that passes the test
unfoldable pub position : {A : Type 0} → (A → Bool) → List A → Option ℕ
position p [] = none
position p (x ∷ xs) = if p x then some zero else option (position p xs) none (λ i. some (suc i))

-- the first element that passes the test
unfoldable pub find : {A : Type 0} → (A → Bool) → List A → Option A
find p [] = none
find p (x ∷ xs) = if p x then some x else find p xs

-- the n numbers from a on; the numbers below n
unfoldable pub from : ℕ → ℕ → List ℕ
from a zero = []
from a (suc n) = a ∷ from (suc a) n

unfoldable pub below : ℕ → List ℕ
below n = from zero n

-- the last element of a list
unfoldable pub last : {A : Type 0} → List A → Option A
last [] = none
last (x ∷ xs) = some (option (last xs) x (λ y. y))

-- ---- Ranges: what a variable ranges over, an ascending list of elements. Whether z is one of them, how many stand before it; those
-- up to z; the one before z, if there is one; the greatest.
unfoldable pub is_in : ℕ → List ℕ → Bool
is_in z ms = any (eqb z) ms

unfoldable pub rank : List ℕ → ℕ → ℕ
rank ms z = option (position (eqb z) ms) zero (λ i. i)

unfoldable pub up_to : List ℕ → ℕ → List ℕ
up_to ms z = filter (λ m. leb m z) ms

unfoldable pub before : List ℕ → ℕ → Option ℕ
before ms z = last (filter (λ m. ltb m z) ms)

unfoldable pub greatest : List ℕ → ℕ
greatest ms = option (last ms) zero (λ m. m)

unfoldable pub sum : List ℕ → ℕ
sum [] = zero
sum (x ∷ xs) = x + sum xs

-- two lists of numbers are the same
unfoldable pub same : List ℕ → List ℕ → Bool
same [] [] = true
same [] (y ∷ ys) = false
same (x ∷ xs) [] = false
same (x ∷ xs) (y ∷ ys) = eqb x y && same xs ys

unfoldable pub is_empty : {A : Type 0} → List A → Bool
is_empty [] = true
is_empty (x ∷ xs) = false
