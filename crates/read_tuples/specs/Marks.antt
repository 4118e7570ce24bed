-- Tuples as bits: each relation from a new word on, a tuple's bit at its row; and what adding a tuple of the text gives.
use Rattle.std.specs.Prelude.{ℕ, zero, suc, ◌+◌, ◌-◌, ◌*◌, ◌^◌, ◌≤◌, ◌<◌, ◌≡◌, Bool, true, false, List, [], ◌∷◌, ◌++◌, eqb, ltb, length, get_or, Some, None, Result, Ok, Err}
use Rattle.std.specs.Prelude as P
use Rattle.definitions.specs.Lists.{all, any}
use Rattle.definitions.specs.Refusal.{refused, accepted, ◌>>=◌, refuse_if}
use Rattle.definitions.specs.Sheet.Relations.{Tuple, is_among}
use Rattle.definitions.specs.Problem.Atoms.{row_of, words_for}
use Rattle.definitions.specs.Sheet.Sheets.{Element, Label, add_tuple}
use Rattle.bits.specs.Table.{bit}
use Rattle.read_names.specs.declared.Signature.{Signature}
use Rattle.read_names.specs.Signatures.{relations_from, with_arrays}
use Rattle.refusal.specs.declared.Cause.{Cause}
use Rattle.refusal.specs.Numbers.{number_of}

-- all are elements of n
unfoldable pub are_below : ℕ → List ℕ → Bool
are_below n xs = all (λ x. ltb x n) xs

-- the row of elements of n, or not all are
unfoldable pub InRow : ℕ → List ℕ → P.Option ℕ → Type 0
InRow n xs (Some b) = (are_below n xs ≡ true) × (b ≡ row_of n xs)
InRow n xs None = are_below n xs ≡ false

-- a row is small
unfoldable pub RowBelow : ℕ → P.Option ℕ → Type 0
RowBelow k (Some b) = b < k
RowBelow k None = Unit {0}

-- the first word of the relation m places after lo
unfoldable pub first_word : Signature → ℕ → ℕ → ℕ → ℕ
first_word g n lo zero = zero
first_word g n lo (suc m) = first_word g n lo m + words_for (n ^ get_or g.arity (lo + m) 0)

-- the arrays of a signature: they have the m relations from lo on, and no arity among these or before is above 3
pub record Arrays (lo m : ℕ) (from to arity : List ℕ) : Type 0 where
  pub few : lo + m ≤ 12
  pub length_from : 12 ≤ length from
  pub length_to : 12 ≤ length to
  pub length_arity : 12 ≤ length arity
  pub arities : (j : ℕ) → j < lo + m → get_or arity j 0 ≤ 3

-- a table of so many words holds all tuples of the m relations from lo on, over n elements
unfoldable pub Roomy : (from to arity : List ℕ) → ℕ → ℕ → ℕ → ℕ → Type 0
Roomy from to arity lo m n room = (g : Signature) → first_word (with_arrays g from to arity) n lo m ≤ room

-- the bit of a tuple
unfoldable pub bit_of : Signature → ℕ → ℕ → Tuple → ℕ
bit_of g n lo t = 64 * first_word g n lo (t.relation - (5 + lo)) + row_of n t.places

-- the bits of a list of tuples
unfoldable pub marks : (Tuple → ℕ) → List Tuple → ℕ → Bool
marks place ts i = any (λ (t : Tuple). eqb (place t) i) ts

-- a tuple of one of the m relations from lo on, over n elements
unfoldable pub Valid : Signature → ℕ → ℕ → ℕ → Tuple → Type 0
Valid g n lo m t = (5 + lo ≤ t.relation) × (t.relation < 5 + lo + m) × (length t.places ≡ get_or g.arity (t.relation - 5) 0) × (are_below n t.places ≡ true)

unfoldable pub AllValid : Signature → ℕ → ℕ → ℕ → List Tuple → Type 0
AllValid g n lo m [] = Unit {0}
AllValid g n lo m (t ∷ ts) = Valid g n lo m t × AllValid g n lo m ts

-- a tuple of the text that stands at bit b: it is a valid one, and only a repeat refuses it
pub record Stands (q : List ℕ) (g : Signature) (lo m n : ℕ) (ls : List Label) (name : List ℕ) (es : List Element) (b : ℕ) : Type 0 where
  pub tuple : Tuple
  pub valid : Valid g n lo m tuple
  pub its_bit : bit_of g n lo tuple ≡ b
  pub small : b < 64 * first_word g n lo m
  pub adds : (ts : List Tuple) → (at : ℕ) → add_tuple (relations_from q g lo m) (5 + lo) n ls ts at name es ≡ (refuse_if (is_among tuple ts) 10 at >>= λ _. accepted (ts ++ (tuple ∷ [])))

-- where a tuple of the text stands, or that it is refused
unfoldable pub Spotted : List ℕ → Signature → ℕ → ℕ → ℕ → List Label → List ℕ → List Element → Result ℕ Cause → Type 0
Spotted q g lo m n ls name es (Ok b) = Stands q g lo m n ls name es b
Spotted q g lo m n ls name es (Err k) = (ts : List Tuple) → (at : ℕ) → add_tuple (relations_from q g lo m) (5 + lo) n ls ts at name es ≡ refused (number_of k) at

-- what adding a tuple gives, by the answer
unfoldable pub Adds : List ℕ → Signature → ℕ → ℕ → ℕ → List Label → List ℕ → List Element → List Tuple → ℕ → List ℕ → Result (Unit {0}) Cause → Type 0
Adds q g lo m n ls name es ts at new (Ok u) =
    (t : Tuple) × (add_tuple (relations_from q g lo m) (5 + lo) n ls ts at name es ≡ accepted (ts ++ (t ∷ []))) × AllValid g n lo m (ts ++ (t ∷ [])) × (bit new ≡ marks (bit_of g n lo) (ts ++ (t ∷ [])))
Adds q g lo m n ls name es ts at new (Err k) = add_tuple (relations_from q g lo m) (5 + lo) n ls ts at name es ≡ refused (number_of k) at

-- the same for any tuples so far that the table holds
unfoldable pub Added : List ℕ → Signature → ℕ → ℕ → ℕ → List Label → List ℕ → List Element → List ℕ → List ℕ → Result (Unit {0}) Cause → Type 0
Added q g lo m n ls name es old new r = (ts : List Tuple) → (at : ℕ) → AllValid g n lo m ts → bit old ≡ marks (bit_of g n lo) ts → Adds q g lo m n ls name es ts at new r
