-- Document 01, "The sheets": lines, fields, numbers and names.
use Rattle.std.specs.Prelude.{ℕ, zero, suc, ◌+◌, ◌-◌, ◌*◌, ◌/◌, ◌%◌, Bool, true, false, not, ◌&&◌, ◌||◌, List, [], ◌∷◌, ◌++◌, length, eqb, leb, if◌then◌else◌}
use Prim.Native.String.{String, [] as ε, ◌∷◌ as ◌∶◌}
use Prim.Native.Char.{code}
use Rattle.std.proofs.Math.Option.{Option, none, some}
use Rattle.definitions.specs.Limits.{digit_limit, name_limit, variable_limit}
use Rattle.definitions.specs.Lists.{Text, all, is_empty}

-- a quoted ASCII text as its bytes (it stands for them wherever it is written)
abbrev pub bytes : String → Text
bytes ε = []
bytes (c ∶ s) = code c ∷ bytes s

-- A text cut at each byte `sep`: there is always one piece more than there are such bytes.
unfoldable pub on_first : ℕ → List Text → List Text
on_first b [] = []
on_first b (p ∷ ps) = (b ∷ p) ∷ ps

unfoldable pub split : ℕ → Text → List Text
split sep [] = [] ∷ []
split sep (b ∷ bs) = if eqb b sep then [] ∷ split sep bs else on_first b (split sep bs)

-- Lines end in byte 10 and their fields are parted by byte 9. No byte value has a test of its own: one that fits no word, number
-- or name is judged where it stands. A line is the place of its first byte, whether a byte 10 ends it, and the bytes before that.
pub record Line : Type 0 where
  pub at : ℕ
  pub ended : Bool
  pub content : Text

unfoldable pub lines_from : ℕ → List Text → List Line
lines_from at [] = []
lines_from at (p ∷ []) = if is_empty p then [] else record { at = at; ended = false; content = p } ∷ []
lines_from at (p ∷ q ∷ qs) = record { at = at; ended = true; content = p } ∷ lines_from (at + length p + 1) (q ∷ qs)

unfoldable pub lines : Text → List Line
lines text = lines_from zero (split 10 text)

-- the first of a line's fields is its record word
unfoldable pub fields : Line → List Text
fields l = split 9 l.content

-- A number is 1 to 7 decimal digits, and 0 comes first only where it stands alone.
unfoldable pub is_between : ℕ → ℕ → ℕ → Bool
is_between a e b = leb a b && leb b e

unfoldable pub is_digit : ℕ → Bool
is_digit b = is_between 48 57 b

unfoldable pub decimal_value : ℕ → Text → ℕ
decimal_value v [] = v
decimal_value v (b ∷ bs) = decimal_value (v * 10 + (b - 48)) bs

unfoldable pub no_leading_zero : Text → Bool
no_leading_zero [] = false
no_leading_zero (b ∷ []) = true
no_leading_zero (b ∷ c ∷ bs) = not (eqb b 48)

unfoldable pub number : Text → Option ℕ
number bs = if all is_digit bs && no_leading_zero bs && leb (length bs) digit_limit then some (decimal_value zero bs) else none

-- A number written in decimal. Twenty digits are enough for 64 bits.
unfoldable pub decimal_in : ℕ → ℕ → Text
decimal_in zero n = []
decimal_in (suc k) n = if leb n 9 then (n + 48) ∷ [] else decimal_in k (n / 10) ++ ((n % 10 + 48) ∷ [])

unfoldable pub decimal : ℕ → Text
decimal n = decimal_in 20 n

-- A relation's name has 1 to 12 bytes: a capital, and after it capitals, digits and underscores (95).
unfoldable pub is_capital : ℕ → Bool
is_capital b = is_between 65 90 b

unfoldable pub is_relation_name : Text → Bool
is_relation_name [] = false
is_relation_name (b ∷ bs) = is_capital b && all (λ c. is_capital c || is_digit c || eqb c 95) bs && leb (length (b ∷ bs)) name_limit

-- A variable has 2 to 8 bytes: a question mark (63), a small letter, and after it small letters, digits and underscores.
unfoldable pub is_small : ℕ → Bool
is_small b = is_between 97 122 b

unfoldable pub is_variable : Text → Bool
is_variable [] = false
is_variable (q ∷ []) = false
is_variable (q ∷ b ∷ bs) =
    eqb q 63 && is_small b && all (λ c. is_small c || is_digit c || eqb c 95) bs && leb (length (q ∷ b ∷ bs)) variable_limit
