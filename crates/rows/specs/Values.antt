-- Values of levels in an array, and the weight of a level in a row.
use Rattle.std.specs.Prelude.{List, [], ◌∷◌, ℕ, ◌+◌, ◌*◌, ◌^◌, ◌≤◌, ◌<◌, eqb, length, get_or, if◌then◌else◌}
use Rattle.definitions.specs.Problem.Actions.{Values}

unfoldable pub value_in : List ℕ → Values
value_in xs l = get_or xs l 0

-- each value is an element
abbrev pub Within : ℕ → List ℕ → Type 0
Within n env = (l : ℕ) → get_or env l 0 < n

-- each entry is at most b
abbrev pub Most : List ℕ → ℕ → Type 0
Most xs b = (i : ℕ) → get_or xs i 0 ≤ b

-- by how much the row of the values of levels grows with the value of level l: a power of n for each place that l stands at
unfoldable pub weight_of : ℕ → List ℕ → Values
weight_of n [] l = 0
weight_of n (x ∷ xs) l = (if eqb l x then n ^ length xs else 0) + weight_of n xs l

-- the sum of the values of all levels, each by its weight
abbrev pub weighed : (e w : Values) → ℕ
weighed e w = e 0 * w 0 + (e 1 * w 1 + (e 2 * w 2 + e 3 * w 3))
