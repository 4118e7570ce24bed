-- Document 01, "Atoms": rows. Tuples of any number of places are numbered with the "first place most significant".
use Rattle.std.specs.Prelude.{ℕ, zero, suc, ◌+◌, ◌*◌, ◌/◌, ◌%◌, ◌^◌, List, [], ◌∷◌, length}

-- the row of the values of places, among n elements
unfoldable pub row_of : ℕ → List ℕ → ℕ
row_of n [] = zero
row_of n (x ∷ xs) = x * n ^ length xs + row_of n xs

-- the k values of a row
unfoldable pub places_of : ℕ → ℕ → ℕ → List ℕ
places_of n zero row = []
places_of n (suc k) row = row / n ^ k % n ∷ places_of n k row
