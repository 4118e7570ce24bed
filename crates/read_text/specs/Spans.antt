-- Where a byte first stands; bytes of names; numbers, places and kinds as the code gives them.
use Rattle.std.specs.Prelude.{ℕ, zero, suc, Bool, ◌||◌, List, [], ◌∷◌, eqb, if◌then◌else◌}
use Rattle.std.specs.Prelude.{Some, None}
use Rattle.std.specs.Prelude as P
use Rattle.std.proofs.Math.Option.{Option, none, some}
use Rattle.definitions.specs.Sheet.Relations.{Kind, static, plain, Fun, PFun, Inj, PInj, universal}
use Rattle.definitions.specs.Sheet.Text.{is_capital, is_digit}

-- the index of the first b in t, or its length where there is none
unfoldable pub index_of : ℕ → List ℕ → ℕ
index_of b [] = zero
index_of b (c ∷ t) = if eqb c b then zero else suc (index_of b t)

-- a byte of a relation's name after the first
unfoldable pub is_name_byte : ℕ → Bool
is_name_byte c = is_capital c || is_digit c || eqb c 95

-- a number or a place of the definitions, or none, as the code gives it
abbrev pub option_of : Option ℕ → P.Option ℕ
option_of none = None
option_of (some k) = Some k

-- a kind by its number
unfoldable pub kind_of : ℕ → Kind
kind_of zero = static
kind_of (suc zero) = plain
kind_of (suc (suc zero)) = Fun
kind_of (suc (suc (suc zero))) = PFun
kind_of (suc (suc (suc (suc zero)))) = Inj
kind_of (suc (suc (suc (suc (suc zero))))) = PInj
kind_of (suc (suc (suc (suc (suc (suc k)))))) = universal
