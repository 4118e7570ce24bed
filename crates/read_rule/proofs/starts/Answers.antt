-- `starts` meets its contract.
use Prim.Native.Nat.{ℕ, ◌-◌}
use mathlib.Core.Path.{◌≡◌, refl, ap, ◌∙◌}
use mathlib.Core.List.{List, [], ◌∷◌}
use native.Mathlib.Omega.{arith}
use lib.Dec.{eqb}
use lib.ListN.{length, take, drop, length-drop}
use Rattle.std.proofs.Common.{take_all}
use Rattle.std.specs.Cmp.Lexicographic.{pointwise}
use Rattle.definitions.specs.Sheet.Parsing.{begins}
use Rattle.read_rule.proofs.starts.Goals as goal

-- the library's test is the definitions'
begins_as : (p l : List ℕ) → pointwise eqb p (take (length p) l) ≡ begins p l
unfolding begins
begins_as [] [] = refl
begins_as [] (b ∷ l) = refl
begins_as (a ∷ p) [] = refl
begins_as (a ∷ p) (b ∷ l) = rw (begins_as p l)

rest : (at : ℕ) (s : List ℕ) → take (length s - at) (drop at s) ≡ drop at s
rest at s = take_all (length s - at) (drop at s) (omega (arith, length-drop at s))

pub returns : goal.returns
returns c = c.starts_with.ensures.value ∙ begins_as _ _ ∙ ap (begins c.args.p.now) (rest c.args.at c.args.s.now)
