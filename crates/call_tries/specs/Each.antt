-- The records of a table answered one after the other: the laws of a walk over them.
use Prim.Native.Nat.{ℕ, zero, suc, ◌+◌, ◌<◌, ◌≤◌}
use Rattle.std.specs.Prelude.{◌≡◌, length, get_or, set}
use Rattle.std.proofs.Math.Path.{refl, ap}
use Rattle.std.proofs.Common.{◌∙◌, add-one, not-suc-le-zero, le_of_suc-le-suc}
use mathlib.Core.List.{List, [], ◌∷◌, map}
use Rattle.definitions.specs.Refusal.{Result}
use Rattle.definitions.specs.Problem.Atoms.{Problem}
use Rattle.call_tries.specs.declared.Try.{Try}
use Rattle.definitions.specs.Reply.Tries.{try_list}
use Rattle.call_tries.specs.Recorded.{answered}

unfoldable pub answer : Problem → List ℕ → Try → Try
answer p steps e = answered e (try_list p steps e.first e.length)

-- the records before i as they stand, the others answered
unfoldable pub rest : (Try → Try) → ℕ → List Try → List Try
rest f zero es = map f es
rest f (suc i) [] = []
rest f (suc i) (e ∷ es) = e ∷ rest f i es

module _ (f : Try → Try) where
  pub rest_start : (es : List Try) → rest f zero es ≡ map f es
  unfolding rest
  rest_start es = refl

  pub rest_next : (i : ℕ) (es : List Try) (d : Try) → i < length es → rest f (suc i) (set es i (f (get_or es i d))) ≡ rest f i es
  unfolding rest
  rest_next i [] d l = absurd (not-suc-le-zero l)
  rest_next zero (e ∷ es) d l = refl
  rest_next (suc i) (e ∷ es) d l = ap (λ (x : List Try). e ∷ x) (rest_next i es d (le_of_suc-le-suc l))

  pub rest_end : (i : ℕ) (es : List Try) → length es ≤ i → rest f i es ≡ es
  unfolding rest
  rest_end zero [] l = refl
  rest_end zero (e ∷ es) l = absurd (not-suc-le-zero l)
  rest_end (suc i) [] l = refl
  rest_end (suc i) (e ∷ es) l = ap (λ (x : List Try). e ∷ x) (rest_end i es (le_of_suc-le-suc l))

-- one more record answered
pub rest_answered : (p : Problem) (steps : List ℕ) (i : ℕ) (es : List Try) (d a : Try) (x : Result ℕ) → a ≡ answered (get_or es i d) x → x ≡ try_list p steps (get_or es i d).first (get_or es i d).length → i < length es
    → rest (answer p steps) (i + 1) (set es i a) ≡ rest (answer p steps) i es
unfolding answer
rest_answered p steps i es d a x q e l =
    let z : a ≡ answer p steps (get_or es i d) = q ∙ ap (answered (get_or es i d)) e in
    rw add-one (ap (λ (t : Try). rest (answer p steps) (suc i) (set es i t)) z ∙ rest_next (answer p steps) i es d l)
