-- `read_tuples::word_of` meets its contract. The sum is the words of the relations from lo up to j.
use Prim.Native.Nat.{ℕ, ◌*◌, ◌≤◌}
use mathlib.Core.Path.{◌≡◌}
use mathlib.Core.List.{List}
use Rattle.read_names.specs.declared.Signature.{Signature}
use Rattle.read_names.specs.Signatures.{with_arrays}
use Rattle.read_tuples.specs.Marks.{first_word}
use Rattle.read_tuples.proofs.word_of.Given as goal

abbrev pub invariant-loop-k : goal.invariant-loop-k
invariant-loop-k l = ((g : Signature) → (from to : List ℕ) → l.sum ≡ first_word
    (with_arrays g from to l.arity) l.n l.lo l.k-index) × (l.sum ≤ 4096 * l.k-index)
