-- `problem_table::take_set` meets its contract.
use Prim.Native.Nat.{ℕ, ◌+◌}
use mathlib.Core.Path.{◌≡◌, ◌∙◌}
use mathlib.Core.Bool.{Bool}
use mathlib.Core.List.{[], ◌∷◌}
use native.Mathlib.Omega.{arith}
use Rattle.problem_table.specs.declared.RelationLine.{RelationLine}
use Rattle.problem_table.specs.Numbers.{changed, free_numbers, set_removes}
use Rattle.problem_table.specs.ChangeLaws.{set_changes}
use Rattle.problem_table.proofs.take_set.Goals as goal

-- the not-tuple and the free atoms go, then the tuple comes
all_three : (s a b z : ℕ → Bool) (n row i : ℕ) (k : RelationLine) → a ≡ changed s ((k.nots + row) ∷ []) []
    → b ≡ changed a (free_numbers n k.kind k.free row) [] → z ≡ changed b [] (i ∷ []) → z ≡ changed s (set_removes n k row) (i ∷ [])
all_three s a b z n row i k p q r = r ∙ rw (q, p) (set_changes _ _ k _ _)

pub returns : goal.returns
returns c = λ h. all_three _ _ _ _ _ _ _ _ c.clear.ensures c.free_clear.ensures (c.raise.ensures (omega arith))
