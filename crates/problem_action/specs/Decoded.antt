-- The action of a number, by the table.
use Rattle.std.specs.Prelude.{List, ℕ, zero, suc, ◌+◌, ◌-◌, ◌/◌, ◌%◌, ltb, get_or, if◌then◌else◌}
use Rattle.definitions.specs.Problem.Atoms.{Problem}
use Rattle.problem_table.specs.Lines.{relations_in, every_in, Fits}
use Rattle.problem_table.specs.Of.{Is}
use Rattle.problem_table.specs.declared.NodeLine.{NodeLine}
use Rattle.problem_table.specs.declared.Act.{Act}
use Rattle.problem_table.specs.declared.Act.TheVariants.{And, Or, Exists, Forall, MarkIn, MarkOut, Nothing}

-- the table is that of some problem, and all its numbers are in range
pub record Grounded (w : List ℕ) : Type 0 where
  pub problem : Problem
  pub is : Is problem w
  pub fits : Fits w

-- the action of an offset among those of node v, by the node's kind
unfoldable pub proof_by : List ℕ → (v off : ℕ) → NodeLine → ℕ → Act
proof_by w v off x zero = Forall (record { node = v; row = off / x.count; choice = get_or w (x.range + off % x.count) 0 })
proof_by w v off x (suc zero) = Exists (record { node = v; row = off / x.count; choice = get_or w (x.range + off % x.count) 0 })
proof_by w v off x (suc (suc zero)) = And (record { node = v; row = off })
proof_by w v off x (suc (suc (suc k))) = Or (record { node = v; row = off / x.many; choice = off % x.many })

unfoldable pub proof_in : List ℕ → (v off : ℕ) → NodeLine → Act
proof_in w v off x = proof_by w v off x x.kind

-- that of an offset past the end of a round: the marks of the last relation's tuples, if that is the one of an `every` line
unfoldable pub mark_at : List ℕ → ℕ → Act
mark_at w off =
    if ltb off (every_in w) then MarkIn (record { relation = relations_in w - 1; row = off })
    else if ltb (off - every_in w) (every_in w) then MarkOut (record { relation = relations_in w - 1; row = off - every_in w })
    else Nothing
