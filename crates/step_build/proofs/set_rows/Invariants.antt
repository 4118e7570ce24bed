use Prim.Native.Nat.{ℕ, ◌+◌, ◌-◌, ◌<◌, ◌≤◌}
use mathlib.Core.Path.{◌≡◌}
use lib.ListN.{length}
use Rattle.bits.specs.Table.{bit}
use Rattle.definitions.specs.Problem.Atoms.{Problem, relation_at}
use Rattle.definitions.specs.Problem.Actions.{sets_of}
use Rattle.problem_table.specs.Lines.{relation_line}
use Rattle.step_prove.specs.Following.{ReadyToFollow, out}
use Rattle.step_build.specs.Setting.{set_rows}
use Rattle.step_build.proofs.set_rows.Given as goal

abbrev pub invariant-loop-off : goal.invariant-loop-off
invariant-loop-off l = (l.off ≤ l.count) × (l.k ≤ l.at + l.off) × (length l.state ≡ length l.initial.state) × (length l.steps ≡ length l.initial.steps)
    × ((p : Problem) → ReadyToFollow p l.table (length l.initial.state) → l.relation < length p.relations → l.line ≡ relation_line l.table l.relation
    → l.count ≡ sets_of p.size p.range (relation_at p l.relation) → set_rows p l.relation (λ (i : ℕ). bit l.picks (l.start + i)) (out (bit l.initial.state) l.initial.steps l.at) 0 l.count
    ≡ set_rows p l.relation (λ (i : ℕ). bit l.picks (l.start + i)) (out (bit l.state) l.steps l.k) l.off (l.count - l.off))

abbrev pub decreases-loop-off : goal.decreases-loop-off
decreases-loop-off l = l.count - l.off
