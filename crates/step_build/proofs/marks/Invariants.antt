use Prim.Native.Nat.{◌+◌, ◌-◌, ◌≤◌}
use mathlib.Core.Path.{◌≡◌}
use lib.ListN.{length}
use Rattle.bits.specs.Table.{bit}
use Rattle.definitions.specs.Sheet.Sheets.{every_number}
use Rattle.definitions.specs.Problem.Atoms.{Problem}
use Rattle.definitions.specs.Problem.Built.{marks_from, marks_after}
use Rattle.meaning.specs.Means.{Good}
use Rattle.step_prove.specs.Following.{ReadyToFollow, out}
use Rattle.step_build.specs.Ways.{follow}
use Rattle.step_build.proofs.marks.Given as goal

abbrev pub invariant-loop-i : goal.invariant-loop-i
invariant-loop-i l = (l.i ≤ l.count) × (l.n ≤ l.at + l.i) × (length l.state ≡ length l.initial.state) × (length l.steps ≡ length l.initial.steps)
    × ((p : Problem) (G : Good p) → ReadyToFollow p l.table (length l.initial.state)
    → follow p (out (bit l.initial.state) l.initial.steps l.at) (marks_after p l.k) ≡ follow p (out (bit l.state) l.steps l.n) (marks_from (every_number p.source.question) (l.count - l.i) l.i l.m))
