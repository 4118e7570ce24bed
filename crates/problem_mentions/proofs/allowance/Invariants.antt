-- `problem_mentions::allowance` meets its contract: nodes are marked from the last one up, and the atoms of those that are marked are added. Assumes nothing.
use Prim.Native.Nat.{◌-◌, ◌≤◌}
use mathlib.Core.Path.{◌≡◌}
use Rattle.problem_mentions.specs.Marks.{hits, marks_after, atoms_after}
use Rattle.problem_mentions.proofs.allowance.Given as goal

abbrev pub invariant-loop-q : goal.invariant-loop-q
invariant-loop-q l = l.hit ≡ hits l.fn.t.parts l.marks l.r l.first l.q-index

abbrev pub invariant-loop-v : goal.invariant-loop-v
invariant-loop-v l = (l.v ≤ l.t.count) × (l.marks ≡ marks_after l.t l.r (l.t.count - l.v)) × (l.total ≡ atoms_after l.n l.t l.r (l.t.count - l.v))
