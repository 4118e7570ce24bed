-- `problem_layout::start_of` meets its contract.
use native.Mathlib.Omega.{arith}
use Rattle.problem_layout.specs.PartLaws.{start_tuple, start_not, start_node}
use Rattle.problem_layout.proofs.start_of.Goals as goal

pub offset_bounds-rel-which : goal.offset_bounds-rel-which
offset_bounds-rel-which c = omega (arith, c.requires.0 (omega arith))

pub bounds-rel-which : goal.bounds-rel-which
bounds-rel-which c = omega (arith, c.requires.0 (omega arith))

pub returns-then-tag-eq0 : goal.returns-then-tag-eq0
returns-then-tag-eq0 c = start_tuple _ _ _ _ _ (omega arith)

pub offset_bounds-neg-which : goal.offset_bounds-neg-which
offset_bounds-neg-which c = omega (arith, c.requires.0 (omega arith))

pub bounds-neg-which : goal.bounds-neg-which
bounds-neg-which c = omega (arith, c.requires.0 (omega arith))

pub returns-then-tag-eq1 : goal.returns-then-tag-eq1
returns-then-tag-eq1 c = start_not _ _ _ _ _ (omega arith)

pub offset_bounds-node-which : goal.offset_bounds-node-which
offset_bounds-node-which c = omega (arith, c.requires.1 (omega arith))

pub bounds-node-which : goal.bounds-node-which
bounds-node-which c = omega (arith, c.requires.1 (omega arith))

pub returns : goal.returns
returns c = start_node _ _ _ _ _ (λ e. omega arith) (λ e. omega arith)
