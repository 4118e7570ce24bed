-- `problem_action::proof_of` meets its contract.
use native.Mathlib.Omega.{arith}
use native.Mathlib.Nat.{mod-lt}
use Rattle.problem_action.specs.Found.{in_forall, in_exists, in_and, in_or}
use Rattle.problem_action.proofs.proof_of.Goals as goal

-- a `forall`
pub nonzero_div-result : goal.nonzero_div-result
nonzero_div-result c = c.requires.2 (omega arith)

pub nonzero_rem-result : goal.nonzero_rem-result
nonzero_rem-result c = c.requires.2 (omega arith)

pub overflow_add-result : goal.overflow_add-result
overflow_add-result c = omega (arith, c.requires.1, mod-lt c.args.off (c.requires.2 (omega arith)))

pub offset_bounds-table-range : goal.offset_bounds-table-range
offset_bounds-table-range c = omega (arith, c.requires.1, mod-lt c.args.off (c.requires.2 (omega arith)))

pub bounds-table-range : goal.bounds-table-range
bounds-table-range c = omega (arith, c.requires.0, c.requires.1, mod-lt c.args.off (c.requires.2 (omega arith)))

pub returns-then-line-eq0 : goal.returns-then-line-eq0
returns-then-line-eq0 c = let a = c.args in in_forall a.table.now a.v a.off a.line (omega arith)

-- an `exists`
pub nonzero_div-result-then-line-eq1 : goal.nonzero_div-result-then-line-eq1
nonzero_div-result-then-line-eq1 c = c.requires.2 (omega arith)

pub nonzero_rem-result-then-line-eq1 : goal.nonzero_rem-result-then-line-eq1
nonzero_rem-result-then-line-eq1 c = c.requires.2 (omega arith)

pub overflow_add-result-then-line-eq1 : goal.overflow_add-result-then-line-eq1
overflow_add-result-then-line-eq1 c = omega (arith, c.requires.1, mod-lt c.args.off (c.requires.2 (omega arith)))

pub offset_bounds-table-range-then-line-eq1 : goal.offset_bounds-table-range-then-line-eq1
offset_bounds-table-range-then-line-eq1 c = omega (arith, c.requires.1, mod-lt c.args.off (c.requires.2 (omega arith)))

pub bounds-table-range-then-line-eq1 : goal.bounds-table-range-then-line-eq1
bounds-table-range-then-line-eq1 c = omega (arith, c.requires.0, c.requires.1, mod-lt c.args.off (c.requires.2 (omega arith)))

pub returns-then-line-eq1 : goal.returns-then-line-eq1
returns-then-line-eq1 c = let a = c.args in in_exists a.table.now a.v a.off a.line (omega arith)

-- an `and`, an `or`
pub returns-then-line-eq2 : goal.returns-then-line-eq2
returns-then-line-eq2 c = let a = c.args in in_and a.table.now a.v a.off a.line (omega arith)

pub nonzero_div-result-2 : goal.nonzero_div-result-2
nonzero_div-result-2 c = c.requires.3 (omega arith)

pub nonzero_rem-result-2 : goal.nonzero_rem-result-2
nonzero_rem-result-2 c = c.requires.3 (omega arith)

pub returns : goal.returns
returns c = let a = c.args in in_or a.table.now a.v a.off a.line (λ e. omega arith) (λ e. omega arith) (λ e. omega arith)
