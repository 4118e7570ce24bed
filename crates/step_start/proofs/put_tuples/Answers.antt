-- `step_start::put_tuples`: each way by a law of its own. Assumes nothing.
use native.Mathlib.Omega.{arith}
use Rattle.step_start.specs.RowLaws.{rows_le, rows_some, tuples_none, tuples_built, tuples_facts, tuples_chosen, tuples_count}
use Rattle.step_start.proofs.put_tuples.Goals as goal

pub returns-then-count-eq0 : goal.returns-then-count-eq0
returns-then-count-eq0 c = λ h. tuples_none _ _ _ _ _ _ _ (omega (arith, c.rows-count.ensures))

pub put_built_in-requires : goal.put_built_in-requires
put_built_in-requires c = let a = c.args in (omega arith, omega arith, omega arith, omega arith, omega (arith, c.rows-count.ensures, rows_le a.k))

pub put_built_in-requires-then-r-lt5 : goal.put_built_in-requires-then-r-lt5
put_built_in-requires-then-r-lt5 c = let a = c.args in (omega arith, omega arith, omega arith, omega arith, omega (arith, c.rows-count.ensures, rows_le a.k))

pub returns-then-r-lt5 : goal.returns-then-r-lt5
returns-then-r-lt5 c =
    λ h.
    let a = c.args in let q = c.rows-count.ensures in let z = rows_some a.k (omega (arith, q)) in
    tuples_count _ _ _ _ _ _ _ _ q (tuples_built _ _ _ _ _ _ _ (omega arith) (c.put_built_in.ensures (omega (arith, q, z))) (c.put_built_in-then-r-lt5.ensures (omega (arith, q, c.put_built_in.auto.state))))

pub copy-requires : goal.copy-requires
copy-requires c = let a = c.args in (omega arith, omega arith, omega (arith, c.rows-count.ensures, rows_le a.k))

pub copy-requires-then-k-eq0 : goal.copy-requires-then-k-eq0
copy-requires-then-k-eq0 c = let a = c.args in (omega arith, omega arith, omega (arith, c.rows-count.ensures, rows_le a.k))

pub returns-then-k-eq0 : goal.returns-then-k-eq0
returns-then-k-eq0 c =
    λ h.
    let a = c.args in let q = c.rows-count.ensures in let z = rows_some a.k (omega (arith, q)) in
    tuples_count _ _ _ _ _ _ _ _ q (tuples_facts _ _ _ _ _ _ _ (omega arith) (omega arith) (c.copy.ensures (omega (arith, q, z))) (c.copy-then-k-eq0.ensures (omega (arith, q, c.copy.auto.words))))

pub set_range-requires : goal.set_range-requires
set_range-requires c = let a = c.args in (omega arith, omega (arith, c.rows-count.ensures, rows_le a.k))

pub returns : goal.returns
returns c =
    λ h.
    let q = c.rows-count.ensures in tuples_count _ _ _ _ _ _ _ _ q (tuples_chosen _ _ _ _ _ _ _ (omega arith) (λ e. omega arith) (c.set_range.ensures (omega (arith, q))))
