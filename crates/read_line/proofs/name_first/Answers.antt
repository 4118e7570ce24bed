-- `read_line::name_first` meets its contract.
use native.Mathlib.Omega.{arith}
use Rattle.read_line.proofs.Fields.{named_none, named_bad, named_some}
use Rattle.read_line.proofs.Tabs.{found}
use Rattle.read_line.proofs.name_first.Goals as goal

pub returns-then-t-e : goal.returns-then-t-e
returns-then-t-e c = named_none _ _ _ (omega arith) (omega arith) _ c.find-t.ensures (omega arith)

pub overflow_add-t : goal.overflow_add-t
overflow_add-t c = omega (arith, found _ _ _ _ _ c.requires c.find-t.ensures)

pub first-requires : goal.first-requires
first-requires c = omega (arith, found _ _ _ _ _ c.requires c.find-t.ensures)

pub returns-in_err-p : goal.returns-in_err-p
returns-in_err-p c =
    let f = c.find-t.ensures in let h = found _ _ _ _ _ c.requires f in
    rw c.from_residual.ensures (named_bad _ _ _ (omega arith) (omega arith) _ f (omega arith) c.in_err-p.ensures)

pub returns : goal.returns
returns c =
    let f = c.find-t.ensures in let h = found _ _ _ _ _ c.requires f in
    named_some _ _ _ (omega arith) (omega arith) _ f (omega arith) _ c.in_ok-p.ensures
