-- `read_line::two` meets its contract.
use native.Mathlib.Omega.{arith}
use Rattle.read_line.proofs.Fields.{two_none, two_more, two_yes}
use Rattle.read_line.proofs.Tabs.{found}
use Rattle.read_line.proofs.two.Goals as goal

pub returns-then-t-e : goal.returns-then-t-e
returns-then-t-e c = two_none _ _ _ (omega arith) (omega arith) _ c.find-t.ensures (omega arith)

pub overflow_add-t : goal.overflow_add-t
overflow_add-t c = omega (arith, found _ _ _ _ _ c.requires c.find-t.ensures)

pub find-u-requires : goal.find-u-requires
find-u-requires c = omega (arith, found _ _ _ _ _ c.requires c.find-t.ensures)

pub returns-then-u-e : goal.returns-then-u-e
returns-then-u-e c =
    let f = c.find-t.ensures in let h = found _ _ _ _ _ c.requires f in
    two_more _ _ _ (omega arith) (omega arith) _ f (omega arith) _ c.find-u.ensures (omega arith)

pub returns : goal.returns
returns c =
    let f = c.find-t.ensures in let h = found _ _ _ _ _ c.requires f in
    two_yes _ _ _ (omega arith) (omega arith) _ f (omega arith) _ c.find-u.ensures (omega arith)
