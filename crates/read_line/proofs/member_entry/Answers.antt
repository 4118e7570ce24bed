-- `read_line::member_entry` meets its contract.
use native.Mathlib.Omega.{arith}
use borrow.Author.Rules.{rules}
use Rattle.read_line.proofs.Fields.{two_bounds}
use Rattle.read_line.proofs.Made.{member_none, member_bad, member_good}
use Rattle.read_line.proofs.member_entry.Goals as goal

pub overflow_add-t : goal.overflow_add-t
overflow_add-t c = omega (arith, two_bounds _ _ _ _ c.in_ok-t.ensures)

pub element-requires : goal.element-requires
element-requires c = omega (arith, two_bounds _ _ _ _ c.in_ok-t.ensures)

pub returns-in_err-t : goal.returns-in_err-t
returns-in_err-t c = search (rules, member_none)

pub returns-in_err-k : goal.returns-in_err-k
returns-in_err-k c = search (rules, member_bad)

pub returns : goal.returns
returns c = member_good _ _ _ (omega arith) _ c.in_ok-t.ensures _ c.in_ok-k.ensures
