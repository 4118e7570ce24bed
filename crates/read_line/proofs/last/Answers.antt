-- `read_line::last` meets its contract.
use native.Mathlib.Omega.{arith}
use borrow.Author.Rules.{rules}
use Rattle.read_line.proofs.Fields.{num_is, num_bad, last_bad, last_over, last_good}
use Rattle.read_line.proofs.Tabs.{found}
use Rattle.read_line.proofs.last.Goals as goal

pub element-requires : goal.element-requires
element-requires c = omega (arith, found _ _ _ _ _ c.requires c.find-t.ensures)

pub returns-then-t-e : goal.returns-then-t-e
returns-then-t-e c = search (rules, last_over)

pub returns-in_err-z : goal.returns-in_err-z
returns-in_err-z c = search (rules, last_bad, num_bad)

pub returns : goal.returns
returns c = search (rules, last_good, num_is)
