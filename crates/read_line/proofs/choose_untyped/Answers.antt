-- `read_line::choose_untyped` meets its contract.
use native.Mathlib.Omega.{arith}
use borrow.Author.Rules.{rules}
use Rattle.read_line.proofs.Made.{kind_tag, untyped_bad, untyped_good, untyped_kind}
use Rattle.read_line.proofs.choose_untyped.Goals as goal

pub returns-in_err-k-in-None : goal.returns-in_err-k-in-None
returns-in_err-k-in-None c = search (rules, untyped_bad)

pub returns-in-Some : goal.returns-in-Some
returns-in-Some c = rw (kind_tag c.in-Some.kind) (untyped_kind _ _ _ _ (omega arith) (omega arith) (omega arith) _ c.in-Some.ensures)

pub returns-in_ok-k-in-None : goal.returns-in_ok-k-in-None
returns-in_ok-k-in-None c = untyped_good _ _ _ _ (omega arith) (omega arith) (omega arith) c.in-None.ensures _ c.in_ok-k-in-None.ensures.is c.in_ok-k-in-None.ensures.within
