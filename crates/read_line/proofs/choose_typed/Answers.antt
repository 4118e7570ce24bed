-- `read_line::choose_typed` meets its contract.
use native.Mathlib.Omega.{arith}
use borrow.Author.Rules.{rules}
use Rattle.read_line.proofs.Made.{kind_tag, typed_none, typed_bad, typed_good}
use Rattle.read_line.proofs.choose_typed.Goals as goal

pub returns-in_err-kind : goal.returns-in_err-kind
returns-in_err-kind c = rw c.from_residual.ensures (typed_none _ _ _ _ _ (omega arith) (omega arith) (omega arith) (omega arith) c.in_err-kind.ensures)

pub returns-in_err-v : goal.returns-in_err-v
returns-in_err-v c = search (rules, typed_bad)

pub returns : goal.returns
returns c = rw (kind_tag c.in_ok-kind.kind) (typed_good _ _ _ _ _ (omega arith) (omega arith) (omega arith) (omega arith) _ c.in_ok-kind.ensures _ c.in_ok-v.ensures)
