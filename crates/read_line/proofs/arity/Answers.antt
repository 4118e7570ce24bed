-- `read_line::arity` meets its contract.
use native.Mathlib.Omega.{arith}
use borrow.Author.Rules.{rules}
use Rattle.read_line.proofs.Fields.{arity_bad, arity_low, arity_high, arity_good}
use Rattle.read_line.proofs.arity.Goals as goal

pub returns-in_err-k-clause-is : goal.returns-in_err-k-clause-is
returns-in_err-k-clause-is c = search (rules, arity_bad)

pub returns-then-k-lt1-clause-is : goal.returns-then-k-lt1-clause-is
returns-then-k-lt1-clause-is c = arity_low _ _ _ c.in_ok-k.ensures (omega arith)

pub returns-then-most-k-clause-is : goal.returns-then-most-k-clause-is
returns-then-most-k-clause-is c = arity_high _ _ _ c.in_ok-k.ensures (omega arith) (omega arith)

pub returns-clause-is : goal.returns-clause-is
returns-clause-is c = arity_good _ _ _ c.in_ok-k.ensures (omega arith) (omega arith)
