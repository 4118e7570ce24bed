-- `read_line::name_and_arity` meets its contract.
use native.Mathlib.Omega.{arith}
use borrow.Author.Rules.{rules}
use Rattle.read_line.proofs.Fields.{two_bounds, pair_none, pair_bad, pair_good}
use Rattle.read_line.proofs.name_and_arity.Goals as goal

pub overflow_add-t : goal.overflow_add-t
overflow_add-t c = omega (arith, two_bounds _ _ _ _ c.in_ok-t.ensures)

pub arity-requires : goal.arity-requires
arity-requires c = omega (arith, two_bounds _ _ _ _ c.in_ok-t.ensures)

pub returns-in_err-t : goal.returns-in_err-t
returns-in_err-t c = search (rules, pair_none)

pub returns-in_err-k : goal.returns-in_err-k
returns-in_err-k c = search (rules, pair_bad)

pub returns : goal.returns
returns c = pair_good _ _ _ _ _ c.in_ok-t.ensures _ c.in_ok-k.ensures.is c.in_ok-k.ensures.within
