-- `put_row` meets its contract.
use native.Mathlib.Omega.{arith}
use lib.ListN.{length-set}
use Rattle.rule_nodes.specs.Lent.{stored_row, rows_put}
use borrow.Author.Rules.{rules}
use Rattle.rule_nodes.proofs.put_row.Goals as goal

pub bounds-rows-at-2 : goal.bounds-rows-at-2
bounds-rows-at-2 c = simp length-set (omega arith)

pub bounds-rows-at-3 : goal.bounds-rows-at-3
bounds-rows-at-3 c = simp length-set (omega arith)

pub bounds-rows-at-4 : goal.bounds-rows-at-4
bounds-rows-at-4 c = simp length-set (omega arith)

pub bounds-rows-at-5 : goal.bounds-rows-at-5
bounds-rows-at-5 c = simp length-set (omega arith)

pub bounds-rows-at-6 : goal.bounds-rows-at-6
bounds-rows-at-6 c = simp length-set (omega arith)

pub bounds-rows-at-7 : goal.bounds-rows-at-7
bounds-rows-at-7 c = simp length-set (omega arith)

pub bounds-rows-at-8 : goal.bounds-rows-at-8
bounds-rows-at-8 c = simp length-set (omega arith)

pub shape_of-rows : goal.shape_of-rows
shape_of-rows c = search rules depth 12

pub returns : goal.returns
returns c = let h = c.requires in (simp length-set h.0, rw stored_row (rows_put _ _ _ h.0 h.1 (search rules)))
