-- `read_line::record` meets its contract. The record word says which form the fields after it must have.
use native.Mathlib.Omega.{arith}
use Rattle.read_line.proofs.Fields.{record_alone, record_other, record_by}
use Rattle.read_line.proofs.Tabs.{found}
use Rattle.read_line.proofs.record.Goals as goal

pub returns-then-t-e : goal.returns-then-t-e
returns-then-t-e c = record_alone _ _ _ (omega arith) (omega arith) _ c.find-t.ensures c.if-t-e.true

pub record_word-requires : goal.record_word-requires
record_word-requires c = omega (arith, found _ _ _ _ _ c.requires c.find-t.ensures)

pub returns-in_err-word : goal.returns-in_err-word
returns-in_err-word c =
    let f = c.find-t.ensures in let h = found _ _ _ _ _ c.requires f in
    rw c.from_residual.ensures (record_other _ _ _ (omega arith) (omega arith) _ f (omega arith) c.in_err-word.ensures)

pub overflow_add-t : goal.overflow_add-t
overflow_add-t c = omega (arith, found _ _ _ _ _ c.requires c.find-t.ensures)

pub after_word-requires : goal.after_word-requires
after_word-requires c = omega (arith, found _ _ _ _ _ c.requires c.find-t.ensures)

pub returns : goal.returns
returns c =
    let f = c.find-t.ensures in let h = found _ _ _ _ _ c.requires f in
    record_by _ _ _ (omega arith) (omega arith) _ f (omega arith) _ c.in_ok-word.ensures _ c.after_word.ensures
