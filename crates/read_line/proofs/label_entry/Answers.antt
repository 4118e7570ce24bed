-- `read_line::label_entry` meets its contract.
use mathlib.Core.Path.{sym, ◌∙◌}
use native.Mathlib.Omega.{arith}
use borrow.Author.Rules.{rules}
use Rattle.read_line.proofs.Fields.{two_bounds}
use Rattle.read_line.proofs.Made.{label_none, label_malformed, label_bad, label_good}
use Rattle.read_line.proofs.label_entry.Goals as goal

pub overflow_add-t : goal.overflow_add-t
overflow_add-t c = omega (arith, two_bounds _ _ _ _ c.in_ok-t.ensures)

pub is_relation_name-requires : goal.is_relation_name-requires
is_relation_name-requires c = omega (arith, two_bounds _ _ _ _ c.in_ok-t.ensures)

pub element-requires : goal.element-requires
element-requires c = omega (arith, two_bounds _ _ _ _ c.in_ok-t.ensures)

pub returns-in_err-t : goal.returns-in_err-t
returns-in_err-t c = search (rules, label_none)

pub returns-then-not-is_relation_name : goal.returns-then-not-is_relation_name
returns-then-not-is_relation_name c = label_malformed _ _ _ (omega arith) _ c.in_ok-t.ensures (sym c.is_relation_name.ensures ∙ c.if-not-is_relation_name.true)

pub returns-in_err-k : goal.returns-in_err-k
returns-in_err-k c =
    let name = sym c.is_relation_name.ensures ∙ c.if-not-is_relation_name.false in
    search (rules, label_bad)

pub returns : goal.returns
returns c = label_good _ _ _ (omega arith) _ c.in_ok-t.ensures (sym c.is_relation_name.ensures ∙ c.if-not-is_relation_name.false) _ c.in_ok-k.ensures
