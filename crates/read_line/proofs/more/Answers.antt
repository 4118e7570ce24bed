-- `read_line::more` meets its contract.
use mathlib.Core.Path.{sym, ap, ◌∙◌}
use native.Mathlib.Omega.{arith}
use borrow.Author.Rules.{rules}
use Rattle.read_line.specs.Entries.{consed}
use Rattle.read_line.proofs.Fields.{num_is, num_bad, more_bad, more_good, places_next}
use Rattle.read_line.proofs.Tabs.{found}
use Rattle.read_line.proofs.more.Goals as goal

pub element-requires : goal.element-requires
element-requires c = omega (arith, found _ _ _ _ _ c.requires c.find-t.ensures)

pub returns-then-t-e : goal.returns-then-t-e
returns-then-t-e c =
    let k = num_is _ _ _ c.in_ok-y.was c.element.ensures in
    c.last.ensures ∙ sym (ap (consed _) (places_next _ _ c.args.e
    (omega arith) (omega arith) _ c.find-t.ensures 1 _ k (omega arith)))

pub returns-in_err-y : goal.returns-in_err-y
returns-in_err-y c = search (rules, more_bad, num_bad)

pub returns : goal.returns
returns c = search (rules, more_good, num_is)
