-- `read_line::first` meets its contract.
use mathlib.Core.Path.{sym, ◌∙◌}
use native.Mathlib.Omega.{arith}
use borrow.Author.Rules.{rules}
use Rattle.read_line.proofs.Fields.{num_is, num_bad, first_bad, first_good, places_next}
use Rattle.read_line.proofs.Tabs.{found}
use Rattle.read_line.proofs.first.Goals as goal

pub element-requires : goal.element-requires
element-requires c = omega (arith, found _ _ _ _ _ c.requires c.find-t.ensures)

pub returns-then-t-e : goal.returns-then-t-e
returns-then-t-e c =
    let k = num_is _ _ _ c.in_ok-x.was c.element.ensures in
    c.more.ensures ∙ sym (places_next _ _ c.args.e (omega arith)
    (omega arith) _ c.find-t.ensures 2 _ k (omega arith))

pub returns-in_err-x : goal.returns-in_err-x
returns-in_err-x c = search (rules, first_bad, num_bad)

pub returns : goal.returns
returns c = search (rules, first_good, num_is)
