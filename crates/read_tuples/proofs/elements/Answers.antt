-- `read_tuples::elements` meets its contract.
use mathlib.Core.Path.{sym, ◌∙◌}
use Rattle.read_tuples.proofs.Naming.{list_numbers}
use Rattle.read_tuples.proofs.elements.Goals as goal

pub returns-then-all_numbers : goal.returns-then-all_numbers
returns-then-all_numbers c = λ ls L. list_numbers _ _ _ _ c.requires.0 _ ls (sym c.all_numbers.ensures ∙ c.if-all_numbers.true)
