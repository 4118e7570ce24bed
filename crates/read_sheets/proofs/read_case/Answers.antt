-- `read_sheets::read_case` meets its contract.
use borrow.Author.Rules.{rules}
use Rattle.read_sheets.specs.Opening.{case_alone}
use Rattle.read_sheets.proofs.Loops.{no_label_words}
use Rattle.read_sheets.proofs.read_case.Goals as goal

pub read_filed-requires : goal.read_filed-requires
read_filed-requires c = (search rules, search rules, no_label_words, search rules)

pub returns : goal.returns
returns c = λ L e. case_alone L _ _ _ _ _ (c.read_filed.ensures L e)
