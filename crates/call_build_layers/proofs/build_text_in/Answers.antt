-- `call_build_layers::build_text_in` meets its contract. Assumes nothing.
use Rattle.std.proofs.lemmas.Result.{err_from_is_err_and}
use Rattle.std.specs.Prelude.{[], Err}
use Rattle.definitions.specs.Limits.{usual}
use Rattle.problem_table.specs.Lines.{table_length}
use Rattle.read_sheets.proofs.Loops.{no_label_words}
use Rattle.problem_layout.specs.LaidLaws.{most_zeros}
use Rattle.open_case.specs.Fronts.{filed_alone}
use Rattle.call_build_layers.specs.Calls.{call_case}
use borrow.Author.Rules.{rules}
use Rattle.call_build_layers.proofs.build_text_in.Goals as goal

pub open_usual-requires : goal.open_usual-requires
open_usual-requires c = record { facts_room = (c.requires.0, no_label_words, c.requires.1); table_len = (search rules, most_zeros table_length 0) }

pub returns-in_err-f : goal.returns-in_err-f
returns-in_err-f c =
    let p = err_from_is_err_and c.from_residual.result c.from_residual.ensures.1 in
    rw (p.1, p.2) (call_case usual _ _ _ _ _ _ _ (filed_alone usual _ _ (Err _) [] [] [] c.in_err-f.ensures))

pub build_opened-requires : goal.build_opened-requires
build_opened-requires c = c.in_ok-f.ensures

pub returns : goal.returns
returns c = c.build_opened.ensures
