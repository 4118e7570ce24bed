-- `call_build::build_text_in` meets its contract: the case is refused, or words are lent that hold the picks of the text. Assumes nothing.
use Rattle.std.proofs.lemmas.Result.{err_from_is_err_and}
use Rattle.std.specs.Prelude.{[], Err}
use native.Mathlib.Omega.{arith}
use Rattle.definitions.specs.Limits.{usual}
use Rattle.problem_table.specs.Lines.{table_length}
use Rattle.read_sheets.proofs.Loops.{no_label_words}
use Rattle.problem_layout.specs.LaidLaws.{most_zeros}
use Rattle.open_case.specs.Fronts.{filed_alone}
use Rattle.call_build.specs.Calls.{call_case, listed_asks}
use Rattle.definitions.specs.Problem.Atoms.{words_for}
use Rattle.definitions.specs.Reply.Outcome.{read_filed, build_steps}
use Rattle.bits.specs.Table.{bit}
use Rattle.read_tuples.specs.Marks.{Roomy}
use borrow.Author.Rules.{rules}
use Rattle.call_build.proofs.build_text_in.Goals as goal

pub open_usual-requires : goal.open_usual-requires
open_usual-requires c = let p = c.requires in record { facts_room = (p.0, no_label_words, p.1); table_len = (search rules, most_zeros table_length 0) }

pub returns-in_err-f : goal.returns-in_err-f
returns-in_err-f c =
    let p = err_from_is_err_and c.from_residual.result c.from_residual.ensures.1 in
    rw (p.1, p.2) (call_case usual _ _ _ _ _ _ (filed_alone usual _ _ (Err _) [] [] [] c.in_err-f.ensures))

pub with_picks_into_both-requires-clause-takes : goal.with_picks_into_both-requires-clause-takes
unfolding words_for bit Roomy read_filed build_steps
with_picks_into_both-requires-clause-takes c = let h = listed_asks usual _ _ _ _ _ _ c.in_ok-f.ensures (omega arith) (omega arith) in search (rules, h)
