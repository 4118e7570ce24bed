-- `call_read::picks_text_with` meets its contract: the case is refused, or its steps are read into the list. Assumes nothing.
use Rattle.std.proofs.lemmas.Result.{err_from_is_err_and}
use native.Mathlib.Omega.{arith}
use Rattle.definitions.specs.Limits.{usual}
use Rattle.problem_table.specs.Lines.{table_length}
use Rattle.problem_layout.specs.LaidLaws.{most_zeros}
use Rattle.open_case.specs.Fronts.{front_ready}
use Rattle.call_read.specs.Reads.{call_case}
use borrow.Author.Rules.{rules}
use Rattle.call_read.proofs.picks_text_with.Goals as goal

pub open_case-requires : goal.open_case-requires
open_case-requires c = record { facts_room = c.requires.facts_room; table_len = (search rules, most_zeros table_length 0) }

pub returns-in_err-f : goal.returns-in_err-f
returns-in_err-f c =
    let p = err_from_is_err_and c.from_residual.result c.from_residual.ensures.1 in
    rw (p.1, p.2) (call_case _ _ _ usual _ _ _ c.in_err-f.ensures)

pub read_listed-requires : goal.read_listed-requires
read_listed-requires c = record { by_index = (_, front_ready usual _ _ _ _ _ c.in_ok-f.ensures (omega arith) (omega arith)); room_for = c.requires.room_for }

pub returns : goal.returns
returns c = c.read_listed.ensures usual _ _ c.in_ok-f.ensures
