-- `call_domain::domain_in` meets its contract. Assumes nothing.
use borrow.Author.Rules.{rules}
use Rattle.std.proofs.lemmas.Result.{err_from_is_err_and}
use Rattle.problem_layout.specs.LaidLaws.{most_zeros}
use Rattle.problem_table.specs.Lines.{table_length}
use Rattle.call_domain.specs.Stated.{stated_case}
use Rattle.call_domain.proofs.domain_in.Goals as goal

pub open_case-requires : goal.open_case-requires
open_case-requires c = record { facts_room = c.requires; table_len = (search rules, most_zeros table_length 0) }

pub returns-in_err-f : goal.returns-in_err-f
returns-in_err-f c =
    let p = err_from_is_err_and c.from_residual.result c.from_residual.ensures.1 in
    rw (p.1, p.2) (stated_case _ _ _ _ c.in_err-f.ensures)

pub of_case-requires : goal.of_case-requires
of_case-requires c = record { site = _; table = _; front = c.in_ok-f.ensures }

pub returns : goal.returns
returns c = c.of_case.ensures _ _ c.in_ok-f.ensures
