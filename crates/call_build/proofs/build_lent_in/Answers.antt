-- `call_build::build_lent_in` meets its contract: the case is refused, or steps are built from the lent words. Assumes nothing.
use Rattle.std.proofs.lemmas.Result.{err_from_is_err_and}
use native.Mathlib.Omega.{arith}
use Rattle.definitions.specs.Limits.{usual}
use Rattle.problem_table.specs.Lines.{table_length}
use Rattle.problem_layout.specs.LaidLaws.{most_zeros}
use Rattle.open_case.specs.Fronts.{front_ready}
use Rattle.call_build.specs.Calls.{call_case, few_atoms, call_lent}
use borrow.Author.Rules.{rules}
use Rattle.call_build.proofs.build_lent_in.Goals as goal

pub open_case-requires : goal.open_case-requires
open_case-requires c = record { facts_room = c.requires; table_len = (search rules, most_zeros table_length 0) }

pub returns-in_err-f : goal.returns-in_err-f
returns-in_err-f c =
    let p = err_from_is_err_and c.from_residual.result c.from_residual.ensures.1 in
    rw (p.1, p.2) (call_case usual _ _ _ _ _ _ c.in_err-f.ensures)

pub build_picks-requires : goal.build_picks-requires
build_picks-requires c = record { by_index = (_, front_ready usual _ _ _ _ _ c.in_ok-f.ensures (omega arith) (omega arith)); atoms_bound = few_atoms usual _ _ _ _ _ c.in_ok-f.ensures }

pub returns : goal.returns
returns c = call_lent usual _ _ _ _ _ c.in_ok-f.ensures (omega arith) _ _ _ _ _ _ c.build_picks.ensures
