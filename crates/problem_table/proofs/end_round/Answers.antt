-- `problem_table::end_round` meets its contract.
use native.Mathlib.Omega.{arith}
use Rattle.problem_table.specs.ChangeLaws.{round_changes}
use Rattle.problem_table.specs.NeedLaws.{atoms_small}
use Rattle.problem_table.proofs.end_round.Goals as goal

pub clear_run-requires : goal.clear_run-requires
clear_run-requires c = (
  atoms_small _ c.requires _ _
      c.node_line-start.ensures,
  atoms_small _
      c.requires _ _
      c.node_line-to.ensures,
)

pub returns : goal.returns
returns c =
    λ h. round_changes _ _ _ _ _ _ _ _
    c.node_line-start.ensures
    c.node_line-to.ensures
    c.last_line-mark.ensures
    c.clear.ensures
    c.clear_run.ensures (λ q. c.raise.ensures (omega (arith, q))) h
