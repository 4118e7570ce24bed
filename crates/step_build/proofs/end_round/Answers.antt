use mathlib.Core.Path.{sym, ◌∙◌}
use native.Mathlib.Omega.{arith}
use Rattle.definitions.specs.Problem.Actions.{finish}
use Rattle.laws.specs.Numbers.{finish_is}
use Rattle.problem_table.specs.OfLaws.{finish_are}
use Rattle.step_build.specs.MarkLaws.{finish_fits, finish_number, end_marks}
use Rattle.step_build.specs.Holding.{ready_as}
use Rattle.step_build.proofs.end_round.Goals as goal

pub step-ended-requires : goal.step-ended-requires
step-ended-requires c = record { fits = (c.requires.0, omega (arith, c.requires.1)); act_fits = finish_fits _ _ c.finish_act-a.ensures }

pub returns : goal.returns
returns c =
    let s = c.step-ended in let m = c.marks in (
      omega (arith, m.ensures.0, s.ensures.0),
      λ p G R. end_marks p _ _ _ _ (s.ensures.1 p (finish p) R (finish_is p).0 (c.finish_act-a.ensures ∙ sym (finish_are p _ R.is)) (finish_number p _ R.is _ c.node_line-last.ensures))
          (m.ensures.1 p G (ready_as R s.auto.state)),
    )
