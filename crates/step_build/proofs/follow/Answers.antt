use mathlib.Core.Path.{sym, ◌∙◌}
use native.Mathlib.Omega.{arith}
use Rattle.definitions.specs.Problem.Atoms.{problem_of}
use Rattle.definitions.specs.Problem.Actions.{begin_proof}
use Rattle.step_build.specs.EndLaws.{begin_number, begin_is, begin_said}
use Rattle.step_build.specs.Holding.{begins_first, follows_all, building_as, ready_as}
use Rattle.step_build.specs.RoundLaws.{rounds_are, rounds_last, ended_at}
use Rattle.step_build.proofs.follow.Goals as goal

pub step-begun-requires : goal.step-begun-requires
step-begun-requires c =
    record {
      fits = (
        c.requires.0,
        omega (
          arith,
          c.set_picks-picked.ensures.0,
        ),
      );
      act_fits = tt;
    }

pub write_last-requires : goal.write_last-requires
write_last-requires c = (
  c.requires.0,
  c.write_rounds-written.ensures.0,
  c.requires.1 ∙ sym (c.write_rounds-written.auto.state ∙ c.step-begun.auto.state ∙ c.set_picks-picked.auto.state),
)

pub returns : goal.returns
returns c =
    let q = c.requires in let a = c.set_picks-picked in let b = c.step-begun in let w = c.write_rounds-written in let t = c.write_last in λ x F B same e z.
    let p = problem_of x in
    let v = rounds_are x F _ _ B _ c.rounds-last.ensures.2 in
    let S = a.ensures.1 p B.ready in
    let O = b.ensures.1 p begin_proof (ready_as B.ready a.auto.state) (begin_is p) begin_said (begin_number p _ B.ready.is _ c.relation_line-first.ensures) in
    let W = w.ensures.1 x F (building_as B (b.auto.state ∙ a.auto.state)) (omega (
      arith,
      c.rounds-last.ensures.0,
    )) (begins_first x F _ _ B _ same _ _ e _ S _ O) in
    follows_all x F _ _ B _ same _ _ e _ S _ O _
    (rounds_last x F _ _ _ _ W (t.ensures x F (building_as B (w.auto.state ∙ b.auto.state ∙ a.auto.state)) (omega (
      arith,
      c.rounds-last.ensures.0,
    )) W.begins (ended_at x F _ _ z (omega (
      arith,
      c.rounds-last.ensures.0,
    )))) (omega (
      arith,
      c.rounds-last.ensures.0,
    )))
