use native.Mathlib.Omega.{arith}
use Rattle.definitions.specs.Problem.Atoms.{problem_of}
use Rattle.meaning.specs.Grounded.{good}
use Rattle.step_build.specs.MarkLaws.{finish_fits, finish_test}
use Rattle.step_build.specs.RoundLaws.{fills, end_is, known_first, filled_is, filled_may}
use Rattle.step_build.proofs.prove_round.Goals as goal

pub may_take-requires : goal.may_take-requires
may_take-requires c = record { fits = c.requires; act_fits = finish_fits _ _ c.finish_act-a.ensures }

pub returns : goal.returns
returns c =
    let f = c.fill_nodes in let a = c.finish_act-a in let m = c.may_take in λ x F k B h e.
    let K = f.ensures (problem_of x) (good x B.case) _ (fills x F _ _ B) (omega (arith, B.ready.is.nodes)) (end_is x F _ _ B) (known_first x F _ _ B k h _ e) in
    (filled_may x F _ _ B k h _ _ e K _ (finish_test (problem_of x) _ B.ready.is _ _ _ a.ensures m.ensures), filled_is x F _ _ B k h _ _ e K)
