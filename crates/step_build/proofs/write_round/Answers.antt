use native.Mathlib.Omega.{arith}
use Rattle.definitions.specs.Problem.Atoms.{problem_of}
use Rattle.meaning.specs.Grounded.{good}
use Rattle.step_build.specs.RoundLaws.{fills, end_is, known_first, filled_is, readable, round_told}
use Rattle.step_build.specs.Holding.{ready_as}
use Rattle.step_build.proofs.write_round.Goals as goal

pub returns : goal.returns
returns c =
    let f = c.fill_nodes in let w = c.write_nodes-proved in let t = c.end_round in (
      omega (arith, t.ensures.0, w.ensures.0),
      λ x F B h e.
          let K = f.ensures (problem_of x) (good x B.case) _ (fills x F _ _ B) (omega (arith, B.ready.is.nodes)) (end_is x F _ _ B) (known_first x F _ _ B _ h _ e) in
          let z = filled_is x F _ _ B _ h _ _ e K in
          round_told x F _ _ B _ h _ _ _ _ _ e (w.ensures.1 (problem_of x) (good x B.case) _ (readable x F _ _ B _ h _ z) (omega (arith, B.ready.is.nodes)) (end_is x F _ _ B)) _ _ z
          (t.ensures.1 (problem_of x) (good x B.case) (ready_as B.ready f.auto.state)),
    )
