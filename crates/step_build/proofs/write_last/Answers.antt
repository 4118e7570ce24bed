use mathlib.Core.Path.{refl, ◌∙◌}
use native.Mathlib.Omega.{arith}
use Rattle.definitions.specs.Problem.Atoms.{problem_of}
use Rattle.meaning.specs.Grounded.{good}
use Rattle.step_build.specs.RoundLaws.{end_is, readable, round_told}
use Rattle.step_build.specs.Holding.{copied_bits, ready_as}
use Rattle.step_build.proofs.write_last.Goals as goal

pub returns : goal.returns
returns c =
    let w = c.write_nodes-proved in let k = c.copy in let t = c.end_round in let q = c.requires in λ x F B h e z.
    round_told x F _ _ B _ h _ _ _ _ _ e (w.ensures.1 (problem_of x) (good x B.case) _ (readable x F _ _ B _ h _ z) (omega (arith, B.ready.is.nodes)) (end_is x F _ _ B)) _ _
    (copied_bits _ _ _ _ refl q.2 k.ensures.0 ∙ z)
    (t.ensures.1 (problem_of x) (good x B.case) (ready_as B.ready k.auto.dst))
