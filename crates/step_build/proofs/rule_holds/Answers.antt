use mathlib.Core.Path.{sym, ◌∙◌}
use Rattle.definitions.specs.Problem.Atoms.{problem_of}
use Rattle.step_build.specs.Starts.{words_enough}
use Rattle.step_build.specs.Holding.{taken_first, builds, started}
use Rattle.step_build.proofs.rule_holds.Goals as goal

pub initial_state-requires : goal.initial_state-requires
initial_state-requires c = record { fits = c.requires.0; table_in_bounds = words_enough _ _ _ c.requires.1 (sym c.requires.2) }

pub returns : goal.returns
returns c =
    let q = c.requires in let b = c.initial_state in let s = c.set_picks in let t = c.take in let h = c.rounds_hold in let a = c.args in λ x F room P n.
    let B = builds x F _ _ _ _ room P n q.1 a.left.now q.2 in
    h.ensures x F (B _ (t.auto.state ∙ s.auto.state ∙ b.auto.state))
    (taken_first x F _ _ (B _ (s.auto.state ∙ b.auto.state)) _ P.picked _ _ (started x F _ _ _ _ room P n q.1 a.left.now q.2 _ b.ensures) _
    (s.ensures.1 (problem_of x) (B _ b.auto.state).ready) _ t.ensures)
