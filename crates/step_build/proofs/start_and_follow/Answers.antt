use mathlib.Core.Path.{sym, refl}
use native.Mathlib.Omega.{arith}
use Rattle.step_build.specs.Starts.{words_enough}
use Rattle.step_build.specs.Holding.{builds, started}
use Rattle.step_build.proofs.start_and_follow.Goals as goal

pub initial_state-requires : goal.initial_state-requires
initial_state-requires c = record { fits = c.requires.0; table_in_bounds = words_enough _ _ _ c.requires.1 (sym c.requires.2) }

pub follow-requires : goal.follow-requires
follow-requires c = (
  c.requires.0,
  omega (
    arith,
    c.requires.2,
    c.requires.3,
    c.initial_state.auto.state,
  ),
)

pub returns : goal.returns
returns c =
    let q = c.requires in let b = c.initial_state in let a = c.args in λ x F room P n H.
    c.follow.ensures x F (builds x F _ _ _ _ room P n q.1 a.state.now q.2 _ b.auto.state) P.picked (started x F _ _ _ _ room P n q.1 a.state.now q.2 _ b.ensures) (H.ended refl)
