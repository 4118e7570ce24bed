-- `step_layers::start_and_run_layers` meets its contract.
use mathlib.Core.Path.{sym, ◌∙◌}
use native.Mathlib.Omega.{arith}
use lib.Seq.{length-take-le}
use Rattle.step_layers.specs.Checks.{layers_ran, layers_again}
use borrow.Author.Rules.{rules}
use Rattle.step_layers.proofs.start_and_run_layers.Goals as goal

pub returns-then-all_taken : goal.returns-then-all_taken
returns-then-all_taken c =
    layers_ran _ _ _ _ _ _ _ _ _ c.initial_state.ensures (search rules) (search rules) c.run_layers-r.ensures.1
    (λ j. omega (arith, c.type_inv.state j)) (sym c.all_taken.ensures ∙ c.if-all_taken.true)

pub slice_bounds-start_and_run-end : goal.slice_bounds-start_and_run-end
slice_bounds-start_and_run-end c = sym (length-take-le _ _ c.run_layers-r.ensures.0)

pub returns : goal.returns
returns c =
    layers_again _ _ _ _ _ _ _ _ _ c.initial_state.ensures (search rules) (search rules) c.run_layers-r.ensures.1 _ _
    (sym c.all_taken.ensures ∙ c.if-all_taken.false) c.start_and_run.ensures
