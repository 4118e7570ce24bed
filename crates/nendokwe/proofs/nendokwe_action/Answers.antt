-- `nendokwe::nendokwe_action` meets its contract: the action's numbers, or a refusal that leaves them. Assumes nothing.
use Rattle.std.proofs.Common.{◌∙◌}
use Rattle.nendokwe.specs.Told.{action_told, action_refused}
use Rattle.nendokwe.proofs.nendokwe_action.Goals as goal

pub returns-in-Ok : goal.returns-in-Ok
returns-in-Ok c =
    let told = action_told _ _ _ _ _ _ c.in-Ok.ensures _ c.in_numbers-d.ensures in
    record { number_after = told.0; place_after = told.1.0; kind_after = told.1.1.0; subject_after = told.1.1.1.0; row_after = told.1.1.1.1.0; choice_after = told.1.1.1.1.1 }

pub returns-in-Err : goal.returns-in-Err
returns-in-Err c =
    let told = action_refused _ _ _ _ _ _ c.in-Err.ensures in
    let t = c.tell_refusal.ensures in
    record { number_after = t.number_after ∙ told.0; place_after = t.place_after ∙ told.1.0; kind_after = told.1.1.0; subject_after = told.1.1.1.0; row_after = told.1.1.1.1.0; choice_after = told.1.1.1.1.1 }
