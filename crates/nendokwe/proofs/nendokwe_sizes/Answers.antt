-- `nendokwe::nendokwe_sizes` meets its contract: the sizes, or a refusal that leaves them. Assumes nothing.
use Rattle.std.proofs.Common.{◌∙◌}
use Rattle.nendokwe.specs.Told.{sizes_told, sizes_refused}
use Rattle.nendokwe.proofs.nendokwe_sizes.Goals as goal

pub returns-in-Ok : goal.returns-in-Ok
returns-in-Ok c =
    let told = sizes_told _ _ _ _ _ _ c.in-Ok.ensures in
    record { number_after = told.0; place_after = told.1.0; elements_after = told.1.1.0; atoms_after = told.1.1.1.0; actions_after = told.1.1.1.1.0; bound_after = told.1.1.1.1.1 }

pub returns-in-Err : goal.returns-in-Err
returns-in-Err c =
    let told = sizes_refused _ _ _ _ _ _ c.in-Err.ensures in
    let t = c.tell_refusal.ensures in
    record { number_after = t.number_after ∙ told.0; place_after = t.place_after ∙ told.1.0; elements_after = told.1.1.0; atoms_after = told.1.1.1.0; actions_after = told.1.1.1.1.0; bound_after = told.1.1.1.1.1 }
