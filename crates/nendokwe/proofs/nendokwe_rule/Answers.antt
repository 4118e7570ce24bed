-- `nendokwe::nendokwe_rule` meets its contract: where the question says that its rule lies. Assumes nothing.
use Rattle.nendokwe.specs.Told.{rule_told, no_rule_told}
use Rattle.nendokwe.proofs.nendokwe_rule.Goals as goal

pub overflow_sub-length : goal.overflow_sub-length
overflow_sub-length c = c.in-Ok.ensures.2.rule_from

pub returns-in-Ok : goal.returns-in-Ok
returns-in-Ok c = let told = rule_told _ _ c.in-Ok.ensures in record { start_after = told.0; length_after = told.1 }

pub returns-in-Err : goal.returns-in-Err
returns-in-Err c = let told = no_rule_told _ _ c.in-Err.ensures in record { start_after = told.0; length_after = told.1 }
