-- `nendokwe::nendokwe_pddl_domain` meets its contract: what the call returned is told. Assumes nothing.
use Rattle.nendokwe.proofs.nendokwe_pddl_domain.Goals as goal

pub returns : goal.returns
returns c = record { number_after = cc; place_after = cc; out_after = cc }
