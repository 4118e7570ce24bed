-- `nendokwe::nendokwe_tries`: the call's own reply in two numbers.
use Rattle.call_tries.specs.Recorded.{answer_told}
use Rattle.nendokwe.proofs.nendokwe_tries.Goals as goal

pub returns-clause-number_after : goal.returns-clause-number_after
returns-clause-number_after c = (answer_told _ _ c.try_lists-r.ensures.value).0

pub returns-clause-place_after : goal.returns-clause-place_after
returns-clause-place_after c = (answer_told _ _ c.try_lists-r.ensures.value).1
