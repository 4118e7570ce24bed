-- `step_prove::only_try` meets its contract.
use borrow.Author.Rules.{rules}
use Rattle.step_prove.specs.Tries.{first_from}
use Rattle.step_prove.proofs.only_try.Goals as goal

pub returns-then-holds : goal.returns-then-holds
unfolding first_from
returns-then-holds c = search rules

pub returns : goal.returns
unfolding first_from
returns c = search rules
