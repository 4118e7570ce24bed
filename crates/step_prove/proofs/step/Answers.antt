-- `step_prove::step` meets its contract.
use Rattle.step_prove.specs.FollowLaws.{step_one}
use borrow.Author.Rules.{rules}
use Rattle.step_prove.proofs.step.Goals as goal

pub returns : goal.returns
returns c = search (rules, step_one)
