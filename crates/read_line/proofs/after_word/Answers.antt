-- `read_line::after_word` meets its contract.
use borrow.Author.Rules.{rules}
use Rattle.read_line.specs.Entries.{made}
use Rattle.read_line.proofs.Made.{rel_none, every_none, size_none, step_none, fact_none, pick_none, rel_good, every_good, size_good, step_good, fact_good, pick_good, type_none, type_good, rule_none, rule_good, told_after}
use Rattle.read_line.proofs.after_word.Goals as goal

pub returns-in_err-t-in-Rel : goal.returns-in_err-t-in-Rel
returns-in_err-t-in-Rel c = search (rules, rel_none)

pub returns-in_ok-t-in-Rel : goal.returns-in_ok-t-in-Rel
returns-in_ok-t-in-Rel c = search (rules, rel_good)

pub returns-in_err-t-in-Every : goal.returns-in_err-t-in-Every
returns-in_err-t-in-Every c = search (rules, every_none)

pub returns-in_ok-t-in-Every : goal.returns-in_ok-t-in-Every
returns-in_ok-t-in-Every c = search (rules, every_good)

pub returns-in_err-n-in-Size : goal.returns-in_err-n-in-Size
returns-in_err-n-in-Size c = search (rules, size_none)

pub returns-in_ok-n-in-Size : goal.returns-in_ok-n-in-Size
returns-in_ok-n-in-Size c = search (rules, size_good)

pub returns-in_err-k-in-Step : goal.returns-in_err-k-in-Step
returns-in_err-k-in-Step c = search (rules, step_none)

pub returns-in_ok-k-in-Step : goal.returns-in_ok-k-in-Step
returns-in_ok-k-in-Step c = search (rules, step_good)

pub returns-in_err-t-in-Fact : goal.returns-in_err-t-in-Fact
returns-in_err-t-in-Fact c = search (rules, fact_none)

pub returns-in_ok-t-in-Fact : goal.returns-in_ok-t-in-Fact
returns-in_ok-t-in-Fact c = search (rules, fact_good)

pub returns-in_err-t-in-Pick : goal.returns-in_err-t-in-Pick
returns-in_err-t-in-Pick c = search (rules, pick_none)

pub returns-in_ok-t-in-Pick : goal.returns-in_ok-t-in-Pick
returns-in_ok-t-in-Pick c = search (rules, pick_good)

pub returns-in-Choose : goal.returns-in-Choose
unfolding made
returns-in-Choose c = search (rules, told_after)

pub returns-in-Label : goal.returns-in-Label
unfolding made
returns-in-Label c = search (rules, told_after)

pub returns-in-Member : goal.returns-in-Member
unfolding made
returns-in-Member c = search (rules, told_after)

pub returns-then-one : goal.returns-then-one
returns-then-one c = search (rules, type_good)

pub returns-else-one : goal.returns-else-one
returns-else-one c = search (rules, type_none)

pub returns-then-one-2 : goal.returns-then-one-2
returns-then-one-2 c = search (rules, rule_good)

pub returns-else-one-2 : goal.returns-else-one-2
returns-else-one-2 c = search (rules, rule_none)
