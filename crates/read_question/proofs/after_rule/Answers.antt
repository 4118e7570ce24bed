-- `read_question::after_rule` meets its contract.
use mathlib.Core.Path.{sym, ap}
use Rattle.read_question.specs.Drafts.{later_of}
use Rattle.read_question.proofs.Judging.{later_other}
use Rattle.read_question.proofs.after_rule.Goals as goal

pub returns-in-Wrong : goal.returns-in-Wrong
unfolding later_of
returns-in-Wrong c = sym (ap later_of c.in-Wrong.is)

pub returns-in_default : goal.returns-in_default
returns-in_default c = later_other c.args.x c.in_default.not-Wrong
