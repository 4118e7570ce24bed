-- `read_sheets::step` meets its contract.
use mathlib.Core.Path.{sym, ap}
use Rattle.read_sheets.specs.Reading.{step_of}
use Rattle.read_sheets.proofs.Numbers.{step_other}
use Rattle.read_sheets.proofs.step.Goals as goal

pub returns-in-Wrong : goal.returns-in-Wrong
unfolding step_of
returns-in-Wrong c = sym (ap step_of c.in-Wrong.is)

pub returns-in-Step : goal.returns-in-Step
unfolding step_of
returns-in-Step c = sym (ap step_of c.in-Step.is)

pub returns-in_default : goal.returns-in_default
returns-in_default c = step_other c.args.x c.in_default.not-Wrong c.in_default.not-Step
