-- `print_units::after_length` meets its contract.
use native.Mathlib.Omega.{arith}
use mathlib.Core.Path.{◌∙◌, sym, ap}
use lib.ListN.{length}
use Rattle.print_units.specs.Units.{after_more, after_last}
use Rattle.print_units.proofs.after_length.Goals as goal

pub returns-then-more-gt0 : goal.returns-then-more-gt0
returns-then-more-gt0 c = (λ xs e. sym (ap length (after_more c.args.part xs (omega arith))), omega arith)

pub returns : goal.returns
returns c = (λ xs e. c.part_length.ensures.0 ∙ sym (ap length (after_last c.args.part xs (omega arith))), c.part_length.ensures.1)
