-- `print_units::part_length` meets its contract.
use native.Mathlib.Omega.{arith}
use mathlib.Core.Path.{sym, ap}
use lib.ListN.{length}
use Rattle.print_bytes.specs.Emitted.{few_digits}
use Rattle.print_units.specs.Units.{part_none, part_some}
use Rattle.print_units.proofs.part_length.Goals as goal

pub returns-in_default : goal.returns-in_default
returns-in_default c = (sym (ap length (part_none c.args.part c.in_default.is)), omega arith)

pub overflow_add-result : goal.overflow_add-result
overflow_add-result c = omega (arith, c.digits.ensures, few_digits c.in-Some.number)

pub returns : goal.returns
returns c = (omega (arith, c.digits.ensures, ap length (part_some c.args.part _ c.in-Some.is)), omega (arith, c.digits.ensures, few_digits c.in-Some.number))
