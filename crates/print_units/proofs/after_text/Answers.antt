-- `print_units::after_text` meets its contract.
use native.Mathlib.Omega.{arith}
use Rattle.print_bytes.specs.Emitted.{emits_as}
use Rattle.print_units.specs.Units.{after_more, after_last}
use Rattle.print_units.proofs.after_text.Goals as goal

pub returns-then-more-gt0 : goal.returns-then-more-gt0
returns-then-more-gt0 c = λ xs e. emits_as (after_more _ xs (omega arith)) c.byte.ensures

pub returns : goal.returns
returns c = λ xs e. emits_as (after_last _ xs (omega arith)) c.part_text.ensures
