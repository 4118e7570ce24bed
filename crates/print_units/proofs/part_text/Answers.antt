-- `print_units::part_text` meets its contract.
use native.Mathlib.Omega.{arith}
use Rattle.print_bytes.specs.Emitted.{begin, next as then, finish, emits_none, emits_as}
use Rattle.print_units.specs.Units.{part_none, part_some}
use Rattle.print_units.proofs.part_text.Goals as goal

pub returns-in_default : goal.returns-in_default
returns-in_default c = emits_as (part_none _ c.in_default.is) (emits_none _ _ (omega arith))

pub returns : goal.returns
returns c =
    finish _ (then _ _ (begin c.args.out.now (part_some c.args.part _ c.in-Some.is) (omega arith) (omega arith)) c.byte-slash.ensures)
    c.decimal.ensures
