-- `print_units::fill` meets its contract.
use native.Mathlib.Omega.{arith}
use Rattle.print_bytes.specs.Emitted.{begin, next as then, finish}
use Rattle.print_units.specs.Streams.{filled_is}
use Rattle.print_units.proofs.fill.Goals as goal

pub returns : goal.returns
returns c =
    finish _ (then _ _ (begin c.args.out.now (filled_is c.args.used c.saturating_sub.result
    c.saturating_sub.ensures) (omega arith) (omega arith)) c.spaces-next.ensures) c.byte.ensures
