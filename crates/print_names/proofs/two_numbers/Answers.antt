-- `print_names::two_numbers` meets its contract. Assumes nothing.
use native.Mathlib.Omega.{arith}
use Rattle.print_bytes.specs.Emitted.{begin, next as then, finish}
use Rattle.print_names.specs.Naming.{two_parts}
use Rattle.print_names.proofs.two_numbers.Goals as goal

pub returns : goal.returns
returns c = finish _ (then _ _ (then _ _ (begin c.args.out.now (two_parts c.args.front.now c.args.v c.args.i) (omega arith) (omega arith)) c.one_number-first.ensures) c.byte-next.ensures) c.decimal.ensures
