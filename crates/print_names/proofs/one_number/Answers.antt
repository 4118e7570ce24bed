-- `print_names::one_number` meets its contract. Assumes nothing.
use native.Mathlib.Omega.{arith}
use Rattle.print_bytes.specs.Emitted.{begin, next as then, finish}
use Rattle.print_names.specs.Naming.{one_parts}
use Rattle.print_names.proofs.one_number.Goals as goal

pub returns : goal.returns
returns c = finish _ (then _ _ (begin c.args.out.now (one_parts c.args.front.now c.args.v) (omega arith) (omega arith)) c.text-begun.ensures) c.decimal.ensures
