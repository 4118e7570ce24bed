-- `print_names::object_word` meets its contract. Assumes nothing.
use native.Mathlib.Omega.{arith}
use Rattle.print_bytes.specs.Emitted.{begin, next as then, finish}
use Rattle.print_names.specs.Naming.{object_parts}
use Rattle.print_names.proofs.object_word.Goals as goal

pub returns : goal.returns
returns c = finish _ (then _ _ (begin c.args.out.now (object_parts c.args.x) (omega arith) (omega arith)) c.byte-next.ensures) c.decimal.ensures
