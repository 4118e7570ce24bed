-- `print_bytes::digits` meets its contract.
use Rattle.std.proofs.Common.{arith}
use Rattle.print_bytes.specs.Emitted.{few_digits}
use Rattle.print_bytes.proofs.digits.Goals as goal

pub decimal-requires : goal.decimal-requires
decimal-requires c = omega (arith, few_digits c.args.k)
