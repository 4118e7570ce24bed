-- `print_bytes::left` meets its contract.
use native.Mathlib.Omega.{arith}
use Rattle.print_bytes.specs.Emitted.{begin, next as then, finish, left_is}
use Rattle.print_bytes.proofs.left.Goals as goal

pub returns : goal.returns
returns c =
    finish _ (then _ _ (begin c.args.out.now (left_is c.args.columns c.saturating_sub.result _ c.saturating_sub.ensures) (omega arith) (omega arith))
    c.text-next.ensures) c.spaces.ensures
