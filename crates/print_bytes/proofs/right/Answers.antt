-- `print_bytes::right` meets its contract.
use native.Mathlib.Omega.{arith}
use Prim.Native.Nat.{◌-◌}
use mathlib.Core.Path.{ap, ◌∙◌}
use Rattle.print_bytes.specs.Emitted.{begin, next as then, finish, right_is}
use Rattle.print_bytes.proofs.right.Goals as goal

pub returns : goal.returns
returns c =
    finish _ (then _ _ (begin c.args.out.now (right_is c.args.columns c.saturating_sub.result _
    (c.saturating_sub.ensures ∙ ap (λ (d : Prim.Native.Nat.ℕ). c.args.columns - d)
    c.digits.ensures)) (omega arith) (omega arith)) c.spaces-next.ensures)
    c.decimal.ensures
