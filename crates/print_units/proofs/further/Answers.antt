-- `print_units::further` meets its contract.
use native.Mathlib.Omega.{arith}
use mathlib.Core.Path.{◌∙◌, sym, ap}
use mathlib.Core.List.{[], ◌∷◌, ◌++◌}
use Prim.Native.Nat.{ℕ}
use Rattle.definitions.specs.Reply.Page.{spaces}
use Rattle.print_bytes.specs.Emitted.{begin, next as then, finish, emits_none, emits_as}
use Rattle.print_units.specs.Streams.{fits_further, over_further}
use Rattle.print_units.proofs.further.Goals as goal

pub returns-then-used-len-le30 : goal.returns-then-used-len-le30
returns-then-used-len-le30 c = emits_as (fits_further c.args.used c.args.len (omega arith)).0 (emits_none _ _ (omega arith))

pub returns : goal.returns
returns c =
    finish _ (then _ _ (then _ _ (begin c.args.out.now ((over_further c.args.used c.args.len (omega arith)).0 ∙ ap (λ (k : ℕ). spaces k ++ ((10 ∷ []) ++ spaces 42))
    (sym c.saturating_sub.ensures)) (omega arith) (omega arith))
    c.spaces-next.ensures) c.byte-ended.ensures) c.spaces.ensures
