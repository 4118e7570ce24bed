-- `print_units::unit` meets its contract.
use native.Mathlib.Omega.{arith}
use mathlib.Core.Path.{refl}
use Rattle.print_bytes.specs.Emitted.{begin, next as then, finish}
use Rattle.print_units.proofs.unit.Goals as goal

pub further-begun-requires : goal.further-begun-requires
further-begun-requires c = (c.requires.1, c.requires.2)

pub said-named-requires : goal.said-named-requires
said-named-requires c = c.requires.0

pub returns : goal.returns
returns c =
    λ xs e. finish _ (then _ _ (then _ _ (begin c.args.out.now refl
    (omega arith) (omega arith)) c.further-begun.ensures) c.said-named.ensures)
    (c.after_text.ensures xs e)
