-- `print_instance::is_injective` meets its contract. Assumes nothing.
use Rattle.print_instance.specs.Texts.{inj_low, inj_high}
use native.Mathlib.Omega.{arith}
use Rattle.print_instance.proofs.is_injective.Goals as goal

pub returns-then-kind-lt4 : goal.returns-then-kind-lt4
returns-then-kind-lt4 c = inj_low _ c.if-kind-lt4.true

pub returns : goal.returns
returns c = inj_high c.args.kind (omega arith)
