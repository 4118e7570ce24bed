-- `print_domain::is_picked` meets its contract. Assumes nothing.
use Rattle.print_domain.specs.Texts.{picked_low, picked_high}
use native.Mathlib.Omega.{arith}
use Rattle.print_domain.proofs.is_picked.Goals as goal

pub returns-then-kind-lt1 : goal.returns-then-kind-lt1
returns-then-kind-lt1 c = picked_low _ c.if-kind-lt1.true

pub returns : goal.returns
returns c = picked_high c.args.kind (omega arith)
