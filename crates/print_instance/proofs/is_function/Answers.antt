-- `print_instance::is_function` meets its contract. Assumes nothing.
use Rattle.print_instance.specs.Texts.{fun_low, fun_high}
use native.Mathlib.Omega.{arith}
use Rattle.print_instance.proofs.is_function.Goals as goal

pub returns-then-kind-lt2 : goal.returns-then-kind-lt2
returns-then-kind-lt2 c = fun_low _ c.if-kind-lt2.true

pub returns : goal.returns
returns c = fun_high c.args.kind (omega arith)
