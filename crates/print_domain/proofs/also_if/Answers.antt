-- `print_domain::also_if` meets its contract. Assumes nothing.
use Rattle.print_instance.specs.Texts.{if_yes, if_no}
use Rattle.print_bytes.specs.Emitted.{emits_as, emits_none}
use native.Mathlib.Omega.{arith}
use Rattle.print_domain.proofs.also_if.Goals as goal

pub returns-then-is : goal.returns-then-is
returns-then-is c = emits_as (if_yes _ _ c.if-is.true) c.also.ensures

pub returns : goal.returns
returns c = emits_as (if_no _ _ c.if-is.false) (emits_none _ _ (omega arith))
