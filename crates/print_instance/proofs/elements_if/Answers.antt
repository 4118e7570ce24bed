-- `print_instance::elements_if` meets its contract. Assumes nothing.
use Rattle.print_instance.specs.Texts.{if_yes, if_no}
use Rattle.print_bytes.specs.Emitted.{emits_as, emits_none}
use native.Mathlib.Omega.{arith}
use Prim.Native.Nat.{◌^◌, ◌<◌}
use lib.ListN.{length}
use Rattle.print_instance.proofs.elements_if.Goals as goal
use Rattle.print_instance.proofs.elements_if.Goals.{Start}

short : (c : Start) → (length c.args.out.now < 2 ^ 64) × (c.args.at < 2 ^ 64)
short c = (omega arith, omega arith)

pub returns-then-is : goal.returns-then-is
returns-then-is c = emits_as (if_yes _ _ c.if-is.true) c.elements.ensures

pub returns : goal.returns
returns c = emits_as (if_no _ _ c.if-is.false) (emits_none _ _ (short (goal.at.returns c).Start).1)
