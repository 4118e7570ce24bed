-- `print_domain::set_if` meets its contract. Assumes nothing.
use Rattle.print_bytes.specs.Emitted.{emits_as, emits_none}
use Rattle.print_domain.specs.Texts.{set_yes, set_no}
use native.Mathlib.Omega.{arith}
use Rattle.print_domain.proofs.set_if.Goals as goal

pub returns-then-is_picked : goal.returns-then-is_picked
returns-then-is_picked c = emits_as (set_yes _ _ _ _ _ _ c.is_picked.ensures c.if-is_picked.true) c.set_schema.ensures

pub returns : goal.returns
returns c = emits_as (set_no _ _ _ _ _ _ c.is_picked.ensures c.if-is_picked.false) (emits_none _ _ (omega arith))
