-- `print_bytes::byte` meets its contract.
use Rattle.print_bytes.specs.Emitted.{byte_stored, byte_dropped}
use Rattle.print_bytes.proofs.byte.Goals.{then-at-out, else-at-out}
use Rattle.print_bytes.proofs.byte.Goals as goal

pub returns : goal.returns
returns c =
    elim c.if-at-out.branch [
      | then-at-out w ↦ rw w.out-is (byte_stored _ _ _ _ c.saturating_add.ensures)
      | else-at-out w ↦ rw w.out-is (byte_dropped _ _ _ _ w.if-at-out.false c.saturating_add.ensures)
    ]
