-- `print_bytes::text` meets its contract.
use Rattle.std.proofs.Common.{arith}
use Rattle.print_bytes.specs.Emitted.{emits_text, emits_past}
use Rattle.print_bytes.proofs.text.Goals.{then-at-out, else-at-out}
use Rattle.print_bytes.proofs.text.Goals as goal

pub returns : goal.returns
returns c =
    elim c.if-at-out.branch [
      | then-at-out w ↦ rw w.out-is (emits_text (omega (arith, w.if-at-out.true)) w.min-fits.ensures c.saturating_add.ensures w.text.ensures)
      | else-at-out w ↦ rw w.out-is (emits_past w.if-at-out.false c.saturating_add.ensures)
    ]
