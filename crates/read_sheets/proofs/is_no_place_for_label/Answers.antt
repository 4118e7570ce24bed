-- `read_sheets::is_no_place_for_label` meets its contract.
use Rattle.read_sheets.proofs.Turns.{label_joined, label_unjoined}
use Rattle.read_sheets.proofs.is_no_place_for_label.Goals as goal

pub returns-then-st : goal.returns-then-st
returns-then-st c = label_joined c.args.st c.if-st.true

pub returns-else-st : goal.returns-else-st
returns-else-st c = label_unjoined c.args.st _ c.if-st.false c.is_no_place_for_member.ensures
