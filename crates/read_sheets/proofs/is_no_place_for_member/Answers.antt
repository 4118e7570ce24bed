-- `read_sheets::is_no_place_for_member` meets its contract.
use mathlib.Core.Path.{refl}
use Rattle.read_sheets.proofs.Turns.{member_begun, member_sized}
use Rattle.read_sheets.proofs.is_no_place_for_member.Goals as goal

pub returns-then-st : goal.returns-then-st
returns-then-st c = member_begun c.args.st c.if-st.true

pub returns-else-st : goal.returns-else-st
returns-else-st c = member_sized c.args.st _ c.if-st.false refl
