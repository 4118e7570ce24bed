-- `read_sheets::size_turn` meets its contract.
use native.Mathlib.Omega.{arith}
use Rattle.read_sheets.proofs.Turns.{turn_again, turn_low, turn_high, turn_sized}
use Rattle.read_sheets.proofs.size_turn.Goals as goal
use Rattle.read_sheets.proofs.size_turn.Goals.{then-k-lt1-via-then-k-lt1, then-k-lt1-via-else-k-lt1+then-most-k}

pub returns-then-st-ne0 : goal.returns-then-st-ne0
returns-then-st-ne0 c = turn_again _ _ c.args.st c.if-st-ne0.true

pub returns-then-k-lt1 : goal.returns-then-k-lt1
returns-then-k-lt1 c =
    elim c.then-k-lt1.branch [
      | then-k-lt1-via-then-k-lt1 w ↦ turn_low _ _ c.args.st c.if-st-ne0.false (omega arith)
      | then-k-lt1-via-else-k-lt1+then-most-k w ↦ turn_high _ _ c.args.st c.if-st-ne0.false (omega arith) (omega arith)
    ]

pub returns : goal.returns
returns c = turn_sized _ _ c.args.st c.if-st-ne0.false (omega arith) (omega arith)
