-- `read_text::is_name_byte` meets its contract.
use mathlib.Core.Path.{sym, ◌∙◌}
use Rattle.read_text.proofs.Names.{byte_capital, byte_digit, byte_other}
use Rattle.read_text.proofs.is_name_byte.Goals as goal
use Rattle.read_text.proofs.is_name_byte.Goals.{then-is_ascii_uppercase, else-is_ascii_uppercase}

pub returns-then-is_ascii_digit : goal.returns-then-is_ascii_digit
returns-then-is_ascii_digit c =
    elim c.if-is_ascii_uppercase.branch [
      | then-is_ascii_uppercase w ↦ c.if-is_ascii_digit.true ∙ byte_capital c.args.c (sym c.is_ascii_uppercase.ensures.value ∙ w.if-is_ascii_uppercase.true)
      | else-is_ascii_uppercase w ↦
          c.if-is_ascii_digit.true
          ∙ byte_digit c.args.c (sym c.is_ascii_uppercase.ensures.value ∙ w.if-is_ascii_uppercase.false)
          (sym w.is_ascii_digit.ensures.value ∙ sym w.value-is ∙ c.if-is_ascii_digit.true)
    ]

pub returns-else-is_ascii_digit : goal.returns-else-is_ascii_digit
returns-else-is_ascii_digit c =
    elim c.if-is_ascii_uppercase.branch [
      | then-is_ascii_uppercase w ↦ cc (w.value-is, w.if-is_ascii_uppercase.true, c.if-is_ascii_digit.false)
      | else-is_ascii_uppercase w ↦
          byte_other c.args.c (sym c.is_ascii_uppercase.ensures.value ∙ w.if-is_ascii_uppercase.false)
          (sym w.is_ascii_digit.ensures.value ∙ sym w.value-is ∙ c.if-is_ascii_digit.false)
    ]
