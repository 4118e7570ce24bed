use mathlib.Core.Path.{sym, ◌∙◌}
use native.Mathlib.Omega.{arith}
use Rattle.step_prove.specs.RowLaws.{row_wide}
use Rattle.step_write.specs.RowLaws.{begun, row_yes, row_no, row_never}
use Rattle.step_write.proofs.write_row.Goals as goal

pub overflow_mul-row : goal.overflow_mul-row
overflow_mul-row c = omega (arith, row_wide _ _ 0 c.requires.4 c.requires.7 (omega arith))

pub overflow_add-v-then-i-tries : goal.overflow_add-v-then-i-tries
overflow_add-v-then-i-tries c = omega (arith, row_wide _ _ 0 c.requires.4 c.requires.7 (omega arith), c.requires.2)

pub overflow_add-v-then-i-tries-2 : goal.overflow_add-v-then-i-tries-2
overflow_add-v-then-i-tries-2 c = omega (arith, row_wide _ _ 0 c.requires.4 c.requires.7 (omega arith), c.requires.2, c.requires.7)

pub returns-then-i-tries : goal.returns-then-i-tries
returns-then-i-tries c = (omega arith, λ p G F node width R t D h. row_yes p G F _ node _ width _ R _ h (sym c.test.ensures ∙ c.if-test.true) _ (c.first_try-i.ensures _ D (begun p G F _ node _ width _ R)) _ t c.requires.6 (omega arith) _ _ _ c.put.ensures)

pub returns-else-i-tries : goal.returns-else-i-tries
returns-else-i-tries c = (omega arith, λ p G F node width R t D h. absurd (row_never p G F _ node _ width _ R _ h (sym c.test.ensures ∙ c.if-test.true) _ (c.first_try-i.ensures _ D (begun p G F _ node _ width _ R)) _ t c.requires.6 (omega arith)))

pub returns-else-test : goal.returns-else-test
returns-else-test c = (omega arith, λ p G F node width R t D h. row_no p G F _ node _ width _ R _ h (sym c.test.ensures ∙ c.if-test.false) _ _)
