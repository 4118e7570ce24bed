use mathlib.Core.Path.{sym, ◌∙◌}
use native.Mathlib.Omega.{arith}
use Rattle.read_text.proofs.Decimals.{number_sized, number_led, number_read, not_empty, unled, read_next, read_bad, read_end, small, grown}
use Rattle.read_text.proofs.number.Goals as goal

pub returns-then-is_empty : goal.returns-then-is_empty
returns-then-is_empty c = rw (← c.span-digits.ensures, number_sized _ _ c.is_empty.ensures c.then-is_empty.either)

pub returns-then-digits-gt1 : goal.returns-then-digits-gt1
returns-then-digits-gt1 c = rw (← c.span-digits.ensures, number_led c.span-digits.result.now c.if-digits-eq48.true c.if-digits-gt1.true)

pub loop-c-init : goal.loop-c-init
loop-c-init c = (
  omega arith,
  omega arith,
  omega arith,
  number_read _ (not_empty _ _ c.is_empty.ensures c.if-is_empty.false) (omega arith) (unled _ c.else-digits-eq48.either),
)

pub returns-then-not-is_ascii_digit : goal.returns-then-not-is_ascii_digit
returns-then-not-is_ascii_digit c = rw (← c.span-digits.ensures, c.loop-c.invariant.3 ∙ read_bad _ c.loop-c.c-index (omega arith) _ (sym c.is_ascii_digit.ensures.value ∙ c.if-not-is_ascii_digit.true))

pub overflow_mul-v : goal.overflow_mul-v
overflow_mul-v c = omega (arith, small c.loop-c.v c.loop-c.c-index c.loop-c.invariant.2 (omega arith))

pub overflow_add-v : goal.overflow_add-v
overflow_add-v c = omega (arith, small c.loop-c.v c.loop-c.c-index c.loop-c.invariant.2 (omega arith), c.if-not-is_ascii_digit.ensures.cases)

pub loop-c-preserved : goal.loop-c-preserved
loop-c-preserved c =
    let digit = c.if-not-is_ascii_digit.ensures.cases in (
      omega arith,
      omega arith,
      grown c.loop-c.v _ c.loop-c.c-index c.loop-c.invariant.2 (omega (arith, digit)),
      c.loop-c.invariant.3 ∙ read_next _ c.loop-c.c-index (omega arith) _ digit.0 digit.1,
    )

pub returns : goal.returns
returns c = rw (← c.span-digits.ensures, c.loop-c.invariant.3 ∙ read_end _ c.loop-c.c-index c.loop-c.v (omega arith))
