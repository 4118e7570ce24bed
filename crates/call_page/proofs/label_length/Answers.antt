-- `call_page::label_length` meets its contract. Assumes nothing.
use native.Mathlib.Omega.{arith}
use Rattle.call_page.proofs.label_length.Goals as goal

pub label-requires : goal.label-requires
label-requires c = c.requires.0

pub overflow_sub-result : goal.overflow_sub-result
overflow_sub-result c = omega (arith, c.in-Some.ensures.some.0, c.in-Some.ensures.some.1, c.requires.1)

pub returns-in-Some : goal.returns-in-Some
returns-in-Some c = omega (arith, c.in-Some.ensures.some.0, c.in-Some.ensures.some.1)

pub returns-in-None : goal.returns-in-None
returns-in-None c = omega (arith, c.in-None.ensures.none)
