-- `bits::turn`: the word or its complement. Assumes nothing.
use native.Mathlib.Omega.{arith}
use Rattle.bits.proofs.Stores.{turn_yes, turn_no}
use Rattle.bits.proofs.turn.Goals as goal

pub returns-then-flip : goal.returns-then-flip
returns-then-flip c = λ k l. turn_yes _ k _ c.if-flip.true (omega arith) l

pub returns : goal.returns
returns c = λ k l. turn_no _ k _ c.if-flip.false
