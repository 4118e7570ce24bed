-- `bits::blend`: a word past the end is not written. Assumes nothing.
use native.Mathlib.Omega.{arith}
use Rattle.bits.proofs.Stores.{blend_bits}
use Rattle.bits.proofs.blend.Goals as goal

pub returns-then-j-words : goal.returns-then-j-words
returns-then-j-words c = λ h. blend_bits _ _ _ _ (omega arith) h

pub returns-else-j-words : goal.returns-else-j-words
returns-else-j-words c = λ h. absurd (omega arith)
