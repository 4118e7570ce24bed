-- `bits::store`: the bits lie in one word or in two. Assumes nothing.
use native.Mathlib.Omega.{arith}
use Rattle.bits.proofs.Stores.{stored_one, stored_two}
use Rattle.bits.proofs.store.Goals as goal

pub returns-then-s-n-gt64 : goal.returns-then-s-n-gt64
returns-then-s-n-gt64 c = λ h. stored_two _ _ _ _ (omega arith) (omega arith) _ c.mask-m.ensures (c.blend.ensures (omega arith)) (c.blend-then-s-n-gt64.ensures (omega (arith, c.blend.auto.words))) (omega arith)

pub returns-else-s-n-gt64 : goal.returns-else-s-n-gt64
returns-else-s-n-gt64 c = λ h. stored_one _ _ _ _ (omega arith) (omega arith) _ c.mask-m.ensures (c.blend.ensures (omega arith)) (omega arith)
