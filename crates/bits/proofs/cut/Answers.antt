-- `bits::cut` meets its contract: its digits are the bits, by the laws of `Cuts`. Assumes nothing.
use Prim.Native.Nat.{◌/◌}
use native.Mathlib.Omega.{arith}
use Rattle.bits.proofs.Cuts.{joined, cut_some, cut_all}
use Rattle.bits.proofs.Shifts.{mask_fits}
use Rattle.bits.proofs.cut.Goals as goal

pub overflow_sub-result : goal.overflow_sub-result
overflow_sub-result c = mask_fits _ (omega arith)

pub returns-then-n-lt64 : goal.returns-then-n-lt64
unfolding joined
returns-then-n-lt64 c =
    cut_some _ _ (omega (arith, c.type_inv.words (c.args.i / 64))) _ _ _ c.word_at.ensures
    c.word_at-2.ensures (omega arith)

pub returns : goal.returns
unfolding joined
returns c =
    cut_all _ _ (omega (arith, c.type_inv.words (c.args.i / 64))) _ _ _ c.word_at.ensures
    c.word_at-2.ensures (omega arith)
