-- `bits::rank`: the ones under a mask. Assumes nothing.
use native.Mathlib.Omega.{arith}
use Rattle.bits.proofs.Firsts.{rank_by, rank_few}
use Rattle.bits.proofs.rank.Goals as goal

pub overflow_cast-result : goal.overflow_cast-result
overflow_cast-result c = omega (arith, rank_few c.args.w c.mask.result (omega arith))

pub returns : goal.returns
returns c = rank_by _ _ _ c.mask.ensures
