-- `bits::drop_lowest`: the word and the one below it. Assumes nothing.
use native.Mathlib.Omega.{arith}
use Rattle.bits.proofs.Firsts.{drop_is}
use Rattle.bits.proofs.drop_lowest.Goals as goal

pub returns : goal.returns
returns c = drop_is _ c.requires (omega arith)
