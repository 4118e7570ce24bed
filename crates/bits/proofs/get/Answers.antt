use Rattle.bits.proofs.Laws.{get_bit}
use Rattle.bits.proofs.get.Goals as goal

pub returns : goal.returns
returns c = get_bit c.args.words.now c.args.i
