use Rattle.bits.proofs.Laws.{clear_bit}
use Rattle.bits.proofs.clear.Goals as goal

pub returns : goal.returns
returns c = clear_bit c.args.words.now c.args.i c.requires
