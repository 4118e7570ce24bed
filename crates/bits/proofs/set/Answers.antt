use Rattle.bits.proofs.Laws.{set_bit}
use Rattle.bits.proofs.set.Goals as goal

pub returns : goal.returns
returns c = set_bit c.args.words.now c.args.i c.requires
