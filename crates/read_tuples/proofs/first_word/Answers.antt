-- `read_tuples::first_word` meets its contract.
use Rattle.read_tuples.proofs.first_word.Goals as goal

pub returns : goal.returns
returns c = (c.word_of.ensures.0 c.args.g _ _, c.word_of.ensures.1)
