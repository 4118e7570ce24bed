-- `print_instance::word_for` meets its contract. Assumes nothing.
use Rattle.print_instance.specs.Texts.{word_held, word_not}
use Rattle.print_instance.proofs.word_for.Goals as goal

pub returns-then-holds : goal.returns-then-holds
returns-then-holds c = word_held _ _ c.if-holds.true

pub returns : goal.returns
returns c = word_not _ _ c.if-holds.false
