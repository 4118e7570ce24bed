-- The words that are lent are enough, and clear.
use Rattle.read_sheets.proofs.Loops.{zeros_clear}
use Rattle.open_case.specs.Rooms.{many_room}
use Rattle.open_room.proofs.with_facts.Goals as goal

pub with_words-requires-clause-takes : goal.with_words-requires-clause-takes
with_words-requires-clause-takes g c = c.requires _ (c.is_small.ensures c.if-is_small.true) (zeros_clear 512)

pub returns-then-is_small : goal.returns-then-is_small
returns-then-is_small g c = (_, c.with_words.ensures.0, c.is_small.ensures c.if-is_small.true, zeros_clear 512, c.with_words.ensures.1)

pub with_words-requires-else-is_small-clause-takes : goal.with_words-requires-else-is_small-clause-takes
with_words-requires-else-is_small-clause-takes g c = c.requires _ (many_room _) (zeros_clear 32768)

pub returns-else-is_small : goal.returns-else-is_small
returns-else-is_small g c = (_, c.with_words-else-is_small.ensures.0, many_room _, zeros_clear 32768, c.with_words-else-is_small.ensures.1)
