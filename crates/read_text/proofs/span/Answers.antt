-- `read_text::span` meets its contract.
use Rattle.read_text.proofs.Laws.{span_is}
use Rattle.read_text.proofs.span.Goals as goal

pub returns : goal.returns
returns c = span_is _ _ _ _ c.min-end.ensures _ c.min.ensures
