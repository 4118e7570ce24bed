-- `read_text::same_span` meets its contract.
use mathlib.Core.Path.{ap₂, ◌∙◌}
use Rattle.definitions.specs.Lists.{same}
use Rattle.read_text.proofs.Laws.{same_is}
use Rattle.read_text.proofs.same_span.Goals as goal

pub returns : goal.returns
returns c = c.eq.ensures ∙ same_is _ _ ∙ ap₂ same c.span.ensures c.span-2.ensures
