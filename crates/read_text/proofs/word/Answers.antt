-- `read_text::word` meets its contract.
use mathlib.Core.Path.{ap, ◌∙◌}
use mathlib.Core.List.{List}
use Prim.Native.Nat.{ℕ}
use Rattle.definitions.specs.Lists.{same}
use Rattle.read_text.proofs.Laws.{same_is}
use Rattle.read_text.proofs.word.Goals as goal

pub returns : goal.returns
returns c = c.eq.ensures ∙ same_is _ _ ∙ ap (λ (x : List ℕ). same x c.args.w.now) c.span.ensures
