-- `open_tries::run_copy` meets its contract: the copy begins with the state's words. Assumes nothing.
use mathlib.Core.Path.{◌∙◌}
use Rattle.open_tries.specs.Laws.{list_there, copy_ran}
use Rattle.open_tries.proofs.run_copy.Goals as goal

pub slice_bounds-run-end-2 : goal.slice_bounds-run-end-2
slice_bounds-run-end-2 c = let copied = c.copy in list_there _ _ _ copied.new.dst _ c.requires.0 copied.ensures.0

pub returns : goal.returns
returns c =
    λ p serves. c.reply_of.ensures ∙ copy_ran _ _ _ c.copy.new.dst _ c.requires.0 c.copy.ensures.0 p serves _ _
    (λ x i r. ((c.run-e.ensures x i r).0, tt))
