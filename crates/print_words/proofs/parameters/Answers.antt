-- `print_words::parameters` meets its contract. Assumes nothing.
use Rattle.print_words.specs.Words.{first_parameters}
use mathlib.Core.Path.{refl}
use Rattle.print_words.proofs.parameters.Goals as goal

pub returns : goal.returns
returns c = (record { few = c.requires; room = refl }, refl, first_parameters _ c.requires)
