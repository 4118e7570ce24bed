-- `read_plan::is_set` meets its contract. Assumes nothing.
use mathlib.Core.Path.{◌∙◌, sym}
use Rattle.print_names.specs.Naming.{SmallName}
use Rattle.read_plan.specs.Domain.{set_by, set_not}
use Rattle.read_plan.proofs.is_set.Goals as goal

pub is_said-requires : goal.is_said-requires
unfolding SmallName
is_said-requires c = record { names = (c.requires.fits.1, c.requires.fits.2); a_le_e = c.requires.a_le_e }

pub returns-then-is_chosen : goal.returns-then-is_chosen
returns-then-is_chosen c = set_by _ _ _ _ _ _ (sym c.is_chosen.ensures ∙ c.if-is_chosen.true) c.is_said.ensures

pub returns : goal.returns
returns c = set_not _ _ _ _ _ (sym c.is_chosen.ensures ∙ c.if-is_chosen.false)
