-- `read_tuples::fits` meets its contract.
use mathlib.Core.Path.{◌∙◌}
use borrow.Author.Tests.{eq-eqb}
use Rattle.read_tuples.proofs.Naming.{name_fits, number_fits}
use Rattle.read_tuples.proofs.fits.Goals as goal

pub returns-then-k-eq-NAMED : goal.returns-then-k-eq-NAMED
returns-then-k-eq-NAMED c = λ f. eq-eqb c.args.k 10000000 c.if-k-eq-NAMED.true ∙ name_fits f _ _ c.if-k-eq-NAMED.true

pub returns-else-k-eq-NAMED : goal.returns-else-k-eq-NAMED
returns-else-k-eq-NAMED c = λ f. number_fits f _ _ c.if-k-eq-NAMED.false
