-- `print_domain::guesses` meets its contract. Assumes nothing.
use mathlib.Core.Path.{refl}
use Rattle.print_domain.specs.Nodes.{guesses_in}
use native.Mathlib.Omega.{arith}
use Rattle.print_bytes.specs.Emitted.{begin, next as then, finish}
use Rattle.print_domain.proofs.guesses.Goals as goal

pub returns : goal.returns
unfolding guesses_in
returns c = finish _ (then _ _ (begin _ refl (omega arith) (omega arith)) c.set_schemas-set.ensures) c.text.ensures
