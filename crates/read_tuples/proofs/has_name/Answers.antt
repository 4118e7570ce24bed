-- `read_tuples::has_name`: labels are one to one, so a name that is found is its element. Assumes nothing.
use mathlib.Core.Path.{sym, ◌∙◌}
use native.Mathlib.Omega.{arith}
use Rattle.read_tuples.proofs.Naming.{found_here}
use Rattle.read_tuples.proofs.has_name.Goals as goal

pub returns-then-to-gt0 : goal.returns-then-to-gt0
returns-then-to-gt0 c = λ q ls L. found_here _ _ _ ls L _ c.args.x (omega arith) (sym c.same_span.ensures ∙ q)
