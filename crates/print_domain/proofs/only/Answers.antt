-- `print_domain::only` meets its contract. Assumes nothing.
use native.Mathlib.Omega.{arith}
use Rattle.print_instance.specs.Texts.{only_code}
use Rattle.print_domain.proofs.only.Goals as goal

pub returns : goal.returns
returns c = (c.with_term.ensures.0, omega (arith, c.with_term.ensures.1, c.parameters.ensures.1), only_code _ _ _ c.parameters.ensures.2 c.with_term.ensures.2)
