-- `print_domain::node_places` meets its contract. Assumes nothing.
use native.Mathlib.Omega.{arith}
use Prim.Native.Nat.{ℕ, ◌+◌}
use mathlib.Core.Path.{ap, ◌∙◌}
use Rattle.print_domain.specs.Texts.{places_more, places_plain}
use Rattle.print_domain.proofs.node_places.Goals as goal

pub returns-then-row-eq0 : goal.returns-then-row-eq0
returns-then-row-eq0 c = (ap (λ (w : ℕ). w + 1) c.wide-width.ensures.0 ∙ places_more c.args.row c.if-row-eq0.true, omega (arith, c.wide-width.ensures.0, c.requires))

pub returns : goal.returns
returns c = (c.wide-width.ensures.0 ∙ places_plain c.args.row c.if-row-eq0.false, omega (arith, c.wide-width.ensures.0, c.requires))
