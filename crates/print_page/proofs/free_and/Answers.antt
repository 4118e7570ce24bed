-- `print_page::free_and` meets its contract.
use native.Mathlib.Omega.{arith}
use Rattle.print_page.specs.Elements.{one_more_within}
use Rattle.print_page.proofs.free_and.Goals as goal

pub returns : goal.returns
returns c =
    let m = one_more_within _ c.free-count.result c.args.x _ _ (omega (arith, c.free-count.ensures.0)) c.requires.4 c.free-count.ensures.1
    c.free-count.ensures.2 in (omega (arith, c.free-count.ensures.0), m.0, m.1)
