-- `print_page::first_lines` meets its contract.
use native.Mathlib.Omega.{arith}
use mathlib.Core.Path.{sym}
use Rattle.laws.specs.Pages.{lines_at}
use Rattle.print_bytes.specs.Emitted.{emits_as}
use Rattle.print_page.specs.Bodies.{at_lines, cut_is}
use Rattle.print_page.proofs.first_lines.Goals as goal

pub returns : goal.returns
returns c =
    λ p ls is N s S h m. let L = at_lines ls p c.args.i c.args.k S h in
    let C = cut_is (lines_at ls p c.args.i c.args.k) c.args.skip c.step-len.result _ _ L.0 L.1 m (omega arith)
    (c.step-len.ensures p ls is N s) in
    emits_as (sym C.part) (c.part_from.ensures C.low C.high)
