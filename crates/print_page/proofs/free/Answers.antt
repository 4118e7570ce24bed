-- `print_page::free` meets its contract.
use native.Mathlib.Omega.{arith}
use mathlib.Core.Path.{◌∙◌}
use Rattle.print_page.specs.Elements.{width_few, free_from}
use Rattle.print_page.proofs.free.Goals as goal

pub places-requires : goal.places-requires
places-requires c = (c.requires.0.some, omega (arith, width_few c.args.table.now c.args.v _ c.requires.0 c.requires.1 c.node_line-line.ensures), c.requires.3)

pub returns : goal.returns
returns c = (
  width_few c.args.table.now c.args.v _ c.requires.0 c.requires.1 c.node_line-line.ensures,
  c.places.ensures.0 ∙ free_from
      c.args.table.now c.args.v c.args.row _ c.node_line-line.ensures,
  c.places.ensures.1,
)
