-- `print_units::unit_length` meets its contract.
use native.Mathlib.Omega.{arith}
use lib.ListN.{length-append}
use Rattle.print_units.proofs.unit_length.Goals as goal

pub returns : goal.returns
returns c = (
  λ xs e. omega (
    arith,
    c.said_length.ensures.0,
    c.after_length.ensures.0 xs e,
    length-append (Rattle.print_line.specs.Lines.said_by c.args.site.now c.args.labels.now c.args.x)
        (Rattle.print_units.specs.Units.after c.args.part xs),
  ),
  omega (arith, c.said_length.ensures.1, c.after_length.ensures.1),
)
