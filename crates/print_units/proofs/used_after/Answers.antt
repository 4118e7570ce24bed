-- `print_units::used_after` meets its contract.
use native.Mathlib.Omega.{arith}
use Rattle.print_units.specs.Streams.{fits_further, over_further}
use mathlib.Core.Path.{sym}
use Rattle.print_units.proofs.used_after.Goals as goal

pub returns-then-used-len-le30 : goal.returns-then-used-len-le30
returns-then-used-len-le30 c = (sym (fits_further c.args.used c.args.len (omega arith)).1, omega arith)

pub returns : goal.returns
returns c = (sym (over_further c.args.used c.args.len (omega arith)).1, omega arith)
