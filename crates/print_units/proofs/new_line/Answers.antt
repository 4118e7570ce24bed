-- `print_units::new_line` meets its contract.
use native.Mathlib.Omega.{arith}
use mathlib.Core.Path.{sym}
use Rattle.print_units.specs.Streams.{new_none, new_one}
use Rattle.print_units.proofs.new_line.Goals as goal

pub returns-then-used-len-le30 : goal.returns-then-used-len-le30
returns-then-used-len-le30 c = (sym (new_none c.args.used c.args.len (omega arith)), omega arith)

pub returns : goal.returns
returns c = (sym (new_one c.args.used c.args.len (omega arith)), omega arith)
