-- `print_report::line` meets its contract.
use native.Mathlib.Omega.{arith}
use Rattle.print_report.specs.Cutting.{ended_line, last_line_lem}
use Rattle.print_report.proofs.line.Goals as goal

pub returns-then-end-n : goal.returns-then-end-n
returns-then-end-n c = let a = c.args in ended_line a.s.now a.at (omega arith) c.find-end.result c.find-end.ensures (omega arith)

pub returns : goal.returns
returns c = let a = c.args in last_line_lem a.s.now a.at (omega arith) c.find-end.result c.find-end.ensures (omega arith)
