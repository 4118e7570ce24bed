-- `print_report::is_record` meets its contract.
use mathlib.Core.Path.{sym, ◌∙◌}
use native.Mathlib.Omega.{arith}
use Rattle.print_report.specs.Cutting.{record_is}
use Rattle.print_report.proofs.is_record.Goals as goal

pub returns : goal.returns
returns c = let a = c.args in c.word.ensures ∙ sym (record_is a.s.now a.at a.end (omega arith) (omega arith) c.find-tab.result c.find-tab.ensures a.w.now)
