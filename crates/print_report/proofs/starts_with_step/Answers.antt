-- `print_report::starts_with_step` meets its contract.
use mathlib.Core.Path.{sym, ap, ◌∙◌}
use native.Mathlib.Omega.{arith}
use Rattle.definitions.specs.Reply.Desk.{starts_with_step}
use Rattle.print_report.specs.Cutting.{lines_start, starts_is, no_start}
use Rattle.print_report.proofs.starts_with_step.Goals as goal

pub returns-then-s-eq0 : goal.returns-then-s-eq0
returns-then-s-eq0 c = let s = c.args.s.now in sym (ap starts_with_step (lines_start s) ∙ no_start s 0 (omega arith))

pub line-l-requires : goal.line-l-requires
line-l-requires c = omega arith

pub is_record-requires : goal.is_record-requires
is_record-requires c = (c.line-l.ensures.begins, c.line-l.ensures.ends)

pub returns : goal.returns
returns c = let s = c.args.s.now in c.is_record.ensures ∙ sym (ap starts_with_step (lines_start s) ∙ starts_is s 0 c.line-l.result.end c.line-l.result.next c.line-l.ensures)
