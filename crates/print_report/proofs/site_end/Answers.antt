use mathlib.Core.Path.{sym, ap, ◌∙◌}
use native.Mathlib.Omega.{arith}
use lib.ListN.{length}
use Rattle.definitions.specs.Reply.Desk.{first_pick_or_step}
use Rattle.print_report.specs.Cutting.{lines_start, pick_here, step_here, pick_later, no_pick}
use Rattle.print_report.proofs.site_end.Goals as goal

pub loop-at-init : goal.loop-at-init
loop-at-init c = let a = c.args in (omega arith, ap (first_pick_or_step (length a.s.now)) (lines_start a.s.now))

pub line-l-requires : goal.line-l-requires
line-l-requires c = omega arith

pub is_record-requires : goal.is_record-requires
is_record-requires c = (c.line-l.ensures.begins, c.line-l.ensures.ends)

pub returns-then-is_record : goal.returns-then-is_record
returns-then-is_record c = let line = c.line-l in let s = c.args.s.now in (omega arith, sym (c.loop-at.invariant.1 ∙ pick_here s c.loop-at.at line.result.end line.result.next line.ensures (sym c.is_record.ensures ∙ c.if-is_record.true)))

pub is_record-requires-in-loop-at : goal.is_record-requires-in-loop-at
is_record-requires-in-loop-at c = (c.line-l.ensures.begins, c.line-l.ensures.ends)

pub returns-then-is_record-2 : goal.returns-then-is_record-2
returns-then-is_record-2 c = let line = c.line-l in let s = c.args.s.now in (omega arith, sym (c.loop-at.invariant.1 ∙ step_here s c.loop-at.at line.result.end line.result.next line.ensures (sym c.is_record.ensures ∙ c.if-is_record.false) (sym c.is_record-in-loop-at.ensures ∙ c.if-is_record-2.true)))

pub loop-at-smaller : goal.loop-at-smaller
loop-at-smaller c = omega (arith, c.line-l.ensures.further, c.line-l.ensures.within)

pub loop-at-preserved : goal.loop-at-preserved
loop-at-preserved c = let line = c.line-l in let s = c.args.s.now in (line.ensures.within, c.loop-at.invariant.1 ∙ pick_later s c.loop-at.at line.result.end line.result.next line.ensures (sym c.is_record.ensures ∙ c.if-is_record.false) (sym c.is_record-in-loop-at.ensures ∙ c.if-is_record-2.false))

pub returns : goal.returns
returns c = let s = c.args.s.now in (omega arith, sym (c.loop-at.invariant.1 ∙ no_pick s c.loop-at.at (omega arith)))
