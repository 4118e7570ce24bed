use Prim.Native.Nat.{min}
use mathlib.Core.Path.{sym, ap, ◌∙◌}
use native.Mathlib.Omega.{arith}
use lib.ListN.{length}
use Rattle.definitions.specs.Reply.Desk.{after_rule}
use Rattle.print_report.specs.Cutting.{lines_start, rule_here, rule_later, no_rule}
use Rattle.print_report.proofs.question_end.Goals as goal

pub loop-at-init : goal.loop-at-init
loop-at-init c = let a = c.args in (omega arith, ap (after_rule (length a.s.now)) (lines_start a.s.now))

pub line-l-requires : goal.line-l-requires
line-l-requires c = omega arith

pub is_record-requires : goal.is_record-requires
is_record-requires c = (c.line-l.ensures.begins, c.line-l.ensures.ends)

pub returns-then-is_record : goal.returns-then-is_record
returns-then-is_record c = let line = c.line-l in let s = c.args.s.now in sym (ap (λ k. min k (length s)) c.loop-at.invariant.1 ∙ rule_here s c.loop-at.at line.result.end line.result.next line.ensures (sym c.is_record.ensures ∙ c.if-is_record.true))

pub loop-at-smaller : goal.loop-at-smaller
loop-at-smaller c = omega (arith, c.line-l.ensures.further, c.line-l.ensures.within)

pub loop-at-preserved : goal.loop-at-preserved
loop-at-preserved c = let line = c.line-l in let s = c.args.s.now in (line.ensures.within, c.loop-at.invariant.1 ∙ rule_later s c.loop-at.at line.result.end line.result.next line.ensures (sym c.is_record.ensures ∙ c.if-is_record.false))

pub returns : goal.returns
returns c = let s = c.args.s.now in sym (ap (λ k. min k (length s)) c.loop-at.invariant.1 ∙ no_rule s c.loop-at.at (omega arith))
