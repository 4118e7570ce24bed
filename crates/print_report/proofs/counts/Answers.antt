use native.Mathlib.Omega.{arith}
use Rattle.print_line.specs.Printed.{begin, recut, room_for, next as then, finished, left_length}
use Rattle.print_report.specs.Report.{count_at, counts_all, next_text, no_text}
use Rattle.print_report.proofs.counts.Goals as goal

pub loop-j-init : goal.loop-j-init
loop-j-init c = let a = c.args in (omega arith, begin _ (counts_all a.q.now a.g a.n a.words.now) c.requires.4)

pub count-next-requires : goal.count-next-requires
count-next-requires c = let a = c.args in let p = c.requires in (p.0, p.1, p.2, omega arith, p.3, room_for (count_at a.q.now a.g a.n a.words.now c.loop-j.j) _ (recut (next_text (count_at a.q.now a.g a.n a.words.now) c.loop-j.j a.g.chosen (omega arith)) c.loop-j.invariant.1))

pub loop-j-preserved : goal.loop-j-preserved
loop-j-preserved c = let a = c.args in (omega arith, then (count_at a.q.now a.g a.n a.words.now c.loop-j.j) _ (recut (next_text (count_at a.q.now a.g a.n a.words.now) c.loop-j.j a.g.chosen (omega arith)) c.loop-j.invariant.1) c.count-next.ensures)

pub shape_of-out : goal.shape_of-out
shape_of-out c = left_length c.loop-j.invariant.1

pub returns : goal.returns
returns c = let a = c.args in finished (recut (no_text (count_at a.q.now a.g a.n a.words.now) c.loop-j.j a.g.chosen (omega arith)) c.loop-j.invariant.1)
