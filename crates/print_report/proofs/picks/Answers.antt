use native.Mathlib.Omega.{arith}
use Rattle.print_line.specs.Printed.{begin, recut, room_for, next as then, finished, left_length}
use Rattle.print_line.specs.Lines.{said_by}
use Rattle.print_report.specs.Report.{picks_at, picks_all, next_text, no_text}
use Rattle.print_report.proofs.picks.Goals as goal

pub loop-j-init : goal.loop-j-init
loop-j-init c = let a = c.args in (omega arith, begin _ (picks_all (said_by a.site.now a.labels.now) a.q.now a.g a.n a.words.now) c.requires.5)

pub picked-next-requires : goal.picked-next-requires
picked-next-requires c =
    let a = c.args in let p = c.requires in (
      p.0,
      p.1,
      p.2,
      p.3,
      omega arith,
      p.4,
      room_for
          (picks_at (said_by a.site.now a.labels.now) a.q.now a.g a.n a.words.now c.loop-j.j) _
          (recut (next_text (picks_at (said_by a.site.now a.labels.now) a.q.now a.g a.n a.words.now) c.loop-j.j
          a.g.chosen (omega arith)) c.loop-j.invariant.1),
    )

pub loop-j-preserved : goal.loop-j-preserved
loop-j-preserved c =
    let a = c.args in (
      omega arith,
      then (picks_at (said_by a.site.now a.labels.now) a.q.now a.g a.n a.words.now c.loop-j.j) _
          (recut (next_text (picks_at (said_by a.site.now a.labels.now) a.q.now a.g a.n a.words.now) c.loop-j.j a.g.chosen
          (omega arith)) c.loop-j.invariant.1) c.picked-next.ensures,
    )

pub shape_of-out : goal.shape_of-out
shape_of-out c = left_length c.loop-j.invariant.1

pub returns : goal.returns
returns c = let a = c.args in finished (recut (no_text (picks_at (said_by a.site.now a.labels.now) a.q.now a.g a.n a.words.now) c.loop-j.j a.g.chosen (omega arith)) c.loop-j.invariant.1)
