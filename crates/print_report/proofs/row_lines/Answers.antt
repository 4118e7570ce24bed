use Prim.Native.Nat.{◌^◌}
use native.Mathlib.Omega.{arith}
use Rattle.print_line.specs.Printed.{begin, recut, room_for, next as then, finished, left_length}
use Rattle.print_line.specs.Lines.{said_by}
use Rattle.print_report.specs.Report.{row_line, row_lines_lem, next_text, no_text}
use Rattle.print_report.proofs.row_lines.Goals as goal

pub loop-row-init : goal.loop-row-init
loop-row-init c = let a = c.args in (omega arith, begin _ (row_lines_lem (said_by a.site.now a.labels.now) a.words.now a.first a.name.now a.n a.arity) c.requires.5)

pub row_line-next-requires : goal.row_line-next-requires
row_line-next-requires c =
    let a = c.args in let p = c.requires in (
      p.0,
      p.1,
      p.2,
      omega (arith, p.3),
      omega (arith, p.4),
      room_for
          (row_line (said_by a.site.now a.labels.now) a.words.now a.first a.name.now a.n a.arity c.loop-row.row) _
          (recut (next_text (row_line (said_by a.site.now a.labels.now) a.words.now a.first a.name.now a.n a.arity)
          c.loop-row.row (a.n ^ a.arity) (omega (arith, p.2))) c.loop-row.invariant.1),
    )

pub loop-row-preserved : goal.loop-row-preserved
loop-row-preserved c =
    let a = c.args in let p = c.requires in (
      omega arith,
      then (row_line (said_by a.site.now a.labels.now) a.words.now a.first a.name.now a.n a.arity c.loop-row.row) _
          (recut (next_text (row_line (said_by a.site.now a.labels.now) a.words.now a.first a.name.now a.n a.arity) c.loop-row.row
          (a.n ^ a.arity) (omega (arith, p.2))) c.loop-row.invariant.1) c.row_line-next.ensures,
    )

pub shape_of-out : goal.shape_of-out
shape_of-out c = left_length c.loop-row.invariant.1

pub returns : goal.returns
returns c = let a = c.args in finished (recut (no_text (row_line (said_by a.site.now a.labels.now) a.words.now a.first a.name.now a.n a.arity) c.loop-row.row (a.n ^ a.arity) (omega (arith, c.requires.2))) c.loop-row.invariant.1)
