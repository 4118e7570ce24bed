-- `print_report::picked` meets its contract.
use native.Mathlib.Omega.{arith}
use Rattle.print_line.specs.Printed.{begin, finish}
use Rattle.print_line.specs.Lines.{said_by}
use Rattle.print_report.specs.Report.{picks_is, its_arity, its_name, its_index, arities_before, power_few, first_few}
use Rattle.print_report.proofs.picked.Goals as goal

pub first_word-first-requires : goal.first_word-first-requires
first_word-first-requires c = let a = c.args in let p = c.requires in (omega (arith, p.3), omega arith, omega (arith, its_index a.q.now a.g p.0 a.j p.4), arities_before a.q.now a.g p.0 a.j p.4)

pub power-rows-requires : goal.power-rows-requires
power-rows-requires c = let a = c.args in let p = c.requires in (p.2, omega (arith, power_few a.n _ p.3 (its_arity a.q.now a.g p.0 a.j p.4)))

pub overflow_mul-first : goal.overflow_mul-first
overflow_mul-first c = omega (arith, first_few _ _ c.requires.0 _ _ _ c.requires.3 c.requires.4 c.first_word-first.ensures.0, c.requires.0.chosen_le, c.requires.4)

pub slice_bounds-row_lines-count : goal.slice_bounds-row_lines-count
slice_bounds-row_lines-count c = let a = c.args in let p = c.requires in (its_name a.q.now a.g p.0 a.j p.4).0

pub slice_bounds-row_lines-start : goal.slice_bounds-row_lines-start
slice_bounds-row_lines-start c = let a = c.args in let p = c.requires in (its_name a.q.now a.g p.0 a.j p.4).0

pub slice_bounds-row_lines-end : goal.slice_bounds-row_lines-end
slice_bounds-row_lines-end c = let a = c.args in let p = c.requires in (its_name a.q.now a.g p.0 a.j p.4).1

pub row_lines-requires : goal.row_lines-requires
row_lines-requires c =
    let power = c.power-rows in let first_word_lem = c.first_word-first in let a = c.args in let p = c.requires in let w = power_few a.n _ p.3 (its_arity a.q.now a.g p.0 a.j p.4) in (
      p.1,
      p.2,
      power.ensures,
      omega (arith, power.ensures, first_few _ _ p.0 _ _ _ p.3 p.4 first_word_lem.ensures.0, p.4, p.5),
      omega (arith, power.ensures, first_few _ _ p.0 _ _ _ p.3 p.4 first_word_lem.ensures.0, p.4, p.0.chosen_le),
      (begin a.out.now (picks_is a.q.now a.g a.n a.words.now a.j first_word_lem.result power.result first_word_lem.ensures.0 power.ensures (said_by a.site.now a.labels.now)) p.6).room,
    )

pub returns : goal.returns
returns c = let power = c.power-rows in let first_word_lem = c.first_word-first in let a = c.args in finish _ (begin a.out.now (picks_is a.q.now a.g a.n a.words.now a.j first_word_lem.result power.result first_word_lem.ensures.0 power.ensures (said_by a.site.now a.labels.now)) c.requires.6) c.row_lines.ensures
