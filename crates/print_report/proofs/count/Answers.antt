-- `print_report::count` meets its contract.
use native.Mathlib.Omega.{arith}
use Rattle.print_line.specs.Printed.{begin, finish}
use Rattle.print_report.specs.Report.{count_is, its_arity, its_name, its_index, arities_before, power_few, first_few}
use Rattle.print_report.proofs.count.Goals as goal

pub first_word-first-requires : goal.first_word-first-requires
first_word-first-requires c = let a = c.args in let p = c.requires in (omega (arith, p.2), omega arith, omega (arith, its_index a.q.now a.g p.0 a.j p.3), arities_before a.q.now a.g p.0 a.j p.3)

pub power-rows-requires : goal.power-rows-requires
power-rows-requires c = let a = c.args in let p = c.requires in (p.1, omega (arith, power_few a.n _ p.2 (its_arity a.q.now a.g p.0 a.j p.3)))

pub overflow_add-rows : goal.overflow_add-rows
overflow_add-rows c = let a = c.args in let p = c.requires in omega (arith, c.power-rows.ensures, power_few a.n _ p.2 (its_arity a.q.now a.g p.0 a.j p.3))

pub ones-ones-requires : goal.ones-ones-requires
ones-ones-requires c =
    let a = c.args in let p = c.requires in let w = power_few a.n _ p.2 (its_arity a.q.now a.g p.0 a.j p.3) in
    (omega (arith, c.power-rows.ensures, first_few _ _ p.0 _ _ _ p.2 p.3 c.first_word-first.ensures.0, p.3, p.4), omega (arith, c.power-rows.ensures))

pub slice_bounds-count_line-count : goal.slice_bounds-count_line-count
slice_bounds-count_line-count c = let a = c.args in let p = c.requires in (its_name a.q.now a.g p.0 a.j p.3).0

pub slice_bounds-count_line-start : goal.slice_bounds-count_line-start
slice_bounds-count_line-start c = let a = c.args in let p = c.requires in (its_name a.q.now a.g p.0 a.j p.3).0

pub slice_bounds-count_line-end : goal.slice_bounds-count_line-end
slice_bounds-count_line-end c = let a = c.args in let p = c.requires in (its_name a.q.now a.g p.0 a.j p.3).1

pub count_line-requires : goal.count_line-requires
count_line-requires c = let ones = c.ones-ones in let power = c.power-rows in let first_word_lem = c.first_word-first in let a = c.args in (begin a.out.now (count_is a.q.now a.g a.n a.words.now a.j first_word_lem.result power.result first_word_lem.ensures.0 power.ensures ones.result ones.ensures) c.requires.5).room

pub returns : goal.returns
returns c = let ones = c.ones-ones in let power = c.power-rows in let first_word_lem = c.first_word-first in let a = c.args in finish _ (begin a.out.now (count_is a.q.now a.g a.n a.words.now a.j first_word_lem.result power.result first_word_lem.ensures.0 power.ensures ones.result ones.ensures) c.requires.5) c.count_line.ensures
