-- `rows::times` meets its contract.
use mathlib.Core.Path.{◌≡◌}
use native.Mathlib.Omega.{arith}
use borrow.Author.Rules.{rules}
use lib.ListN.{length, get_or}
use Rattle.rows.specs.Laws.{times_most, map_four}
use Rattle.rows.proofs.times.Goals as goal

pub overflow_mul-result : goal.overflow_mul-result
overflow_mul-result c = omega (arith, times_most (get_or c.args.w 0 0) c.args.n (c.requires.1 0) c.requires.0)

pub overflow_mul-result-2 : goal.overflow_mul-result-2
overflow_mul-result-2 c = omega (arith, times_most (get_or c.args.w 1 0) c.args.n (c.requires.1 1) c.requires.0)

pub overflow_mul-result-3 : goal.overflow_mul-result-3
overflow_mul-result-3 c = omega (arith, times_most (get_or c.args.w 2 0) c.args.n (c.requires.1 2) c.requires.0)

pub overflow_mul-result-4 : goal.overflow_mul-result-4
overflow_mul-result-4 c = omega (arith, times_most (get_or c.args.w 3 0) c.args.n (c.requires.1 3) c.requires.0)

pub returns : goal.returns
returns c = let len : length c.args.w ≡ 4 = search rules in map_four c.args.n c.args.w len
