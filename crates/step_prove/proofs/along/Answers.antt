-- `step_prove::along` meets its contract.
use Rattle.problem_table.specs.NeedLaws.{part_small, value_times}
use Rattle.step_prove.specs.NeedLaws.{along_is, along_less, part_most}
use native.Mathlib.Omega.{arith}
use Rattle.step_prove.proofs.along.Goals as goal

pub overflow_mul-own : goal.overflow_mul-own
overflow_mul-own c = let f = part_small _ c.requires.0 _ _ c.part_line-q.ensures in omega (arith, value_times _ _ (c.requires.3 c.args.level) (f.1 c.args.level))

pub part_number-requires : goal.part_number-requires
part_number-requires c = let f = part_small _ c.requires.0 _ _ c.part_line-q.ensures in (f.0, f.1, c.requires.3)

pub overflow_sub-start : goal.overflow_sub-start
overflow_sub-start c = along_less _ _ _ _ c.requires.2 c.part_number.ensures

pub returns : goal.returns
returns c =
    let q = c.requires in let k = c.part_line-q in let f = part_small _ q.0 _ _ k.ensures in let m = part_most k.result c.args.env f.0 f.1 q.3 in
    (omega (arith, m, c.part_number.ensures), f.1 _, along_is _ _ _ _ _ _ k.ensures q.2 c.part_number.ensures)
