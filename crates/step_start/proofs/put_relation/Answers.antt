use native.Mathlib.Omega.{arith}
use Rattle.problem_table.specs.Lines.{size_in}
use Rattle.step_start.specs.RowLaws.{line_few, free_le, relation_put_lem}
use Rattle.step_start.proofs.put_relation.Goals as goal

pub put_tuples-requires : goal.put_tuples-requires
put_tuples-requires c = let p = c.requires.0 in let q = line_few _ p _ _ c.relation_line-k.ensures in (p.some, p.size, omega arith, q.0, q.1)

pub set_range-requires : goal.set_range-requires
set_range-requires c =
    let k = free_le (size_in c.args.table.now) c.relation_line-k.result.kind in
    (omega (arith, (line_few _ c.requires.0 _ _ c.relation_line-k.ensures).2), omega (arith, c.free-count.ensures, k, c.requires.0.size))

pub returns : goal.returns
returns c =
    relation_put_lem _ _ _ _ _ _ _ _ c.relation_line-k.ensures c.free-count.ensures c.put_tuples.ensures
    (λ q. c.set_range.ensures (omega (arith, c.put_tuples.auto.state)))
