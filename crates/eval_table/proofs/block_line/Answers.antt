use native.Mathlib.Omega.{arith}
use Rattle.eval_table.specs.Numbers.{block_join, block_literal, block_quantifier, block_fused}
use Rattle.eval_table.proofs.block_line.Goals as goal

pub returns-then-q-lt2 : goal.returns-then-q-lt2
returns-then-q-lt2 c = block_literal c.args.turns c.requires c.args.x c.args.q c.args.y c.own_line.result (omega (arith, c.wide-kind.ensures.0)) (omega arith) c.own_line.ensures

pub returns-then-join-lt2 : goal.returns-then-join-lt2
returns-then-join-lt2 c = block_quantifier c.args.turns c.requires c.args.x c.args.q c.args.y c.own_line-then-join-lt2.result (omega (arith, c.wide-kind.ensures.0)) (omega arith) (omega (arith, c.wide-join.ensures.0)) c.own_line-then-join-lt2.ensures

pub returns-then-kind-lt2 : goal.returns-then-kind-lt2
returns-then-kind-lt2 c =
    let wide3 = c.wide-level in let wide2 = c.wide-join in let wide-there = c.wide-kind in block_fused c.args.turns c.requires c.args.x c.args.q c.args.y wide-there.result wide3.result wide2.result c.wide-first.result c.wide-many.result c.range_of-range.result
    wide-there.ensures wide3.ensures wide2.ensures c.wide-first.ensures c.wide-many.ensures c.range_of-range.ensures (omega arith) (omega arith) (omega arith)

pub returns : goal.returns
returns c = block_join c.args.turns c.requires c.args.x c.args.q c.args.y c.own_line-2.result (omega (arith, c.wide-kind.ensures.0)) c.own_line-2.ensures
