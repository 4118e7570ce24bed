-- `eval_table::own_line` meets its contract.
use native.Mathlib.Omega.{arith}
use Rattle.eval_table.specs.Numbers.{own_quantifier, own_join}
use Rattle.eval_table.proofs.own_line.Goals as goal

pub returns-then-kind-lt2 : goal.returns-then-kind-lt2
returns-then-kind-lt2 c =
    let wide3 = c.wide-first in let wide2 = c.wide-level in let wide = c.wide-kind in own_quantifier c.args.turns c.requires c.args.x wide.result wide2.result wide3.result c.wide-many.result c.range_of-range.result
    wide.ensures wide2.ensures wide3.ensures c.wide-many.ensures c.range_of-range.ensures (omega arith)

pub returns : goal.returns
returns c =
    own_join c.args.turns c.requires c.args.x c.wide-kind.result c.wide-first.result c.wide-many.result c.range_of-range.result
    c.wide-kind.ensures c.wide-first.ensures c.wide-many.ensures c.range_of-range.ensures (omega arith)
