use native.Mathlib.Omega.{arith}
use Rattle.problem_table.specs.NeedLaws.{node_small}
use Rattle.step_prove.specs.RowLaws.{acts_small}
use Rattle.step_write.specs.RowLaws.{read_as}
use mathlib.Core.Path.{sym, ap, ◌∙◌}
use Rattle.problem_table.specs.declared.NodeLine.{NodeLine}
use Rattle.step_write.proofs.write_node.Goals as goal

-- src/lib.rt:226:9
pub write_chains-requires : goal.write_chains-requires
write_chains-requires c =
    let q = c.requires in let e = c.node_line-v.ensures in let f = node_small _ q.0 _ _ e q.1 in
    (q.0, f.0, acts_small _ _ q.0 _ e, f.1, omega arith, q.2, q.3, q.4, f.2)

-- src/lib.rt:226:9
pub returns-then-v-eq0 : goal.returns-then-v-eq0
returns-then-v-eq0 c = let e = c.node_line-v.ensures in (c.write_chains.ensures.0, λ p G F width R h w. let k = w (sym (ap (λ (x : NodeLine). x.kind) e) ∙ omega arith) in c.write_chains.ensures.1 p G F _ width (read_as e R) h k.0 k.1)

-- src/lib.rt:228:5
pub write_rows-requires : goal.write_rows-requires
write_rows-requires c =
    let q = c.requires in let e = c.node_line-v.ensures in let f = node_small _ q.0 _ _ e q.1 in
    (q.0, f.0, acts_small _ _ q.0 _ e, f.1, omega arith, q.2, q.3, q.4, f.2)

-- src/lib.rt:210:1
pub returns : goal.returns
returns c = (c.write_rows.ensures.0, λ p G F width R h w. c.write_rows.ensures.1 p G F _ width (read_as c.node_line-v.ensures R) h)
