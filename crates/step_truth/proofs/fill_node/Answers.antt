-- `step_truth::fill_node` meets its contract.
use Rattle.problem_table.specs.NeedLaws.{node_small}
use Rattle.step_truth.specs.TurnLaws.{alone_filled, as_line}
use native.Mathlib.Omega.{arith}
use Rattle.step_truth.proofs.fill_node.Goals as goal

pub fill_chains-requires : goal.fill_chains-requires
fill_chains-requires c = let q = c.requires in let f = node_small _ q.0 _ _ c.node_line-v.ensures q.1 in (q.0, f.0, f.2, f.1, omega arith, q.2)

pub returns-then-v-eq0 : goal.returns-then-v-eq0
returns-then-v-eq0 c = λ p G F v N K. c.fill_chains.ensures p G F v (as_line c.node_line-v.ensures N) K

pub fill_exists-requires : goal.fill_exists-requires
fill_exists-requires c = let q = c.requires in let f = node_small _ q.0 _ _ c.node_line-v.ensures q.1 in (q.0, f.0, f.2, f.1, omega arith, q.2)

pub returns-then-v-eq1 : goal.returns-then-v-eq1
returns-then-v-eq1 c = λ p G F v N K. c.fill_exists.ensures p G F v (as_line c.node_line-v.ensures N) K

pub fill_alone-requires : goal.fill_alone-requires
fill_alone-requires c = let q = c.requires in let f = node_small _ q.0 _ _ c.node_line-v.ensures q.1 in (q.0, f.0, f.1, omega arith, omega arith)

pub returns-then-v-eq0-2 : goal.returns-then-v-eq0-2
returns-then-v-eq0-2 c = λ p G F v N K. alone_filled _ _ _ _ _ (omega arith) (omega arith) c.fill_alone.ensures p G F v (as_line c.node_line-v.ensures N) K

pub fill_parts-requires : goal.fill_parts-requires
fill_parts-requires c = let q = c.requires in let f = node_small _ q.0 _ _ c.node_line-v.ensures q.1 in (q.0, f.0, f.1, omega arith, omega arith, q.2)

pub returns : goal.returns
returns c = λ p G F v N K. c.fill_parts.ensures p G F v (as_line c.node_line-v.ensures N) K
