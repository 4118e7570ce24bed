use mathlib.Core.Path.{ap}
use Prim.Native.Nat.{ℕ}
use native.Mathlib.Omega.{arith}
use Rattle.rows.specs.Laws.{within_zeros, value_zeros}
use Rattle.bits.specs.Table.{digit}
use Rattle.eval_rule.specs.Laws.{root_node, root_leaf, root_small}
use Rattle.eval_valuations.specs.Words.{leaf_in}
use Rattle.eval_valuations.proofs.rule_words.Goals as goal

pub node_words-requires : goal.node_words-requires
node_words-requires c = (c.requires, root_small c.args.n c.args.lines.now c.requires c.part_at-q.result c.part_at-q.ensures c.if-q-eq0.true, within_zeros c.args.n c.requires.some)

pub returns-then-q-eq0 : goal.returns-then-q-eq0
returns-then-q-eq0 c = let q = c.part_at-q in let a = c.args in λ j l H root h. root_node H root a.n a.lines.now (leaf_in a.facts.now a.pos.now a.neg.now a.n j) h q.result q.ensures _ value_zeros (digit c.node_words.result j) c.if-q-eq0.true (c.node_words.ensures j l H root)

pub leaf_words-requires : goal.leaf_words-requires
leaf_words-requires c = (c.requires, omega arith, within_zeros c.args.n c.requires.some)

pub returns : goal.returns
returns c = let q = c.part_at-q in let a = c.args in λ j l H root h. root_leaf H root a.n a.lines.now (leaf_in a.facts.now a.pos.now a.neg.now a.n j) h q.result q.ensures _ value_zeros (digit c.leaf_words.result j) c.if-q-eq0.false (within_zeros a.n c.requires.some) (ap (λ (z : ℕ). digit z j) c.leaf_words.ensures)
