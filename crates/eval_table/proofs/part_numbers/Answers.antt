use native.Mathlib.Omega.{arith}
use Rattle.eval_table.specs.Numbers.{part_literal, part_node}
use Rattle.eval_table.proofs.part_numbers.Goals as goal

pub bounds-kinds-which : goal.bounds-kinds-which
bounds-kinds-which c = omega (arith, c.wide-which.ensures.0, c.requires.2.relation c.if-q-lt2.true, c.requires.3)

pub bounds-bits-which : goal.bounds-bits-which
bounds-bits-which c = let wide-there = c.wide-which in omega (arith, wide-there.ensures.0, c.requires.2.relation c.if-q-lt2.true, c.requires.4)

pub returns-then-q-lt2 : goal.returns-then-q-lt2
returns-then-q-lt2 c = let wide-there = c.wide-which in let a = wide-there in let b = c.wide in let w = c.weights-w in let t = c.wide-then-q-lt2 in let r = c.source in part_literal c.args.n c.args.value c.args.kinds.now c.args.bits.now c.args.q a.result b.result 0 t.result r.result w.result (omega arith) a.ensures b.ensures t.ensures r.ensures w.ensures.0 w.ensures.1 c.requires.5

pub returns : goal.returns
returns c = let a = c.wide-which in let b = c.wide in let w = c.weights-w in part_node c.args.n c.args.value c.args.kinds.now c.args.bits.now c.args.q a.result b.result w.result (omega arith) a.ensures b.ensures w.ensures.0 w.ensures.1
