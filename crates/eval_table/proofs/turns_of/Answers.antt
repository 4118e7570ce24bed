use mathlib.Core.Path.{◌≡◌}
use native.Mathlib.Omega.{arith}
use borrow.Author.Count.{below_more}
use borrow.Author.Rules.{rules}
use lib.ListN.{length}
use Rattle.eval_table.specs.Numbers.{turns_all, turns_one}
use Rattle.eval_table.proofs.turns_of.Goals as goal

pub loop-i-init : goal.loop-i-init
loop-i-init c = (omega arith, λ k h. absurd (omega arith))

pub bounds-levels-i : goal.bounds-levels-i
bounds-levels-i c = omega (arith, c.wide-width.ensures.0, c.requires.1.width)

pub returns-then-levels-i : goal.returns-then-levels-i
returns-then-levels-i c =
    let wide-there = c.wide-width in let len : length c.args.q.levels ≡ 4 = search rules in
    (turns_all c.args.count c.args.level c.args.q wide-there.result wide-there.ensures c.loop-i.i (omega arith) (omega (arith, wide-there.ensures.0, c.requires.1.width)) c.if-levels-i.true, c.requires.0)

pub loop-i-preserved : goal.loop-i-preserved
loop-i-preserved c = (omega arith, below_more _ _ c.loop-i.invariant.1 c.if-levels-i.false)

pub returns : goal.returns
returns c = (turns_one c.args.count c.args.level c.args.q c.wide-width.result c.wide-width.ensures (λ k l. c.loop-i.invariant.1 k (omega arith)), omega arith)
