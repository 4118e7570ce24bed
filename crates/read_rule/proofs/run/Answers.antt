use mathlib.Core.Path.{◌≡◌, refl, sym, ◌∙◌}
use lib.ListN.{length}
use native.Mathlib.Omega.{arith}
use borrow.Author.Rules.{rules}
use Rattle.read_rule.specs.Steps.{run_in, run_out, run_end}
use Rattle.read_rule.proofs.run.Goals as goal

pub loop-i-init : goal.loop-i-init
loop-i-init c = (search rules, refl)

pub bounds-s-i : goal.bounds-s-i
bounds-s-i c = omega arith

pub returns-then-not-is_inside : goal.returns-then-not-is_inside
returns-then-not-is_inside c = sym (c.loop-i.invariant.1 ∙ run_out _ c.args.s.now c.loop-i.i (omega arith) (sym c.is_inside.ensures ∙ c.if-not-is_inside.true))

pub loop-i-preserved : goal.loop-i-preserved
loop-i-preserved c = let step = run_in _ c.args.s.now c.loop-i.i (omega arith) (sym c.is_inside.ensures ∙ c.if-not-is_inside.false) in (omega arith, c.loop-i.invariant.1 ∙ step)

pub returns : goal.returns
returns c =
    let e : length c.args.s.now ≡ c.loop-i.i = omega arith in
    e ∙ sym (c.loop-i.invariant.1 ∙ run_end _ c.args.s.now c.loop-i.i (omega arith))
