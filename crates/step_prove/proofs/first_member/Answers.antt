use borrow.Author.Rules.{rules}
use mathlib.Core.Path.{◌≡◌, sym, ap, ◌∙◌}
use Prim.Native.Nat.{ℕ, ◌+◌, ◌*◌}
use Rattle.bits.specs.Table.{bit}
use native.Mathlib.Omega.{arith}
use Rattle.step_prove.specs.TryLaws.{first_start, first_yes, first_no, first_end}
use Rattle.step_prove.specs.NeedLaws.{stride_most}
use Rattle.rule_nodes.specs.Bounds.{part_taken}
use Rattle.step_prove.proofs.first_member.Goals as goal

pub loop-i-init : goal.loop-i-init
loop-i-init c = search (rules, first_start)

pub overflow_mul-x : goal.overflow_mul-x
overflow_mul-x c =
    let q = c.requires in let a = c.args in let here = part_taken a.table.now a.range a.count c.loop-i.i 0 c.loop-i-test.true in
    rw here (omega (arith, stride_most _ _ 64 (q.2 c.loop-i.i (omega arith)) q.4))

pub overflow_add-start : goal.overflow_add-start
overflow_add-start c =
    let q = c.requires in let a = c.args in let here = part_taken a.table.now a.range a.count c.loop-i.i 0 c.loop-i-test.true in
    rw here (omega (arith, q.3, stride_most _ _ 64 (q.2 c.loop-i.i (omega arith)) q.4))

pub returns-then-test : goal.returns-then-test
returns-then-test c =
    let a = c.args in let here = part_taken a.table.now a.range a.count c.loop-i.i 0 c.loop-i-test.true in
    first_yes _ _ _ (omega arith) (sym (c.test.ensures ∙ ap (λ (x : ℕ). bit a.state.now (a.start + x * a.stride)) here) ∙ c.if-test.true) ∙ sym c.loop-i.invariant.1

pub loop-i-preserved : goal.loop-i-preserved
loop-i-preserved c =
    let a = c.args in let here = part_taken a.table.now a.range a.count c.loop-i.i 0 c.loop-i-test.true in
    (omega arith, c.loop-i.invariant.1 ∙ first_no _ _ _ (omega arith) (sym (c.test.ensures ∙ ap (λ (x : ℕ). bit a.state.now (a.start + x * a.stride)) here) ∙ c.if-test.false))

pub returns : goal.returns
returns c = let e : c.args.count ≡ c.loop-i.i = omega arith in e ∙ first_end _ _ _ (omega arith) ∙ sym c.loop-i.invariant.1
