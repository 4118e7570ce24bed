-- `judge` meets its contract.
use mathlib.Core.Path.{◌≡◌, refl, ◌∙◌}
use Rattle.read_rule.specs.Seen.{fault_of, verdict_of}
use native.Mathlib.Omega.{arith}
use borrow.Author.Tests.{not-true, not-false}
use Rattle.read_rule.specs.Spans.{join_le, judge_forms, judge_nest, judge_known, judge_last}
use Rattle.read_rule.proofs.judge.Goals as goal
use Rattle.read_rule.proofs.judge.Goals.{Else-not-f-2}

pub overflow_add-f-2 : goal.overflow_add-f-2
overflow_add-f-2 c = omega (arith, join_le c.args.t, c.joining-join.ensures, c.requires.0, c.requires.1)

pub returns-then-f-t-gt64 : goal.returns-then-f-t-gt64
returns-then-f-t-gt64 c = judge_forms _ _ _ c.joining-join.ensures c.if-f-t-gt64.true

pub returns-then-not-f : goal.returns-then-not-f
returns-then-not-f c = judge_nest _ _ _ c.joining-join.ensures (omega (arith, c.if-f-t-gt64.false)) (not-true _ c.if-not-f.true)

pub returns-then-not-f-2 : goal.returns-then-not-f-2
returns-then-not-f-2 c = judge_known _ _ _ c.joining-join.ensures (omega (arith, c.if-f-t-gt64.false)) (not-false _ c.if-not-f.false) (not-true _ c.if-not-f-2.true)

-- the last two tests
last : (c : Else-not-f-2) → fault_of c.args.f.scoped 8 c.args.f.typed 19 ≡ verdict_of c.args.f c.args.t
last c = judge_last c.args.f c.args.t _ c.joining-join.ensures (omega (arith, c.if-f-t-gt64.false)) (not-false _ c.if-not-f.false) (not-false _ c.if-not-f-2.false)

pub returns-then-not-f-3 : goal.returns-then-not-f-3
returns-then-not-f-3 c =
    let e : 8 ≡ fault_of c.args.f.scoped 8 c.args.f.typed 19 = rw (not-true _ c.if-not-f-3.true) refl in
    e ∙ last (goal.at.returns-then-not-f-3 c).Else-not-f-2

pub returns-then-not-f-4 : goal.returns-then-not-f-4
returns-then-not-f-4 c =
    let e : 19 ≡ fault_of c.args.f.scoped 8 c.args.f.typed 19 = rw (not-false _ c.if-not-f-3.false, not-true _ c.if-not-f-4.true) refl in
    e ∙ last (goal.at.returns-then-not-f-4 c).Else-not-f-2

pub returns : goal.returns
returns c =
    let e : 0 ≡ fault_of c.args.f.scoped 8 c.args.f.typed 19 = rw (not-false _ c.if-not-f-3.false, not-false _ c.if-not-f-4.false) refl in
    e ∙ last (goal.at.returns c).Else-not-f-2
