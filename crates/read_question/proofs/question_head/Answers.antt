use mathlib.Core.Path.{◌≡◌}
use native.Mathlib.Omega.{arith}
use Rattle.std.specs.Prelude.{Ok, Err}
use Rattle.std.proofs.lemmas.Grind.{common_steps}
use Rattle.std.proofs.lemmas.Result.{err_from_is_err_and}
use Rattle.read_question.proofs.Heading.{head_long, head_start, head_sound, head_early, head_rule, head_bad, head_room, head_next, head_missing}
use Rattle.read_question.proofs.question_head.Goals as goal

pub returns-then-end-gt-LIMIT : goal.returns-then-end-gt-LIMIT
returns-then-end-gt-LIMIT c = rw c.at.ensures (head_long _ c.if-end-gt-LIMIT.true)

pub loop-at-init : goal.loop-at-init
loop-at-init c = (omega arith, rw c.no_relations-g.ensures (head_start _ (omega arith)))

pub judge-requires : goal.judge-requires
judge-requires c = (head_sound _ _ _ c.loop-at.invariant.1, c.line-l.ensures.3)

pub grow-g-requires : goal.grow-g-requires
grow-g-requires c =
    let e : c.judge.result ≡ Ok tt = grind (arith, common_steps) in
    head_room _ _ _ c.loop-at.invariant.1 _ _ c.line-l.ensures c.in_default.not-Rule _ c.judge.ensures e

pub loop-at-preserved : goal.loop-at-preserved
loop-at-preserved c =
    let l = c.line-l in
    let e : c.judge.result ≡ Ok tt = grind (arith, common_steps) in
    (l.ensures.1, rw c.grow-g.ensures (head_next _ _ _ c.loop-at.invariant.1 _ _ l.ensures c.in_default.not-Rule _ c.judge.ensures e))

pub returns-then-g-eq0 : goal.returns-then-g-eq0
returns-then-g-eq0 c = rw c.at-then-g-eq0.ensures (head_early _ _ _ c.loop-at.invariant.1 _ _ c.line-l.ensures _ _ c.in-Rule.is c.if-g-eq0.true)

pub returns-in-Rule : goal.returns-in-Rule
returns-in-Rule c = head_rule _ _ _ c.loop-at.invariant.1 _ _ c.line-l.ensures _ _ c.in-Rule.is c.if-g-eq0.false

pub returns-in_err-map_err : goal.returns-in_err-map_err
returns-in_err-map_err c =
    let p = err_from_is_err_and c.from_residual.result c.from_residual.ensures.1 in
    let e : c.judge.result ≡ Err (c.in_err-map_err.field-0.0.cause) = grind (arith, common_steps) in
    let f : c.in_err-map_err.field-0.0.place ≡ c.loop-at.at = grind (arith, common_steps) in
    rw (p.1, p.2, f) (head_bad _ _ _ c.loop-at.invariant.1 _ _ c.line-l.ensures c.in_default.not-Rule _ c.judge.ensures _ e)

pub returns : goal.returns
returns c = rw c.at-2.ensures (head_missing _ _ _ c.loop-at.invariant.1 (omega arith))
