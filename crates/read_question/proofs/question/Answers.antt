-- `read_question::question` meets its contract. The head, then the rule's own verdict, then whatever stands after the rule.
use mathlib.Core.Path.{◌≡◌, ap, sym, ◌∙◌}
use native.Mathlib.Omega.{arith}
use Rattle.read_rule.specs.Seen.{fault_in}
use Rattle.std.specs.Prelude.{Ok, Err}
use Rattle.std.proofs.lemmas.Grind.{common_steps}
use Rattle.std.proofs.lemmas.Result.{err_from_is_err_and}
use Rattle.read_question.specs.Drafts.{verdict_in}
use Rattle.read_question.proofs.Ending.{rule_in, next_in, end_verdict, end_later, end_accepted}
use Rattle.read_question.proofs.question.Goals as goal
use Rattle.read_question.proofs.question.Goals.{In_ok-map_err}

pub rule_verdict-requires : goal.rule_verdict-requires
rule_verdict-requires c = rule_in _ _ c.in_ok-h.ensures

pub returns-in_err-map_err : goal.returns-in_err-map_err
returns-in_err-map_err c =
    let p = err_from_is_err_and c.from_residual-in_err-map_err.result c.from_residual-in_err-map_err.ensures.1 in
    let e : c.rule_verdict.result ≡ Err (c.in_err-map_err.field-0.0.cause) = grind (arith, common_steps) in
    let f : c.in_err-map_err.field-0.0.place ≡ c.in_ok-h.h.place = grind (arith, common_steps) in
    rw (p.1, p.2, f) (end_verdict _ _ c.in_ok-h.ensures _ (sym (ap fault_in e) ∙ c.rule_verdict.ensures))

-- the rule is fine
fine : (c : In_ok-map_err) → 0 ≡ verdict_in c.args.s.now c.in_ok-h.h
fine c =
    let e : c.rule_verdict.result ≡ Ok tt = grind (arith, common_steps) in
    sym (ap fault_in e) ∙ c.rule_verdict.ensures

pub returns-then-h-s : goal.returns-then-h-s
returns-then-h-s c =
    let f = fine (goal.at.returns-then-h-s c).In_ok-map_err in
    rw c.at.ensures (end_later _ _ c.in_ok-h.ensures f _ _ c.line-l.ensures.2 _ c.after_rule.ensures)

pub returns : goal.returns
returns c =
    let h = c.in_ok-h.ensures in
    end_accepted _ _ h (fine (goal.at.returns c).In_ok-map_err) (omega (arith, next_in _ _ h))
