use mathlib.Core.Path.{◌≡◌, refl, sym, ◌∙◌}
use native.Mathlib.Omega.{arith}
use Rattle.std.specs.Prelude.{Ok, Err}
use Rattle.std.proofs.lemmas.Grind.{common_steps}
use Rattle.std.proofs.lemmas.Result.{err_from_is_err_and}
use Rattle.read_sheets.proofs.Numbers.{long_answer, reach_start, reach_number, reach_fault, write_start, write_number, steps_stop}
use Rattle.read_sheets.proofs.steps.Goals as goal

pub returns-then-s-gt-LIMIT : goal.returns-then-s-gt-LIMIT
returns-then-s-gt-LIMIT c = rw c.at.ensures (long_answer c.args.s.now c.if-s-gt-LIMIT.true)

pub loop-at-init : goal.loop-at-init
loop-at-init c = (omega arith, omega arith, refl, reach_start _ (omega arith), λ w. write_start _ _ w)

pub returns-in_err-k : goal.returns-in_err-k
returns-in_err-k c =
    let p = err_from_is_err_and c.from_residual.result c.from_residual.ensures.1 in
    let e : c.step.result ≡ Err (c.in_err-k.field-0.0.cause) = grind (arith, common_steps) in
    let f : c.in_err-k.field-0.0.place ≡ c.loop-at.at = grind (arith, common_steps) in
    rw (p.1, p.2, f) (reach_fault _ _ _ c.loop-at.invariant.3 _ _ _ c.line-l.ensures.2 (sym c.step.ensures ∙ e))

pub loop-at-preserved : goal.loop-at-preserved
loop-at-preserved c =
    let l = c.loop-at in
    let line = c.line-l.ensures in
    let e : c.step.result ≡ Ok c.in_ok-k.k = grind (arith, common_steps) in
    let step = sym c.step.ensures ∙ e in (
      line.1,
      omega (arith, line.0),
      c.put.auto.out ∙ l.invariant.2,
      reach_number _ _ _ l.invariant.3 _ _ _ line.2 step,
      λ w. rw c.put.ensures (write_number _ _ _ _ _ w (l.invariant.4 w) _ _ _ line.2 step),
    )

pub returns : goal.returns
returns c = let l = c.loop-at in steps_stop _ _ _ _ _ c.requires l.invariant.3 l.invariant.4 (omega arith)
