use mathlib.Core.Path.{◌≡◌, refl}
use native.Mathlib.Omega.{arith}
use Rattle.std.specs.Prelude.{Ok, Err}
use Rattle.std.proofs.lemmas.Grind.{common_steps}
use Rattle.std.proofs.lemmas.Result.{err_from_is_err_and}
use Rattle.read_sheets.proofs.Loops.{picks_long, picks_start, picks_next, picks_fault, picks_done}
use borrow.Author.Rules.{rules}
use Rattle.read_sheets.proofs.picks_lines.Goals as goal

pub returns-then-end-gt-LIMIT : goal.returns-then-end-gt-LIMIT
returns-then-end-gt-LIMIT c = λ ls K. rw c.at.ensures (picks_long _ _ _ ls _ c.if-end-gt-LIMIT.true)

pub loop-at-init : goal.loop-at-init
loop-at-init c = (omega arith, omega arith, refl, λ ls K. picks_start _ _ _ ls _ _ (omega arith) c.requires.sound_signature.3)

pub returns-in_err-map_err : goal.returns-in_err-map_err
returns-in_err-map_err c =
    let p = err_from_is_err_and c.from_residual.result c.from_residual.ensures.1 in
    let e : c.picks_turn.result ≡ Err (c.in_err-map_err.field-0.0.cause) = grind (arith, common_steps) in
    let f : c.in_err-map_err.field-0.0.place ≡ c.loop-at.at = grind (arith, common_steps) in
    λ ls K.
    let turned = c.picks_turn.ensures ls K c.args.g refl refl in
    rw (p.1, p.2, f) (picks_fault _ _ _ ls _ _ _ _ (c.loop-at.invariant.3 ls K) _ _ c.line-l.ensures.2 _ _ turned _ e)

pub loop-at-preserved : goal.loop-at-preserved
loop-at-preserved c =
    let line = c.line-l.ensures in
    let e : c.picks_turn.result ≡ Ok tt = grind (arith, common_steps) in (
      line.1,
      omega (arith, line.0),
      search rules,
      λ ls K.
          let turned = c.picks_turn.ensures ls K
          c.args.g refl refl in
          picks_next _ _ _ ls _ _ _ _ (c.loop-at.invariant.3 ls K) _ _ line.2 _ _ turned e,
    )

pub returns : goal.returns
returns c = λ ls K. picks_done _ _ _ ls _ _ _ _ (c.loop-at.invariant.3 ls K) (omega arith)
