use mathlib.Core.Path.{◌≡◌, refl}
use Rattle.std.specs.Prelude.{Ok, Err}
use Rattle.std.proofs.lemmas.Grind.{common_steps}
use Rattle.std.proofs.lemmas.Result.{err_from_is_err_and}
use native.Mathlib.Omega.{arith}
use borrow.Author.Rules.{rules}
use Rattle.read_sheets.proofs.Loops.{site_long, site_start, size_small, labels_so_far, site_next, room_next, some_next, site_fault, site_end}
use Rattle.read_sheets.proofs.Turns.{sound_few, up_to}
use Rattle.read_sheets.proofs.site_lines.Goals as goal

pub returns-then-end-gt-LIMIT : goal.returns-then-end-gt-LIMIT
returns-then-end-gt-LIMIT c = λ L e. rw c.at.ensures (site_long L _ _ _ c.if-end-gt-LIMIT.true)

pub loop-at-init : goal.loop-at-init
loop-at-init c = let p = c.requires in (omega arith, refl, refl, refl, λ L e. site_start _ _ _ _ _ _ _ (omega arith) p.3 p.4 p.5, λ z. refl, λ h. absurd (h refl))

pub site_turn-requires : goal.site_turn-requires
site_turn-requires c =
    let g = c.args.g in let p = c.requires in let most = up_to c.args.most in
    let so_far = c.loop-at.invariant in let read = so_far.4 most refl in record { few_arities = (sound_few _ g 0 g.rels p.0 (omega arith), p.1, size_small most _ _ _ _ _ _ _ _ read, λ h. rw so_far.1 (so_far.6 h)); types_bound = (p.0.types_le, omega (arith, so_far.3, p.4.room)); by_index = (labels_so_far most _ _ _ _ _ _ _ _ read, (_, c.line-l.ensures.3)) }

pub returns-in_err-st : goal.returns-in_err-st
returns-in_err-st c =
    let p = err_from_is_err_and c.from_residual.result c.from_residual.ensures.1 in
    let told : c.site_turn.result ≡ Err (c.in_err-st.field-0.0.cause) = grind (arith, common_steps) in
    let f : c.in_err-st.field-0.0.place ≡ c.loop-at.at = grind (arith, common_steps) in
    λ L e.
    let turned = c.site_turn.ensures L e c.args.g refl refl in
    rw (p.1, p.2, f) (site_fault _ _ _ _ _ _ _ _ _ (c.loop-at.invariant.4 L e) _ _ c.line-l.ensures.2 _ _ _ _ turned _ told)

pub loop-at-preserved : goal.loop-at-preserved
loop-at-preserved c =
    let most = up_to
    c.args.most in
    let line = c.line-l.ensures in let so_far = c.loop-at.invariant in let turned = c.site_turn.ensures in let told : c.site_turn.result ≡ Ok c.in_ok-st.st = grind (arith, common_steps) in (
      line.1,
      search rules,
      search rules,
      search rules,
      λ L e. site_next _ _ _ _ _ _ _ _ _ (so_far.4 L e) _ _ line.2 _ _ _ _ (turned L e c.args.g refl refl) _ told,
      λ z. absurd (some_next most _ _ _ _ _ _ _ _ (so_far.4 most refl) _ _ line.2 _ _ _ _ (turned most refl c.args.g refl refl) _ told z),
      λ h. room_next most _ _ _ _ _ _ _ _ (so_far.4 most refl) _ _ line.2 _ _ _ _ (turned most refl c.args.g refl refl) _ told _ _ refl c.requires.2
          so_far.5 so_far.6,
    )

pub site_end-requires : goal.site_end-requires
site_end-requires c =
    let p = c.requires in let so_far = c.loop-at.invariant in let small = size_small (up_to c.args.most) _ _ _ _ _ _ _ _ (so_far.4 _ refl) in
    (p.0.types_le, omega (arith, so_far.3, p.4.room), omega (arith, p.1, small))

pub returns : goal.returns
returns c = λ L e. site_end _ _ _ _ _ _ _ _ _ (c.loop-at.invariant.4 L e) (omega arith) _ c.site_end.ensures
