-- A sequence that is read by a loop: what was said of the items before, and what is found of those that follow. Assumes nothing.
use Rattle.std.specs.Prelude.{ℕ, ◌+◌, ◌≤◌, ◌≡◌, refl, Bool, true, false, ◌&&◌, []}
use Rattle.std.proofs.Common.{arith, ◌∙◌}
use Rattle.std.proofs.Math.Path.{sym, ap}
use Rattle.read_rule.specs.Seen.{nought, both_facts}
use Rattle.read_rule.specs.Said.{facts_eq}
use Rattle.read_rule.specs.Seen.{Scanned}
use Rattle.std.specs.Prelude.{Some, None}
use Rattle.read_rule.specs.declared.Facts.{Facts}

unfoldable pub after : Facts → Scanned → Scanned
after f None = None
after f (Some (e, g)) = Some (e, both_facts f g)

and_assoc : (a b c : Bool) → (a && (b && c)) ≡ ((a && b) && c)
and_assoc true b c = refl
and_assoc false b c = refl

and_end : (a : Bool) → (a && true) ≡ a
and_end true = refl
and_end false = refl

after_nought : (x : Scanned) → x ≡ after (nought []) x
unfolding after
after_nought None = refl
after_nought (Some (e, g)) = ap (λ (m : Facts). Some (e, m)) (facts_eq _ _ _ _ _ _ _ _ _ _ (omega arith) refl refl refl refl)

after_both : (f g : Facts) (x : Scanned) → after f (after g x) ≡ after (both_facts f g) x
unfolding after
after_both f g None = refl
after_both f g (Some (e, h)) = ap (λ (m : Facts). Some (e, m)) (facts_eq _ _ _ _ _ _ _ _ _ _ (omega arith) (and_assoc f.fits g.fits h.fits) (and_assoc f.known g.known h.known) (and_assoc f.scoped g.scoped h.scoped) (and_assoc f.typed g.typed h.typed))

-- before the first turn; a turn; the ends. `all` is what is found of the whole sequence, `rest` of what a turn begins with
pub turn_first : (all : Scanned) → all ≡ after (nought []) all
turn_first all = after_nought all

module _ (all rest : Scanned) (said : Facts) (h : all ≡ after said rest) where
  pub turn_next : (more : Scanned) (one now : Facts) → now ≡ both_facts said one → rest ≡ after one more → all ≡ after now more
  turn_next more one now q e = h ∙ ap (λ (x : Scanned). after said x) e ∙ after_both said one more ∙ ap (λ (f : Facts). after f more) (sym q)

  pub turn_bad : None ≡ rest → None ≡ all
  unfolding after
  turn_bad e = sym (h ∙ ap (λ (x : Scanned). after said x) (sym e))

  pub turn_last : (at : ℕ) → Some (at, nought []) ≡ rest → Some (at, said) ≡ all
  unfolding after
  turn_last at e = sym (h ∙ ap (λ (x : Scanned). after said x) (sym e) ∙ ap (λ (m : Facts). Some (at, m)) (facts_eq _ _ _ _ _ _ _ _ _ _ (omega arith) (and_end said.fits) (and_end said.known) (and_end said.scoped) (and_end said.typed)))

-- what was said weighs no more than the bytes that were read
pub turn_weight : (i next : ℕ) (said one now : Facts) → now ≡ both_facts said one → said.forms ≤ i → (i + 1) + one.forms ≤ next → now.forms ≤ next
turn_weight i next said one now q h e = omega (arith, ap (λ (f : Facts). f.forms) q)
