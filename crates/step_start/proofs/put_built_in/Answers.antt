use native.Mathlib.Omega.{arith}
use native.Mathlib.Nat.{zero-mul, zero-add}
use mathlib.Core.Path.{◌≡◌, sym, ap, ◌∙◌}
use Prim.Native.Nat.{ℕ, ◌+◌, ◌<◌}
use mathlib.Core.Bool.{Bool}
use Rattle.bits.specs.Table.{digit, turned}
use Rattle.bits.proofs.Laws.{paste_zero}
use Rattle.bits.proofs.Stores.{paste_on}
use Rattle.step_start.specs.Rows.{built_in_at}
use Rattle.step_start.specs.RowLaws.{next_row}
use Rattle.step_start.proofs.put_built_in.Goals as goal

-- a bit of the word that is written
put : (n r row i : ℕ) (flip : Bool) (w t : ℕ) → i < 64 → digit w i ≡ built_in_at n r (row + i) → ((k : ℕ) → k < 64 → digit t k ≡ turned flip (digit w k))
    → digit t i ≡ turned flip (built_in_at n r (0 + row + i))
put n r row i flip w t l e same = same i l ∙ ap (turned flip) e ∙ ap (λ (j : ℕ). turned flip (built_in_at n r (j + i))) (sym (zero-add row))

pub loop-row-init : goal.loop-row-init
loop-row-init c = (omega arith, omega arith, sym (zero-mul _), λ h. paste_zero _ _ _ 0)

pub built_in_word-requires : goal.built_in_word-requires
built_in_word-requires c = let l = c.loop-row in (c.requires.0, l.invariant.2, omega arith, omega arith, omega arith, omega arith)

pub loop-row-preserved : goal.loop-row-preserved
loop-row-preserved c =
    let l = c.loop-row in let a = c.args in let whole : c.min-c.result ≡ a.n = omega arith in (
      omega arith,
      omega arith,
      omega (arith, l.invariant.2, next_row l.x a.n),
      λ h. rw whole at (paste_on _ _ _ 0 _ _ _ (λ i u. put a.n a.r l.row i a.flip _ _ (omega arith) (c.built_in_word.ensures i (omega arith)) c.turn.ensures) (l.invariant.3 h) (c.store.ensures (omega arith))),
    )

pub returns : goal.returns
returns c = λ h. let l = c.loop-row in let e : l.row ≡ c.args.count = omega arith in rw e at (l.invariant.3 h)

pub returns-2 : goal.returns-2
returns-2 c =
    λ h. let l = c.loop-row in let a = c.args in let e : l.row + c.min-c.result ≡ a.count = omega arith in
    rw e at (paste_on _ _ _ 0 _ _ _ (λ i u. put a.n a.r l.row i a.flip _ _ (omega arith) (c.built_in_word.ensures i (omega arith)) c.turn.ensures) (l.invariant.3 h) (c.store.ensures (omega arith)))
