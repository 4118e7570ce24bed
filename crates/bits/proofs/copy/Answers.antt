use native.Mathlib.Omega.{arith}
use mathlib.Core.Path.{◌≡◌, ap, ◌∙◌}
use Prim.Native.Nat.{ℕ, ◌+◌, ◌<◌}
use mathlib.Core.List.{List}
use lib.Dec.{ltb}
use mathlib.Core.Bool.{Bool, ◌&&◌}
use Rattle.bits.specs.Table.{bit, digit, turned, word as word_of}
use Rattle.bits.proofs.Laws.{paste_zero}
use Rattle.bits.proofs.Cuts.{cut_whole}
use Rattle.bits.proofs.Stores.{paste_on}
use Rattle.bits.proofs.copy.Goals as goal

-- a bit of the piece, turned where it has to be
piece : (source : List ℕ) (at : ℕ) (flip : Bool) (w t i : ℕ) → i < 64
    → w ≡ word_of (λ k. ltb k 64 && bit source (at + k)) 64 → ((k : ℕ) → k < 64 → digit t k ≡ turned flip (digit w k))
    → digit t i ≡ turned flip (bit source (at + i))
piece source at flip w t i l e same =
    same i l ∙ ap (λ (x : ℕ). turned flip (digit x i)) e ∙ ap (turned flip) (cut_whole source at 64 i l l)

pub loop-k-init : goal.loop-k-init
loop-k-init c = (omega arith, λ h. paste_zero _ _ _ _)

pub loop-k-preserved : goal.loop-k-preserved
loop-k-preserved c = (omega arith, λ h. let e : c.min-c.result ≡ 64 = omega arith in rw e at (paste_on _ _ _ _ _ _ _ (λ i u. piece _ _ _ _ _ i (omega arith) c.cut.ensures c.turn.ensures) (c.loop-k.invariant.1 h) (c.store.ensures (omega arith))))

pub returns : goal.returns
returns c = λ h. let e : c.loop-k.k ≡ c.args.n = omega arith in rw e at (c.loop-k.invariant.1 h)

pub returns-2 : goal.returns-2
returns-2 c = λ h. let e : c.loop-k.k + c.min-c.result ≡ c.args.n = omega arith in rw e at (paste_on _ _ _ _ _ _ _ (λ i u. piece _ _ _ _ _ i (omega arith) c.cut.ensures c.turn.ensures) (c.loop-k.invariant.1 h) (c.store.ensures (omega arith)))
