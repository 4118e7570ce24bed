use Prim.Native.Nat.{ℕ, ◌+◌, ◌-◌, ◌^◌, ◌≤◌, ◌<◌}
use mathlib.Core.List.{List}
use mathlib.Core.Path.{◌≡◌, refl, ◌∙◌, ap}
use native.Mathlib.Omega.{arith}
use lib.ListN.{length, length-take, length-drop}
use Rattle.std.proofs.Common.{get_or, take, drop}
use Rattle.std.proofs.lemmas.List.{get_or-drop, get_or-take}
use Rattle.read_tuples.specs.Marks.{first_word}
use Rattle.read_tuples.proofs.Rows.{power_le}
use Rattle.read_tuples.proofs.Adding.{word_next}
use Rattle.read_tuples.proofs.word_of.Goals as goal

-- the arities that are gone through are those from lo up to i
arity_at : (xs : List ℕ) (lo i k : ℕ) → k < length (take (i - lo) (drop lo xs)) → i ≤ length xs
    → (lo + k < i) × (get_or (take (i - lo) (drop lo xs)) k 0 ≡ get_or xs (lo + k) 0)
arity_at xs lo i k h l =
    let m : k < i - lo = omega (arith, length-take {A = ℕ}, length-drop {A = ℕ}) in
    (omega arith, get_or-take (i - lo) (drop lo xs) k 0 m ∙ get_or-drop lo xs k 0)

pub loop-k-init : goal.loop-k-init
unfolding first_word
loop-k-init c = (λ g from to. refl, omega arith)

pub pow-requires : goal.pow-requires
pow-requires c =
    let (b, e) = arity_at c.args.arity.now c.args.lo c.args.i c.loop-k.k-index (omega arith) (omega arith) in
    omega (arith, power_le c.args.n _ c.requires.0 (c.requires.4 _ b), ap (λ (x : ℕ). c.args.n ^ x) e)

pub loop-k-preserved : goal.loop-k-preserved
loop-k-preserved c =
    let (b, e) = arity_at c.args.arity.now c.args.lo c.args.i c.loop-k.k-index (omega arith) (omega arith) in
    let p : c.pow.result ≡ c.args.n ^ get_or c.args.arity.now (c.args.lo + c.loop-k.k-index) 0 = c.pow.ensures ∙ ap (λ (x : ℕ). c.args.n ^ x) e in (
      λ g from to. word_next _ _ _ _ _ _ _ (c.loop-k.invariant.0 g from to) p c.div_ceil-sum.ensures,
      omega (arith, power_le c.args.n _ c.requires.0 (c.requires.4 _ b), p, c.div_ceil-sum.ensures),
    )
