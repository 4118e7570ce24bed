use Prim.Native.Nat.{ℕ}
use mathlib.Core.Path.{◌≡◌, refl, ap, subst, ◌∙◌}
use native.Mathlib.Omega.{arith}
use lib.ListN.{length, length-set}
use mathlib.Core.List.{map}
use Rattle.definitions.specs.Lists.{from}
use Rattle.definitions.specs.Reply.Allowance.{allowance}
use Rattle.call_allowance.specs.Allows.{Shown, shown_next, shown_all}
use Rattle.call_allowance.proofs.write.Goals as goal

pub loop-k-init : goal.loop-k-init
loop-k-init c = (omega arith, refl, λ p w types g G is j h. absurd (omega arith))

pub overflow_add-first : goal.overflow_add-first
overflow_add-first c = omega (arith, c.requires.3, c.loop-k.invariant.1)

pub allowance-moved-requires : goal.allowance-moved-requires
allowance-moved-requires c = (c.requires.0, c.requires.1, c.requires.2)

pub loop-k-preserved : goal.loop-k-preserved
loop-k-preserved c =
    let l = c.loop-k in let e = length-set l.out l.k c.allowance-moved.result in
    (omega arith, e ∙ l.invariant.1, shown_next c.args.n c.args.t c.args.first l.k c.allowance-moved.result l.out (omega arith) c.allowance-moved.ensures l.invariant.2)

pub shape_of-out : goal.shape_of-out
shape_of-out c = c.loop-k.invariant.1

pub returns : goal.returns
returns c =
    λ p w types g G is.
    let e : c.loop-k.k ≡ length c.loop-k.out = omega (arith, c.loop-k.invariant.0) in
    let s = subst (λ (k : ℕ). Shown c.args.n c.args.t c.args.first k c.loop-k.out) e c.loop-k.invariant.2 in
    shown_all c.args.n c.args.t c.args.first c.loop-k.out s p w types g G is ∙ ap (λ (k : ℕ). map (allowance p) (from c.args.first k)) c.loop-k.invariant.1
