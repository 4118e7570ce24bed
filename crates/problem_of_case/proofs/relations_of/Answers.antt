use Prim.Native.Nat.{◌+◌, ◌≤◌, ◌<◌}
use mathlib.Core.Path.{◌≡◌, refl, sym, subst, ◌∙◌}
use Rattle.read_names.specs.declared.Signature.{Signature}
use Rattle.read_names.specs.Signatures.{HasKind}
use native.Mathlib.Omega.{arith}
use lib.ListN.{length-set}
use Rattle.problem_of_case.specs.Numbered.{SortAt}
use Rattle.problem_of_case.specs.NumberedLaws.{Filled, filled_start, filled_next, numbered, kind_at, sort_at}
use Rattle.problem_of_case.proofs.relations_of.Goals as goal

pub loop-r-init : goal.loop-r-init
loop-r-init c = (omega arith, omega (arith, c.requires.rels, c.requires.chosen, c.requires.every), refl, refl, refl, refl, filled_start _ _ _ _ _)

pub loop-r-preserved : goal.loop-r-preserved
loop-r-preserved c =
    let k = c.loop-r in let d = λ (g : Signature) (e : g.kind ≡ c.args.g.kind) (h : k.r < 5 + (g.rels + g.chosen + g.every)) (one : g.every ≤ 1). subst (HasKind g k.r) (sym c.declared_at.ensures) (kind_at _ _ g e h one) in
    let y = subst (SortAt _ k.r) (sym (c.wide.ensures.0 ∙ c.declared_at-in-loop-r.ensures)) (sort_at c.args.g.firsts k.r) in
    let z = subst (SortAt _ k.r) (sym (c.wide-in-loop-r.ensures.0 ∙ c.declared_at-in-loop-r-2.ensures)) (sort_at c.args.g.seconds k.r) in (
      omega arith,
      k.invariant.1,
      length-set k.arity _ _ ∙ k.invariant.2,
      length-set k.kind _ _ ∙ k.invariant.3,
      length-set k.firsts _ _ ∙ k.invariant.4,
      length-set k.seconds _ _ ∙ k.invariant.5,
      filled_next _ _ _ _ _ k.r k.arity k.kind k.firsts k.seconds (omega arith) (omega (arith, k.invariant.1, k.invariant.2)) (omega (arith, k.invariant.1, k.invariant.3)) (omega (arith, k.invariant.1, k.invariant.4)) (omega (arith, k.invariant.1, k.invariant.5))
          _ _ _ _ _ c.arity_at.ensures d c.kind_number.ensures y z k.invariant.6,
    )

pub returns : goal.returns
unfolding Filled
returns c = let k = c.loop-r in let s = c.requires in numbered c.args.g k.r k.arity k.kind k.firsts k.seconds s (omega arith) (k.invariant.6 c.args.g s refl refl refl refl refl)
