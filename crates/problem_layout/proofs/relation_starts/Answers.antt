use Prim.Native.Nat.{◌≤◌, ◌^◌}
use mathlib.Core.Path.{◌≡◌, refl, ◌∙◌}
use native.Mathlib.Omega.{arith}
use borrow.Author.Rules.{rules}
use lib.ListN.{get_or, length-set}
use Rattle.problem_layout.specs.Laid.{seconds_at}
use Rattle.problem_layout.specs.LaidLaws.{rels_first, rels_next, rel_bound, set_bound, width_le, set_width_le, pow_fits, size_most}
use Rattle.problem_layout.proofs.relation_starts.Goals as goal
use Rattle.problem_layout.proofs.relation_starts.Goals.{After-power-size, In-loop-i}

-- what is known of the relation where the loop stands, and of the sums so far
module _ (c : In-loop-i) where
  sorts : let g = c.args.g in (get_or g.firsts c.loop-i.i 0 ≤ 8) × (get_or g.seconds c.loop-i.i 0 ≤ 8)
  sorts = let q = c.requires.2 in (q.firsts c.loop-i.i, q.seconds c.loop-i.i)

  low : let l = c.loop-i in (l.at ≤ 2 ^ 30) × (l.sets ≤ 2 ^ 30)
  low =
      let l = c.loop-i in let a = rel_bound _ _ c.requires.1 c.requires.2 l.i in
      let b = set_bound _ _ c.requires.1 c.requires.2 c.args.ranges.count c.requires.3.count l.i in
      (omega (arith, l.invariant.5.at_is), omega (arith, l.invariant.5.set_is))

size_small : (c : After-power-size) → c.power-size.result ≤ 64 ^ 4
size_small c =
    size_most c.args.n _ c.power-size.result c.power-size.ensures c.requires.1 (c.requires.2.arity c.loop-i.i)

pub bounds-rel-0 : goal.bounds-rel-0
bounds-rel-0 c = omega arith

pub loop-i-init : goal.loop-i-init
loop-i-init c = (omega arith, refl, refl, refl, refl, rels_first _ _ _, search rules)

pub power-size-requires : goal.power-size-requires
power-size-requires c = (c.requires.0, pow_fits _ _ c.requires.1 (c.requires.2.arity c.loop-i.i))

pub overflow_add-neg : goal.overflow_add-neg
overflow_add-neg c = omega (arith, low (goal.at.overflow_add-neg c).In-loop-i, size_small c)

pub overflow_add-dom : goal.overflow_add-dom
overflow_add-dom c = omega (arith, size_small c)

pub overflow_add-dom-in-loop-i : goal.overflow_add-dom-in-loop-i
overflow_add-dom-in-loop-i c = omega (arith, low (goal.at.overflow_add-dom-in-loop-i c).In-loop-i, size_small c)

pub relation_width-at-requires : goal.relation_width-at-requires
relation_width-at-requires c = (c.requires.1, size_small c)

pub overflow_add-at : goal.overflow_add-at
overflow_add-at c =
    let kind = get_or c.args.g.kind c.loop-i.i 0 in
    omega (arith, low (goal.at.overflow_add-at c).In-loop-i, c.relation_width-at.ensures, width_le _ _ kind c.requires.1 (size_small (goal.at.overflow_add-at c).After-power-size))

pub offset_bounds-ranges-g : goal.offset_bounds-ranges-g
offset_bounds-ranges-g c = omega (arith, sorts (goal.at.offset_bounds-ranges-g c).In-loop-i)

pub bounds-ranges-g : goal.bounds-ranges-g
bounds-ranges-g c = omega (arith, sorts (goal.at.bounds-ranges-g c).In-loop-i)

pub offset_bounds-ranges-g-in-loop-i : goal.offset_bounds-ranges-g-in-loop-i
offset_bounds-ranges-g-in-loop-i c = omega (arith, sorts (goal.at.offset_bounds-ranges-g-in-loop-i c).In-loop-i)

pub bounds-ranges-g-in-loop-i : goal.bounds-ranges-g-in-loop-i
bounds-ranges-g-in-loop-i c = omega (arith, sorts (goal.at.bounds-ranges-g-in-loop-i c).In-loop-i)

pub set_width-sets-requires : goal.set_width-sets-requires
set_width-sets-requires c = ((c.requires.3.count (get_or c.args.g.firsts c.loop-i.i 0)), (c.requires.3.count (get_or c.args.g.seconds c.loop-i.i 0)))

pub overflow_add-sets : goal.overflow_add-sets
overflow_add-sets c =
    let k = c.args.g in let i = c.loop-i.i in let q = set_width_le _ _ (seconds_at c.args.ranges.count k _) (get_or k.kind i 0) (size_small (goal.at.overflow_add-sets c).After-power-size) (c.requires.3.count (get_or k.firsts i 0))
    (c.requires.3.count (get_or k.seconds i 0)) in
    omega (arith, low (goal.at.overflow_add-sets c).In-loop-i, c.set_width-sets.ensures, q)

pub loop-i-preserved : goal.loop-i-preserved
loop-i-preserved c =
    let k = c.loop-i in (
      omega arith,
      length-set k.rel _ _ ∙ k.invariant.1,
      length-set k.neg _ _ ∙ k.invariant.2,
      length-set k.dom _ _ ∙ k.invariant.3,
      length-set k.set _ _ ∙ k.invariant.4,
      rels_next _ _ c.requires.1 c.requires.2 _ _ _ k.neg _ _ _ _ _ c.relation_width-at.result _ (omega arith) k.invariant.1 k.invariant.2 k.invariant.3 k.invariant.4
          c.power-size.ensures c.relation_width-at.ensures c.set_width-sets.ensures k.invariant.5,
      k.invariant.6,
    )

pub returns : goal.returns
returns c = let k = c.loop-i in let e : k.i ≡ c.args.g.count = omega arith in rw e at k.invariant.5
