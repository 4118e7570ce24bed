use Prim.Native.Nat.{ℕ, ◌≤◌, ◌^◌}
use mathlib.Core.Path.{◌≡◌, subst}
use native.Mathlib.Omega.{arith}
use lib.ListN.{get_or}
use Rattle.problem_layout.specs.Laid.{firsts_at, seconds_at}
use Rattle.problem_layout.specs.LaidLaws.{pow_fits, size_most, width_le, set_width_le, most_width_le}
use Rattle.problem_sizes.specs.Sums.{RelationsSummed}
use Rattle.problem_sizes.specs.SumLaws.{relations_first, relations_next, relation_counts}
use Rattle.problem_sizes.proofs.of_relations.Goals as goal
use Rattle.problem_sizes.proofs.of_relations.Goals.{After-power-size, At-loop-i}

-- the sums so far, and the size of the relation where the loop stands
counts-small : (c : At-loop-i) → (c.loop-i.atoms ≤ 2 ^ 30) × (c.loop-i.sets ≤ 2 ^ 29) × (c.loop-i.picks ≤ 2 ^ 29)
counts-small c =
    relation_counts c.args.n c.requires.1 c.args.ranges.count c.args.g c.requires.3.count c.requires.2 c.loop-i.i c.loop-i.atoms c.loop-i.sets c.loop-i.picks c.loop-i.invariant.0 c.loop-i.invariant.1

size_small : (c : After-power-size) → c.power-size.result ≤ 64 ^ 4
size_small c =
    let i = c.loop-i.i in size_most c.args.n (get_or c.args.g.arity i 0) c.power-size.result c.power-size.ensures c.requires.1 (c.requires.2.arity i)

pub loop-i-init : goal.loop-i-init
loop-i-init c = (omega arith, relations_first c.args.n c.args.ranges.count c.args.g)

pub offset_bounds-g-i : goal.offset_bounds-g-i
offset_bounds-g-i c = omega (arith, c.requires.2.count)

pub bounds-g-i : goal.bounds-g-i
bounds-g-i c = omega (arith, c.requires.2.count)

pub offset_bounds-g-i-in-loop-i : goal.offset_bounds-g-i-in-loop-i
offset_bounds-g-i-in-loop-i c = omega (arith, c.requires.2.count)

pub bounds-g-i-in-loop-i : goal.bounds-g-i-in-loop-i
bounds-g-i-in-loop-i c = omega (arith, c.requires.2.count)

pub power-size-requires : goal.power-size-requires
power-size-requires c = (c.requires.0, pow_fits c.args.n (get_or c.args.g.arity c.loop-i.i 0) c.requires.1 (c.requires.2.arity c.loop-i.i))

pub relation_width-atoms-requires : goal.relation_width-atoms-requires
relation_width-atoms-requires c = (c.requires.1, size_small c)

pub overflow_add-atoms : goal.overflow_add-atoms
overflow_add-atoms c = omega (arith, (counts-small ((goal.at.overflow_add-atoms c).At-loop-i)).0, c.relation_width-atoms.ensures, width_le c.args.n c.power-size.result (get_or c.args.g.kind c.loop-i.i 0) c.requires.1 (size_small (goal.at.overflow_add-atoms c).After-power-size))

pub offset_bounds-g-i-in-loop-i-2 : goal.offset_bounds-g-i-in-loop-i-2
offset_bounds-g-i-in-loop-i-2 c = omega (arith, c.requires.2.count)

pub bounds-g-i-in-loop-i-2 : goal.bounds-g-i-in-loop-i-2
bounds-g-i-in-loop-i-2 c = omega (arith, c.requires.2.count)

pub offset_bounds-ranges-g : goal.offset_bounds-ranges-g
offset_bounds-ranges-g c = omega (arith, c.requires.2.firsts c.loop-i.i)

pub bounds-ranges-g : goal.bounds-ranges-g
bounds-ranges-g c = omega (arith, c.requires.2.firsts c.loop-i.i)

pub offset_bounds-g-i-in-loop-i-3 : goal.offset_bounds-g-i-in-loop-i-3
offset_bounds-g-i-in-loop-i-3 c = omega (arith, c.requires.2.count)

pub bounds-g-i-in-loop-i-3 : goal.bounds-g-i-in-loop-i-3
bounds-g-i-in-loop-i-3 c = omega (arith, c.requires.2.count)

pub offset_bounds-ranges-g-in-loop-i : goal.offset_bounds-ranges-g-in-loop-i
offset_bounds-ranges-g-in-loop-i c = omega (arith, c.requires.2.seconds c.loop-i.i)

pub bounds-ranges-g-in-loop-i : goal.bounds-ranges-g-in-loop-i
bounds-ranges-g-in-loop-i c = omega (arith, c.requires.2.seconds c.loop-i.i)

pub set_width-sets-requires : goal.set_width-sets-requires
set_width-sets-requires c = ((c.requires.3.count (get_or c.args.g.firsts c.loop-i.i 0)), (c.requires.3.count (get_or c.args.g.seconds c.loop-i.i 0)))

pub overflow_add-sets : goal.overflow_add-sets
overflow_add-sets c =
    let q =
    set_width_le c.power-size.result (firsts_at c.args.ranges.count c.args.g c.loop-i.i)
    (seconds_at c.args.ranges.count c.args.g c.loop-i.i) (get_or c.args.g.kind c.loop-i.i 0) (size_small ((goal.at.overflow_add-sets c).After-power-size))
    (c.requires.3.count (get_or c.args.g.firsts c.loop-i.i 0)) (c.requires.3.count (get_or c.args.g.seconds c.loop-i.i 0)) in
    omega (arith, (counts-small ((goal.at.overflow_add-sets c).At-loop-i)).1, c.set_width-sets.ensures, q)

pub overflow_add-picks : goal.overflow_add-picks
overflow_add-picks c = omega (arith, (counts-small ((goal.at.overflow_add-picks c).At-loop-i)).2, c.most_width-picks.ensures, most_width_le c.args.n c.power-size.result (get_or c.args.g.kind c.loop-i.i 0) c.requires.1 (size_small ((goal.at.overflow_add-picks c).After-power-size)))

pub loop-i-preserved : goal.loop-i-preserved
loop-i-preserved c =
    let s = c.args in let k = c.loop-i in (
      omega arith,
      relations_next s.n s.ranges.count s.g k.i k.atoms k.sets k.picks c.power-size.result
          c.relation_width-atoms.result c.set_width-sets.result c.most_width-picks.result
          c.power-size.ensures c.relation_width-atoms.ensures c.set_width-sets.ensures c.most_width-picks.ensures k.invariant.1,
    )

pub returns : goal.returns
returns c =
    let s = c.args in let k = c.loop-i in let e : k.i ≡ s.g.count = omega arith in
    subst (λ (x : ℕ). RelationsSummed s.n s.ranges.count s.g x k.atoms k.sets k.picks) e k.invariant.1
