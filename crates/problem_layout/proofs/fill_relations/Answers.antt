use Prim.Native.Nat.{◌≤◌}
use mathlib.Core.Path.{◌≡◌, refl, ◌∙◌}
use native.Mathlib.Omega.{arith}
use borrow.Author.Rules.{rules}
use lib.ListN.{get_or}
use Rattle.problem_layout.specs.Filled.{relations_place}
use Rattle.problem_layout.specs.SpliceLaws.{tab_none}
use Rattle.problem_layout.specs.TurnLaws.{relation_turn, relation_last}
use Rattle.problem_layout.proofs.fill_relations.Goals as goal
use Rattle.problem_layout.proofs.fill_relations.Goals.{In-loop-r}

-- the sorts of the places of the relation where the loop stands
sorts : (c : In-loop-r) → let g = c.args.g in (get_or g.firsts c.loop-r.r 0 ≤ 8) × (get_or g.seconds c.loop-r.r 0 ≤ 8)
sorts c = let q = c.requires.1 in (q.firsts c.loop-r.r, q.seconds c.loop-r.r)

pub loop-r-init : goal.loop-r-init
loop-r-init c = (omega arith, refl, tab_none _ relations_place _, search rules, search rules)

pub place_start-firsts-requires : goal.place_start-firsts-requires
place_start-firsts-requires c = (sorts (goal.at.place_start-firsts-requires c).In-loop-r).0

pub offset_bounds-ranges-g : goal.offset_bounds-ranges-g
offset_bounds-ranges-g c = omega (arith, sorts (goal.at.offset_bounds-ranges-g c).In-loop-r)

pub bounds-ranges-g : goal.bounds-ranges-g
bounds-ranges-g c = omega (arith, sorts (goal.at.bounds-ranges-g c).In-loop-r)

pub place_start-seconds-requires : goal.place_start-seconds-requires
place_start-seconds-requires c = (sorts (goal.at.place_start-seconds-requires c).In-loop-r).1

pub offset_bounds-ranges-g-in-loop-r : goal.offset_bounds-ranges-g-in-loop-r
offset_bounds-ranges-g-in-loop-r c = omega (arith, sorts (goal.at.offset_bounds-ranges-g-in-loop-r c).In-loop-r)

pub bounds-ranges-g-in-loop-r : goal.bounds-ranges-g-in-loop-r
bounds-ranges-g-in-loop-r c = omega (arith, sorts (goal.at.bounds-ranges-g-in-loop-r c).In-loop-r)

pub loop-r-preserved : goal.loop-r-preserved
loop-r-preserved c =
    let k = c.loop-r in (
      omega arith,
      c.store.auto.table ∙ k.invariant.1,
      relation_turn _ _ _ _ _ _ k.invariant.4 _ _ _ _ _ (omega arith) c.place_start-firsts.ensures c.place_count-first_count.ensures c.place_start-seconds.ensures c.place_count-second_count.ensures
          k.invariant.2 c.store.ensures,
      k.invariant.3,
      k.invariant.4,
    )

pub returns : goal.returns
returns c =
    let k = c.loop-r in let e : k.r ≡ c.args.g.count = omega arith in
    relation_last _ _ _ _ _ _ k.invariant.4 _ (omega arith) (omega arith) (rw e at k.invariant.2) c.store-2.ensures
