use Prim.Native.Nat.{ℕ, ◌≤◌, ◌<◌}
use mathlib.Core.Path.{◌≡◌, refl, ◌∙◌}
use native.Mathlib.Omega.{arith}
use borrow.Author.Rules.{rules}
use lib.ListN.{length, get_or}
use Rattle.rule_nodes.specs.Tables.{no_part}
use Rattle.problem_layout.specs.Filled.{parts_place, numbers_in}
use Rattle.problem_layout.specs.SpliceLaws.{tab_none}
use Rattle.problem_layout.specs.PartLaws.{line_from, start_most}
use Rattle.problem_layout.specs.TurnLaws.{part_turn, part_last, one_more}
use Rattle.problem_layout.proofs.fill_parts.Goals as goal
use Rattle.problem_layout.proofs.fill_parts.Goals.{After-wide-3, After-wide-in-loop-i, Start}

-- the arrays that a part's start is read from are long enough
lengths : (c : Start) → (18 ≤ length c.args.l.rel) × (18 ≤ length c.args.l.neg) × (64 ≤ length c.args.l.node)
lengths c =
    let a : length c.args.l.rel ≡ 19 = search rules in let b : length c.args.l.neg ≡ 18 = search rules in
    let d : length c.args.l.node ≡ 65 = search (rules, c.well_formed.1.1.1.0) in (omega arith, omega arith, omega arith)

-- its sort is one of nine
sort-small : (c : After-wide-in-loop-i) → c.wide-in-loop-i.result < 9
sort-small c =
    omega (arith, c.wide-in-loop-i.ensures.0, (c.requires.3.parts.part c.loop-i.i).sort)

root_small : (c : After-wide-3) → c.wide-3.result < 9
root_small c =
    omega (
      arith,
      c.wide-3.ensures.0,
      c.requires.3.root.sort,
    )

pub loop-i-init : goal.loop-i-init
loop-i-init c = (omega arith, refl, tab_none (λ (i : ℕ). numbers_in _ _ _ _ _ _) parts_place _, λ u h. absurd (omega arith), search rules, search rules)

pub start_of-start-requires : goal.start_of-start-requires
start_of-start-requires c = let w = c.wide.ensures.0 in let f = c.requires.3.parts.part c.loop-i.i in ((λ h. rw w (f.relation h)), (λ h. rw w (f.node h)), (lengths (goal.at.start_of-start-requires c).Start).0, (lengths (goal.at.start_of-start-requires c).Start).1, (lengths (goal.at.start_of-start-requires c).Start).2)

pub offset_bounds-ranges-wide : goal.offset_bounds-ranges-wide
offset_bounds-ranges-wide c = omega (arith, sort-small c)

pub bounds-ranges-wide : goal.bounds-ranges-wide
bounds-ranges-wide c = omega (arith, sort-small c)

pub part_numbers-line-requires : goal.part_numbers-line-requires
part_numbers-line-requires c = (
  c.requires.1,
  c.requires.2,
  c.requires.3.parts.part c.loop-i.i,
  rw c.start_of-start.ensures (start_most _ _ c.requires.4 _ _),
  c.requires.5.top _,
)

pub loop-i-preserved : goal.loop-i-preserved
loop-i-preserved c =
    let p = c.part_numbers-line.ensures in let l = c.loop-i in let line = line_from _ _ _ _ _ (get_or c.args.t.parts l.i no_part) _ _ _ _ c.wide.ensures.0
    c.wide-in-loop-i.ensures.0 c.start_of-start.ensures p.0 in (
      omega arith,
      c.store.auto.table ∙ l.invariant.1,
      part_turn _ c.args.t _ _ _ _ _ c.args.table.now _ l.invariant.5 _ _ (omega arith) line l.invariant.2 c.store.ensures,
      one_more _ _ l.invariant.3 (rw line at p.1),
      l.invariant.4,
      l.invariant.5,
    )

pub start_of-start-requires-2 : goal.start_of-start-requires-2
start_of-start-requires-2 c = let w = c.wide-2.ensures.0 in let f = c.requires.3.root in ((λ h. rw w (f.relation h)), (λ h. rw w (f.node h)), (lengths (goal.at.start_of-start-requires-2 c).Start).0, (lengths (goal.at.start_of-start-requires-2 c).Start).1, (lengths (goal.at.start_of-start-requires-2 c).Start).2)

pub offset_bounds-ranges-wide-2 : goal.offset_bounds-ranges-wide-2
offset_bounds-ranges-wide-2 c = omega (arith, root_small c)

pub bounds-ranges-wide-2 : goal.bounds-ranges-wide-2
bounds-ranges-wide-2 c = omega (arith, root_small c)

pub part_numbers-last-requires : goal.part_numbers-last-requires
part_numbers-last-requires c = (c.requires.1, c.requires.2, c.requires.3.root, rw c.start_of-start-2.ensures (start_most _ _ c.requires.4 _ _), c.requires.5.top _)

pub returns : goal.returns
returns c =
    let p = c.part_numbers-last.ensures in let l = c.loop-i in let line = line_from _ _ _ _ _ _ _ _ _ _ c.wide-2.ensures.0 c.wide-3.ensures.0 c.start_of-start-2.ensures
    p.0 in
    let e : l.i ≡ c.args.t.placed = omega arith in
    (part_last _ _ _ _ _ _ _ _ _ e line l.invariant.2 c.store-2.ensures, λ u h. l.invariant.3 u (omega (arith, e)), rw line at p.1)
