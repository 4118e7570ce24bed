-- `problem_action::action_at` meets its contract.
use Prim.Native.Nat.{◌+◌, ◌-◌, ◌*◌, ◌<◌}
use mathlib.Core.Path.{◌≡◌, sym, ◌∙◌, subst}
use mathlib.Core.Bool.{false}
use native.Mathlib.Omega.{arith}
use lib.ListN.{get_or}
use Rattle.problem_table.specs.Lines.{relation_place, node_place, RangeFits, PlacesFit}
use Rattle.problem_table.specs.Numbers.{is_whole, ActFits}
use Rattle.problem_table.specs.NeedLaws.{set_row_small}
use Rattle.problem_table.specs.declared.Act.{Act}
use Rattle.problem_action.specs.Found.{sets_begin, acts_begin, found_pair, found_set, found_begin, found_counted, found_goal, found_mark, mark_fits, finish_fits, proof_fits}
use Rattle.problem_action.proofs.Proved.{found_proof}
use Rattle.problem_action.proofs.action_at.Goals as goal
use Rattle.problem_action.proofs.action_at.Goals.{After-relation_line-line}

-- the ranges of the relation's places are in the table, and its offset is that of one of its set actions
in-places : (c : After-relation_line-line) → PlacesFit c.args.table.now c.relation_line-line.result
in-places c =
    let l = c.locate-r in
    subst (PlacesFit c.args.table.now) (sym c.relation_line-line.ensures) (c.requires.fits.places l.result (omega (arith, l.ensures.0, c.requires.fits.relations)))

among : (c : After-relation_line-line) → is_whole c.relation_line-line.result ≡ false → c.args.k - get_or c.args.table.now (relation_place c.locate-r.result) 0 < c.relation_line-line.result.first_count * c.relation_line-line.result.second_count
among c =
    let l = c.locate-r in
    found_pair c.requires.problem c.args.table.now c.requires.is c.args.k l.result l.ensures.0 l.ensures.1 l.ensures.2 c.relation_line-line.result c.relation_line-line.ensures

pub locate-r-requires : goal.locate-r-requires
locate-r-requires c = (omega (arith, c.requires.fits.whole, c.requires.fits.relations), omega (arith, sets_begin c.requires.problem c.args.table.now c.requires.is), c.if-k-begin.true)

pub relation_line-line-requires : goal.relation_line-line-requires
relation_line-line-requires c = (c.requires.fits.whole, omega (arith, c.locate-r.ensures.0, c.requires.fits.relations))

pub set_row-row-requires : goal.set_row-row-requires
set_row-row-requires c = (c.requires.fits, in-places c, among c)

pub returns-then-k-begin : goal.returns-then-k-begin
returns-then-k-begin c =
    let w = c.args.table.now in
    let l = c.locate-r in
    let line = c.relation_line-line in
    let few : l.result < 18 = omega (arith, l.ensures.0, c.requires.fits.relations) in
    let off = c.args.k - get_or w (relation_place l.result) 0 in
    let small = set_row_small w c.requires.fits line.result (in-places (goal.at.returns-then-k-begin c).After-relation_line-line) off (omega (arith, c.requires.fits.entry (relation_place (l.result + 1)), l.ensures.2)) (among (goal.at.returns-then-k-begin c).After-relation_line-line) in (
      (few, omega (arith, c.set_row-row.ensures, small, c.requires.fits.entry (relation_place (l.result + 1)), l.ensures.2)),
      λ p is. found_set p w is c.args.k l.result l.ensures.0 l.ensures.1 l.ensures.2 line.result c.set_row-row.result line.ensures (c.requires.fits.places l.result few) c.set_row-row.ensures,
    )

pub returns-then-k-begin-2 : goal.returns-then-k-begin-2
returns-then-k-begin-2 c = (tt, λ p is. found_begin p c.args.table.now is c.args.k (omega arith))

pub locate-v-requires : goal.locate-v-requires
locate-v-requires c = (omega (arith, c.requires.fits.whole, c.requires.fits.nodes), omega (arith, acts_begin c.requires.problem c.args.table.now c.requires.is), c.if-k-goal.true)

pub proof_of-requires : goal.proof_of-requires
proof_of-requires c =
    let l = c.locate-v in
    let q = found_counted c.requires.problem c.args.table.now c.requires.is c.args.k l.result l.ensures.0 l.ensures.1 l.ensures.2 c.node_line-line.result c.node_line-line.ensures in
    let f = subst (RangeFits c.args.table.now) (sym c.node_line-line.ensures) (c.requires.fits.range l.result (omega (arith, l.ensures.0, c.requires.fits.nodes))) in
    (c.requires.fits.whole, f.inside, q.count, q.many)

pub returns-then-k-goal : goal.returns-then-k-goal
returns-then-k-goal c =
    let w = c.args.table.now in
    let l = c.locate-v in
    let v = l.result in
    let line = c.node_line-line in
    let few : v < 64 = omega (arith, l.ensures.0, c.requires.fits.nodes) in (
      subst (λ (x : Act). ActFits w x) (sym c.proof_of.ensures)
          (proof_fits v (c.args.k - get_or w (node_place v) 0) w line.result line.ensures (c.requires.fits.range v few) few (omega (arith, c.requires.fits.entry (node_place (v + 1)), l.ensures.2))
          (found_counted c.requires.problem w c.requires.is c.args.k v l.ensures.0 l.ensures.1 l.ensures.2 line.result line.ensures)),
      λ p is. c.proof_of.ensures ∙ found_proof p w is c.args.k v l.ensures.0 l.ensures.1 l.ensures.2 line.result line.ensures,
    )

pub returns-then-k-goal-2 : goal.returns-then-k-goal-2
returns-then-k-goal-2 c = (subst (ActFits c.args.table.now) (sym c.finish_act.ensures) (finish_fits c.args.table.now), λ p is. found_goal p c.args.table.now is c.args.k _ (omega arith) c.finish_act.ensures)

pub returns : goal.returns
returns c = (
  subst (ActFits c.args.table.now) (sym c.mark_of.ensures) (mark_fits c.args.table.now _ c.requires.fits),
  λ p is. found_mark p c.args.table.now is c.args.k _ (omega (arith, c.if-k-goal.false, c.if-k-goal-2.false)) c.mark_of.ensures,
)
