use mathlib.Core.Path.{◌≡◌, ap, ◌∙◌}
use Prim.Native.Nat.{ℕ, ◌+◌, ◌-◌, ◌≤◌, min}
use native.Mathlib.Omega.{arith}
use mathlib.Core.List.{List}
use lib.Dec.{eqb}
use lib.ListN.{get_or, drop, length-take, length-drop}
use Rattle.std.specs.Prelude.{if◌then◌else◌}
use Rattle.rule_nodes.specs.Tables.{no_part}
use Rattle.rule_nodes.specs.Bounds.{part_taken}
use Rattle.rule_nodes.specs.declared.PartRow.{PartRow}
use Rattle.problem_window.specs.Folds.{lows_after, highs_after}
use Rattle.problem_window.specs.FoldLaws.{greatest_none, least_none, greatest_next, least_next, greatest_most, least_most, numbers_first}
use Rattle.problem_window.specs.FoldLaws.{lesser_first, lesser_next, lows_next, highs_next, lows_small, highs_small, windowed}
use Rattle.problem_window.proofs.of_tables.Goals as goal
use Rattle.problem_window.proofs.of_tables.Goals.{At-loop-v, then-k-eq0, else-k-eq0}

-- no number that is known is large
lows-there : (c : At-loop-v) (i : ℕ) → get_or c.loop-v.lows i 0 ≤ 4096
lows-there c =
    lows_small c.args.t c.args.ranges.count c.requires.1.count c.requires.0.few (c.args.t.count - c.loop-v.v) (omega arith)
    c.loop-v.lows c.loop-v.invariant.1

highs-there : (c : At-loop-v) (i : ℕ) → get_or c.loop-v.highs i 0 ≤ 4096
highs-there c =
    highs_small c.args.t c.args.ranges.count c.requires.1.count c.requires.0.few (c.args.t.count - c.loop-v.v) (omega arith)
    c.loop-v.highs c.loop-v.invariant.2

pub loop-v-init : goal.loop-v-init
loop-v-init c =
    let e : c.args.t.count - c.args.t.count ≡ 0 = omega arith in rw e (omega arith, numbers_first _ _, numbers_first _ _)

pub loop-k-init : goal.loop-k-init
loop-k-init c = (least_none _ _ _, greatest_none _ _ _, greatest_none _ _ _)

pub loop-k-preserved : goal.loop-k-preserved
loop-k-preserved c =
    let ps = c.args.t.parts in let first = c.wide-first.result in let k = c.loop-k.k in
    let here = part_taken ps first c.wide-many.result k no_part c.loop-k-test.true in
    let which = c.wide-which.ensures.0 ∙ ap (λ (q : PartRow). q.which) here in
    let x = c.part_gives-x.result in
    let lesser : c.if-k-eq0.least ≡ (if eqb k 0 then x else min c.loop-k.least x) = elim c.if-k-eq0.branch [
      | then-k-eq0 w ↦ w.least-is ∙ lesser_first k c.loop-k.least x w.if-k-eq0.true
      | else-k-eq0 w ↦ w.least-is ∙ w.min-least.ensures ∙ lesser_next k c.loop-k.least x w.if-k-eq0.false
    ] in (
      least_next ps c.loop-v.lows first k c.wide-which.result x c.loop-k.least c.if-k-eq0.least c.loop-k.invariant.0 which
          (rw here at c.part_gives-x.ensures) lesser,
      greatest_next ps c.loop-v.lows first k c.wide-which.result x c.loop-k.low c.max-low.result c.loop-k.invariant.1 which
          (rw here at c.part_gives-x.ensures) c.max-low.ensures,
      greatest_next ps c.loop-v.highs first k c.wide-which.result c.part_gives.result c.loop-k.high c.max-high.result c.loop-k.invariant.2 which
          (rw here at c.part_gives.ensures) c.max-high.ensures,
    )

pub node_lower-requires : goal.node_lower-requires
node_lower-requires c = (
  c.requires.1.count c.wide.result,
  omega (arith, c.loop-k.invariant.0, least_most c.args.t.parts c.loop-v.lows c.wide-first.result 4096 c.loop-k.k (lows-there (goal.at.node_lower-requires c).At-loop-v)),
  omega (arith, c.loop-k.invariant.1, greatest_most c.args.t.parts c.loop-v.lows c.wide-first.result 4096 c.loop-k.k (lows-there (goal.at.node_lower-requires c).At-loop-v)),
)

pub node_upper-requires : goal.node_upper-requires
node_upper-requires c = (
  c.requires.1.count c.wide.result,
  omega (arith, c.loop-k.invariant.2, greatest_most c.args.t.parts c.loop-v.highs c.wide-first.result 4096 c.loop-k.k (highs-there (goal.at.node_upper-requires c).At-loop-v)),
)

pub loop-v-preserved : goal.loop-v-preserved
loop-v-preserved c =
    let t = c.args.t in let d = t.count - c.loop-v.v in let v = c.loop-v.v - 1 in
    let first = c.wide-first.result in let many = c.wide-many.result in
    let next : t.count - v ≡ d + 1 = omega arith in
    let all : c.loop-k.k ≡ many
    = omega (
      arith,
      c.wide-first.ensures.0,
      c.wide-many.ensures.0,
      c.requires.0.few_parts,
      (c.requires.0.nodes.node v).parts,
      length-take (first + many - first) (drop first t.parts),
      length-drop first t.parts,
    ) in
    let i = c.loop-v.invariant in let u = c.loop-k.invariant in
    let sort = ap (λ (x : ℕ). get_or c.args.ranges.count x 0) c.wide.ensures.0 in
    let least = rw all at u.0 in let low = rw all at u.1 in let high = rw all at u.2 in
    rw next (
      omega arith,
      lows_next t c.args.ranges.count d v c.wide-kind.result (get_or c.args.ranges.count c.wide.result 0) first many c.loop-k.least c.loop-k.low c.node_lower.result c.loop-v.lows
          (omega arith) c.wide-kind.ensures.0 sort c.wide-first.ensures.0 c.wide-many.ensures.0 i.1 least low c.node_lower.ensures,
      highs_next t c.args.ranges.count d v c.wide-kind.result (get_or c.args.ranges.count c.wide.result 0) first many c.loop-k.high c.node_upper.result c.loop-v.highs
          (omega arith) c.wide-kind.ensures.0 sort c.wide-first.ensures.0 c.wide-many.ensures.0 i.2 high c.node_upper.ensures,
    )

pub overflow_add-result : goal.overflow_add-result
overflow_add-result c = omega (arith, lows-there (goal.at.overflow_add-result c).At-loop-v 0)

pub overflow_add-result-2 : goal.overflow_add-result-2
overflow_add-result-2 c = omega (arith, highs-there (goal.at.overflow_add-result-2 c).At-loop-v 0)

pub returns : goal.returns
returns c =
    λ p w k g G ra is.
    let e : c.args.t.count - c.loop-v.v ≡ c.args.t.count = omega arith in
    let (x, y) = windowed c.args.n c.args.ranges c.args.t c.requires.0 p w k g G ra is in (
      ap (λ (l : List ℕ). get_or l 0 0 + 2) (c.loop-v.invariant.1 ∙ ap (lows_after c.args.t c.args.ranges.count) e) ∙ x,
      ap (λ (l : List ℕ). get_or l 0 0 + 3) (c.loop-v.invariant.2 ∙ ap (highs_after c.args.t c.args.ranges.count) e) ∙ y,
    )
