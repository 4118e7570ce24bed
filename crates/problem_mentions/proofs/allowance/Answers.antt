use Prim.Native.Nat.{ℕ, ◌+◌, ◌-◌, ◌≤◌, ◌^◌}
use mathlib.Core.Path.{◌≡◌, refl, sym, ap, ap₂, ◌∙◌}
use native.Mathlib.Omega.{arith}
use native.Mathlib.Nat.{add-zero}
use lib.ListN.{get_or, drop, length-take, length-drop}
use Rattle.rule_nodes.specs.Tables.{no_node, no_part}
use Rattle.rule_nodes.specs.Bounds.{part_taken}
use Rattle.rule_nodes.specs.declared.PartRow.{PartRow}
use Rattle.problem_layout.specs.Laid.{node_width}
use Rattle.problem_layout.specs.LaidLaws.{node_width_le, pow_fits, size_most}
use Rattle.problem_mentions.specs.Marks.{row_width}
use Rattle.problem_mentions.specs.MarkLaws.{hits_none, hits_next, marks_first, marks_next, atoms_first, atoms_next, atoms_bound, allowed}
use Rattle.problem_mentions.proofs.allowance.Goals as goal
use Rattle.problem_mentions.proofs.allowance.Goals.{After-power-rows, After-node_width-total}

-- how many values the free variables of the node have, and how many atoms it has
rows_are : (c : After-power-rows) → c.power-rows.result ≡ c.args.n ^ (get_or c.args.t.rows (c.loop-v.v - 1) no_node).width
rows_are c = c.power-rows.ensures ∙ ap (λ (k : ℕ). c.args.n ^ k) c.wide.ensures.0

rows-small : (c : After-power-rows) → c.power-rows.result ≤ 64 ^ 4
rows-small c = size_most c.args.n _ c.power-rows.result (rows_are c) c.requires.1 (c.requires.2.nodes.node (c.loop-v.v - 1)).width

row-width : (c : After-node_width-total) → c.power-rows.result ≡ c.args.n ^ (get_or c.args.t.rows (c.loop-v.v - 1) no_node).width → c.node_width-total.result ≡ row_width c.args.n c.args.t (c.loop-v.v - 1)
row-width c rows = c.node_width-total.ensures ∙ ap₂ (node_width c.args.n) rows c.wide-kind.ensures.0

pub loop-v-init : goal.loop-v-init
loop-v-init c =
    let e : c.args.t.count - c.args.t.count ≡ 0 = omega arith in
    rw e (omega arith, marks_first c.args.t c.args.r, atoms_first c.args.n c.args.t c.args.r)

pub loop-q-init : goal.loop-q-init
loop-q-init c = hits_none _ _ _ _

pub loop-q-preserved : goal.loop-q-preserved
loop-q-preserved c =
    let first = c.wide-first.result in let here = part_taken c.args.t.parts first c.wide-many.result c.loop-q.q-index no_part c.loop-q-test.true in
    hits_next c.args.t.parts c.loop-v.marks c.args.r first c.loop-q.q-index c.wide-which.result c.loop-q.hit c.found-hit.result
    c.loop-q.invariant (c.wide-which.ensures.0 ∙ ap (λ (q : PartRow). q.which) here) (rw here at c.found-hit.ensures)

pub power-rows-requires : goal.power-rows-requires
power-rows-requires c =
    let w = c.wide.ensures.0 in (c.requires.0, pow_fits c.args.n c.wide.result c.requires.1 (omega (arith, w, (c.requires.2.nodes.node (c.loop-v.v - 1)).width)))

pub node_width-total-requires : goal.node_width-total-requires
node_width-total-requires c = (c.requires.1, rows-small (goal.at.node_width-total-requires c).After-power-rows)

pub overflow_add-total : goal.overflow_add-total
overflow_add-total c =
    omega (
      arith,
      c.loop-v.invariant.2,
      atoms_bound c.args.n c.args.t c.args.r c.requires.1 c.requires.2 (c.args.t.count - c.loop-v.v),
      c.requires.2.few,
      c.node_width-total.ensures,
      node_width_le c.args.n c.power-rows.result c.wide-kind.result c.requires.1 (rows-small (goal.at.overflow_add-total c).After-power-rows),
    )

pub loop-v-preserved-then-hit : goal.loop-v-preserved-then-hit
loop-v-preserved-then-hit c =
    let t = c.args.t in let d = t.count - c.loop-v.v in let v = c.loop-v.v - 1 in
    let first = c.wide-first.result in let many = c.wide-many.result in
    let next : t.count - v ≡ d + 1 = omega arith in
    let all : c.loop-q.q-index ≡ many
    = omega (
      arith,
      c.wide-first.ensures.0,
      c.wide-many.ensures.0,
      c.requires.2.few_parts,
      (c.requires.2.nodes.node v).parts,
      length-take (first + many - first) (drop first t.parts),
      length-drop first t.parts,
    ) in
    let h = rw all at c.loop-q.invariant in let i = c.loop-v.invariant in
    rw next (
      omega arith,
      marks_next t c.args.r d v first many c.loop-v.marks c.loop-q.hit (omega arith) c.wide-first.ensures.0 c.wide-many.ensures.0 i.1 h,
      atoms_next c.args.n t c.args.r d v first many c.loop-v.total _ c.node_width-total.result c.loop-v.marks c.loop-q.hit (omega arith) c.wide-first.ensures.0 c.wide-many.ensures.0 i.1 h
          (row-width c (rows_are (goal.at.loop-v-preserved-then-hit c).After-power-rows)) (rw c.if-hit.true refl) i.2,
    )

pub loop-v-preserved : goal.loop-v-preserved
loop-v-preserved c =
    let t = c.args.t in let d = t.count - c.loop-v.v in let v = c.loop-v.v - 1 in
    let first = c.wide-first.result in let many = c.wide-many.result in
    let next : t.count - v ≡ d + 1 = omega arith in
    let all : c.loop-q.q-index ≡ many
    = omega (
      arith,
      c.wide-first.ensures.0,
      c.wide-many.ensures.0,
      c.requires.2.few_parts,
      (c.requires.2.nodes.node v).parts,
      length-take (first + many - first) (drop first t.parts),
      length-drop first t.parts,
    ) in
    let h = rw all at c.loop-q.invariant in let i = c.loop-v.invariant in
    rw next (
      omega arith,
      marks_next t c.args.r d v first many c.loop-v.marks c.loop-q.hit (omega arith) c.wide-first.ensures.0 c.wide-many.ensures.0 i.1 h,
      sym (add-zero c.loop-v.total) ∙ atoms_next c.args.n t c.args.r d v first many c.loop-v.total (row_width c.args.n t v) 0 c.loop-v.marks c.loop-q.hit (omega arith) c.wide-first.ensures.0 c.wide-many.ensures.0 i.1 h
          refl (rw c.if-hit.false refl) i.2,
    )

pub returns : goal.returns
returns c =
    λ p w k g G is.
    let e : c.args.t.count - c.loop-v.v ≡ c.args.t.count = omega arith in
    rw e at c.loop-v.invariant.2 ∙ allowed c.args.n c.args.t c.args.r c.requires.2 p w k g G is
