-- `literal` meets its contract.
use native.Mathlib.Omega.{arith}
use Rattle.rule_rewrite.proofs.Turns.{ready_in, ready_rows}
use Rattle.rule_rewrite.proofs.Calls.{literal_vars, literal_end, literal_done}
use Rattle.rule_rewrite.proofs.literal.Goals as goal

pub overflow_add-at : goal.overflow_add-at
overflow_add-at c = omega (arith, ready_in c.requires.ready_in.ready, c.well_formed.0.0)

pub run-a-requires : goal.run-a-requires
run-a-requires c = omega (arith, ready_in c.requires.ready_in.ready)

pub overflow_add-at-2 : goal.overflow_add-at-2
overflow_add-at-2 c = omega (arith, ready_in c.requires.ready_in.ready, c.well_formed.0.0)

pub number-which-requires : goal.number-which-requires
number-which-requires c = let h = c.requires in (omega (arith, h.ready_in.lent.count, h.ready_in.ready.fixed.few), omega (arith, h.in_bounds.0), omega (arith, h.in_bounds.1))

pub fill-l-requires : goal.fill-l-requires
fill-l-requires c = literal_vars (c.requires.ready_in, c.requires.s_value) c.run-a.ensures

pub put_row-requires : goal.put_row-requires
put_row-requires c = let h = c.requires in (h.in_bounds.2, ready_rows h.ready_in.ready)

pub overflow_add-result : goal.overflow_add-result
overflow_add-result c = omega (arith, ready_rows c.requires.ready_in.ready)

pub overflow_add-result-2 : goal.overflow_add-result-2
overflow_add-result-2 c =
    let e = literal_end (c.requires.ready_in, c.requires.s_value) c.run-a.ensures c.args.pos c.number-which.ensures c.leaf_kind-kind.ensures c.fill-l.ensures in
    omega (arith, e, c.well_formed.0.0)

pub returns : goal.returns
returns c = λ W.
    literal_done (W, c.requires.s_value) c.run-a.ensures c.args.pos c.number-which.ensures c.leaf_kind-kind.ensures
    c.fill-l.ensures (c.put_row.ensures.1 _ _)
