use mathlib.Core.Path.{sym, ap, ◌∙◌}
use native.Mathlib.Omega.{arith}
use Rattle.read_rule.specs.Seen.{head_of}
use Rattle.rule_rewrite.proofs.Turns.{ready_in, ready_nodes, parts_in, parts_end}
use Rattle.rule_rewrite.proofs.Calls.{still, not_part, not_in, not_end, not_done, further_first, further_in, further_rest}
use Rattle.rule_rewrite.proofs.Calls.{further_between, arrow_first, arrow_in, arrow_second, arrow_between, arrow_end, arrow_done, gather_first}
use Rattle.rule_rewrite.proofs.Calls.{gather_in, gather_rest, gather_between, gather_end, gather_done, under_list, under_in, under_part}
use Rattle.rule_rewrite.proofs.Calls.{under_bound, under_end, under_done, further_done}
use Rattle.rule_rewrite.proofs.+arrow_further_gather_part_under.Goals as goal

-- ---- an implication
pub arrow-overflow_add-at : goal.arrow-overflow_add-at
arrow-overflow_add-at t c = omega (arith, arrow_in (c.requires.ready_in, c.requires.s_value), c.well_formed.0.0)

pub arrow-part-x-requires : goal.arrow-part-x-requires
arrow-part-x-requires t c = (omega (arith, c.decreases, arrow_in (c.requires.ready_in, c.requires.s_value)), (c.requires.in_bounds, arrow_first (c.requires.ready_in, c.requires.s_value)))

pub arrow-overflow_add-x : goal.arrow-overflow_add-x
arrow-overflow_add-x t c = omega (arith, (arrow_between (c.requires.ready_in, c.requires.s_value) c.args.pos c.part-x.ensures).1, c.well_formed.0.0)

pub arrow-part-y-requires : goal.arrow-part-y-requires
arrow-part-y-requires t c =
    let e = arrow_between (c.requires.ready_in, c.requires.s_value) c.args.pos c.part-x.ensures in
    (omega (arith, c.decreases, e.0, e.1), (still c.requires.in_bounds c.part-x.auto.rows, arrow_second (c.requires.ready_in, c.requires.s_value) c.args.pos c.part-x.ensures))

pub arrow-put_row-requires : goal.arrow-put_row-requires
arrow-put_row-requires t c =
    let e = arrow_end (c.requires.ready_in, c.requires.s_value) c.args.pos c.part-x.ensures c.part-y.ensures in
    (c.part-y.auto.rows ∙ c.part-x.auto.rows ∙ c.requires.in_bounds.2, e.0)

pub arrow-overflow_add-result : goal.arrow-overflow_add-result
arrow-overflow_add-result t c =
    let e = arrow_end (c.requires.ready_in, c.requires.s_value) c.args.pos c.part-x.ensures c.part-y.ensures in
    omega (arith, e.0)

pub arrow-overflow_add-result-2 : goal.arrow-overflow_add-result-2
arrow-overflow_add-result-2 t c =
    let e = arrow_end (c.requires.ready_in, c.requires.s_value) c.args.pos c.part-x.ensures c.part-y.ensures in
    omega (arith, e.1, c.well_formed.0.0)

pub arrow-returns : goal.arrow-returns
arrow-returns t c = λ W. arrow_done (W, c.requires.s_value) c.args.pos c.part-x.ensures c.part-y.ensures c.join_kind-kind.ensures c.join_row-row.ensures (c.put_row.ensures.1 _ _)

-- ---- further parts
pub further-bounds-s-at : goal.further-bounds-s-at
further-bounds-s-at t c = parts_in c.requires.parts_ready_in.ready

pub further-part-x-requires : goal.further-part-x-requires
further-part-x-requires t c = (omega (arith, c.decreases, further_in c.requires.parts_ready_in c.if-s-at-eq32.true), (c.requires.in_bounds, further_first c.requires.parts_ready_in c.if-s-at-eq32.true))

pub further-further-requires : goal.further-further-requires
further-further-requires t c =
    let e = further_between c.requires.parts_ready_in c.if-s-at-eq32.true c.args.pos c.part-x.ensures in (
      omega (arith, c.decreases, e.0, e.1),
      (
        still c.requires.in_bounds c.part-x.auto.rows,
        (further_rest c.requires.parts_ready_in c.if-s-at-eq32.true c.args.pos c.part-x.ensures, omega (arith, e.2, c.requires.many_le_len)),
      ),
    )

pub further-returns-then-s-at-eq32 : goal.further-returns-then-s-at-eq32
further-returns-then-s-at-eq32 t c = λ W. further_done W c.if-s-at-eq32.true c.args.pos c.part-x.ensures c.further.ensures

pub further-returns-else-s-at-eq32 : goal.further-returns-else-s-at-eq32
further-returns-else-s-at-eq32 t c = λ W. parts_end W.ready c.args.pos c.args.many c.if-s-at-eq32.false

-- ---- `and`, `or`
pub gather-overflow_add-at : goal.gather-overflow_add-at
gather-overflow_add-at t c = omega (arith, (gather_in c.args.conj (c.requires.ready_in, c.requires.s_value) c.join_word-skip.ensures).1, c.well_formed.0.0)

pub gather-part-x-requires : goal.gather-part-x-requires
gather-part-x-requires t c =
    let e = gather_in c.args.conj (c.requires.ready_in, c.requires.s_value) c.join_word-skip.ensures in
    (omega (arith, c.decreases, e.0, e.1), (c.requires.in_bounds, gather_first c.args.conj (c.requires.ready_in, c.requires.s_value) c.join_word-skip.ensures))

pub gather-further-y-requires : goal.gather-further-y-requires
gather-further-y-requires t c =
    let e = gather_between c.args.conj (c.requires.ready_in, c.requires.s_value) c.join_word-skip.ensures c.args.pos c.part-x.ensures in (
      omega (arith, c.decreases, e.0, e.1),
      (
        still c.requires.in_bounds c.part-x.auto.rows,
        (gather_rest c.args.conj (c.requires.ready_in, c.requires.s_value) c.join_word-skip.ensures c.args.pos c.part-x.ensures, e.2),
      ),
    )

pub gather-join_row-row-requires : goal.gather-join_row-row-requires
gather-join_row-row-requires t c =
    let e = gather_end c.args.conj (c.requires.ready_in, c.requires.s_value) c.join_word-skip.ensures c.args.pos c.part-x.ensures c.further-y.ensures in
    (omega (arith, ready_nodes c.requires.ready_in.ready), e.2)

pub gather-put_row-requires : goal.gather-put_row-requires
gather-put_row-requires t c =
    let e = gather_end c.args.conj (c.requires.ready_in, c.requires.s_value) c.join_word-skip.ensures c.args.pos c.part-x.ensures c.further-y.ensures in
    (c.further-y.auto.rows ∙ c.part-x.auto.rows ∙ c.requires.in_bounds.2, e.0)

pub gather-overflow_add-result : goal.gather-overflow_add-result
gather-overflow_add-result t c =
    let e = gather_end c.args.conj (c.requires.ready_in, c.requires.s_value) c.join_word-skip.ensures c.args.pos c.part-x.ensures c.further-y.ensures in
    omega (arith, e.0)

pub gather-overflow_add-result-2 : goal.gather-overflow_add-result-2
gather-overflow_add-result-2 t c =
    let e = gather_end c.args.conj (c.requires.ready_in, c.requires.s_value) c.join_word-skip.ensures c.args.pos c.part-x.ensures c.further-y.ensures in
    omega (arith, e.1, c.well_formed.0.0)

pub gather-returns : goal.gather-returns
gather-returns t c = λ W. gather_done c.args.conj (W, c.requires.s_value) c.join_word-skip.ensures c.args.pos c.part-x.ensures c.further-y.ensures c.join_kind-kind.ensures c.join_row-row.ensures (c.put_row.ensures.1 _ _)

-- ---- a formula, by its form
pub part-kind_at-k-requires : goal.part-kind_at-k-requires
part-kind_at-k-requires t c = omega (arith, ready_in c.requires.ready_in.ready)

pub part-overflow_add-at : goal.part-overflow_add-at
part-overflow_add-at t c = omega (arith, not_in (c.requires.ready_in, sym c.kind_at-k.ensures ∙ ap head_of c.in-Not.is), c.well_formed.0.0)

pub part-part-w-requires : goal.part-part-w-requires
part-part-w-requires t c = (omega (arith, c.decreases, not_in (c.requires.ready_in, sym c.kind_at-k.ensures ∙ ap head_of c.in-Not.is)), (c.requires.in_bounds, not_part (c.requires.ready_in, sym c.kind_at-k.ensures ∙ ap head_of c.in-Not.is)))

pub part-overflow_add-result : goal.part-overflow_add-result
part-overflow_add-result t c = omega (arith, not_end (c.requires.ready_in, sym c.kind_at-k.ensures ∙ ap head_of c.in-Not.is) c.args.pos c.part-w.ensures, c.well_formed.0.0)

pub part-returns-in-Not : goal.part-returns-in-Not
part-returns-in-Not t c = λ W. not_done (W, sym c.kind_at-k.ensures ∙ ap head_of c.in-Not.is) c.args.pos c.part-w.ensures

-- ---- a quantifier
pub under-overflow_add-at : goal.under-overflow_add-at
under-overflow_add-at t c = omega (arith, under_in c.args.some (c.requires.ready_in, c.requires.s_value), c.well_formed.0.0)

pub under-bind-d-requires-clause-list_ready : goal.under-bind-d-requires-clause-list_ready
under-bind-d-requires-clause-list_ready t c = under_list c.args.some (c.requires.ready_in, c.requires.s_value)

pub under-overflow_sub-k : goal.under-overflow_sub-k
under-overflow_sub-k t c = (under_bound c.args.some (c.requires.ready_in, c.requires.s_value) c.bind-d.ensures).0

pub under-overflow_add-nodes : goal.under-overflow_add-nodes
under-overflow_add-nodes t c = omega (arith, (under_bound c.args.some (c.requires.ready_in, c.requires.s_value) c.bind-d.ensures).3)

pub under-part-x-requires : goal.under-part-x-requires
under-part-x-requires t c =
    let e = under_bound c.args.some (c.requires.ready_in, c.requires.s_value) c.bind-d.ensures in
    (omega (arith, c.decreases, e.1, e.2), (c.requires.in_bounds, under_part c.args.some (c.requires.ready_in, c.requires.s_value) c.bind-d.ensures))

pub under-chain-requires : goal.under-chain-requires
under-chain-requires t c =
    let e = under_bound c.args.some (c.requires.ready_in, c.requires.s_value) c.bind-d.ensures in
    ((under_end c.args.some (c.requires.ready_in, c.requires.s_value) c.bind-d.ensures c.args.pos c.part-x.ensures).0, e.3, e.4, c.part-x.auto.rows ∙ c.requires.in_bounds.2)

pub under-overflow_add-result : goal.under-overflow_add-result
under-overflow_add-result t c =
    let e = under_end c.args.some (c.requires.ready_in, c.requires.s_value) c.bind-d.ensures c.args.pos c.part-x.ensures in
    omega (arith, e.0)

pub under-overflow_add-result-2 : goal.under-overflow_add-result-2
under-overflow_add-result-2 t c =
    let e = under_end c.args.some (c.requires.ready_in, c.requires.s_value) c.bind-d.ensures c.args.pos c.part-x.ensures in
    omega (arith, e.1, c.well_formed.0.0)

pub under-returns : goal.under-returns
under-returns t c = λ W. under_done c.args.some (W, c.requires.s_value) c.bind-d.ensures c.args.pos c.part-x.ensures c.quant_kind-kind.ensures (c.chain.ensures _)
