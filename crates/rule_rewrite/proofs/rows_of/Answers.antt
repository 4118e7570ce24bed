-- `rows_of` meets its contract.
use mathlib.Core.Path.{◌≡◌, sym, ◌∙◌}
use native.Mathlib.Omega.{arith}
use Prim.Native.Nat.{◌+◌, ◌≤◌}
use lib.ListN.{length}
use Rattle.rule_rewrite.proofs.Root.{plain_ready, plain_rows, joined_ready, joined_left, joined_room, joined_rows}
use borrow.Author.Rules.{rules}
use Rattle.rule_rewrite.proofs.rows_of.Goals as goal
use Rattle.rule_rewrite.proofs.rows_of.Goals.{After-totalities-u, Start}

-- the lengths that the walk asks
sizes : (c : Start) → (21 ≤ length c.args.sig.from) × (21 ≤ length c.args.sig.to) × (length c.args.rows.now ≡ 512)
sizes c =
    let p : length c.args.sig.from ≡ 21 = search rules in let q : length c.args.sig.to ≡ 21 = search rules in
    (omega arith, omega arith, c.requires.rows_len)

room : (c : After-totalities-u) → c.totalities-u.result.len + 1 ≤ 64
room c =
    joined_room c.requires.accepted _ c.totalities-total.ensures.0 c.if-total-eq0.false
    c.part-w-2.ensures c.totalities-u.ensures

pub part-w-requires : goal.part-w-requires
part-w-requires c = record { in_bounds = sizes (goal.at.part-w-requires c).Start; ready_in = plain_ready c.requires.accepted _ }

pub returns-then-total-eq0 : goal.returns-then-total-eq0
returns-then-total-eq0 c = plain_rows c.requires.accepted _ (sym (c.totalities-total.ensures.0 _) ∙ c.if-total-eq0.true) c.part-w.ensures

pub part-w-requires-2 : goal.part-w-requires-2
part-w-requires-2 c = record { in_bounds = sizes (goal.at.part-w-requires-2 c).Start; ready_in = joined_ready c.requires.accepted _ c.totalities-total.ensures.0 c.if-total-eq0.false }

pub totalities-u-requires : goal.totalities-u-requires
totalities-u-requires c =
    record {
      chosen_bound = (omega (arith, c.requires.accepted.sound.rels_le, c.requires.accepted.sound.chosen_le), c.part-w-2.auto.rows ∙ c.requires.rows_len);
      by_index = joined_left c.requires.accepted _ c.totalities-total.ensures.0 c.if-total-eq0.false c.part-w-2.ensures;
    }

pub put_row-requires : goal.put_row-requires
put_row-requires c = (c.totalities-u.auto.rows ∙ c.part-w-2.auto.rows ∙ c.requires.rows_len, omega (arith, room (goal.at.put_row-requires c).After-totalities-u))

pub overflow_add-result : goal.overflow_add-result
overflow_add-result c = omega (arith, room (goal.at.overflow_add-result c).After-totalities-u)

pub shape_of-rows : goal.shape_of-rows
shape_of-rows c = c.put_row.auto.rows ∙ c.totalities-u.auto.rows ∙ c.part-w-2.auto.rows

pub returns : goal.returns
returns c =
    joined_rows c.requires.accepted _ c.totalities-total.ensures.0 c.if-total-eq0.false
    c.part-w-2.ensures c.totalities-u.ensures c.join_row-row.ensures (c.put_row.ensures.1 _ _)
