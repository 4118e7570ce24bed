use native.Mathlib.Omega.{arith}
use mathlib.Core.Path.{ap, sym, ◌∙◌}
use Rattle.std.proofs.lemmas.Bool.{eqb-true, eqb-false}
use Prim.Native.Nat.{ℕ, ◌+◌}
use lib.ListN.{drop}
use Rattle.print_line.specs.Lines.{said_by}
use Rattle.print_bytes.specs.Emitted.{begin, recut, next as then, finish, emits_as}
use Rattle.print_units.specs.Units.{fewer, units_from}
use Rattle.print_units.specs.Streams.{filled, streamed, left_over, stream_next, stream_end, all_from, stream_part}
use Rattle.print_units.proofs.units.Goals as goal

pub returns-then-is_empty : goal.returns-then-is_empty
returns-then-is_empty c =
    finish _ (then _ _ (begin c.args.out.now (stream_part (said_by c.args.site.now c.args.labels.now) c.args.part c.args.values.now
    (eqb-true _ 0 (sym c.is_empty.ensures ∙ c.if-is_empty.true)) (omega (
      arith,
      c.part_length.ensures.0,
      c.part_length.ensures.1,
    ))) (omega arith) (omega arith)) c.part_text-parted.ensures)
    (emits_as (ap filled (sym c.part_length.ensures.0)) c.fill.ensures)

pub loop-j-init : goal.loop-j-init
loop-j-init c = (
  omega arith,
  omega arith,
  begin _ (ap (streamed 0) (all_from (said_by c.args.site.now c.args.labels.now) c.args.part c.args.values.now (omega (arith, eqb-false _ 0 (sym c.is_empty.ensures ∙ c.if-is_empty.false)))))
      (omega arith) (omega arith),
)

pub overflow_add-more : goal.overflow_add-more
overflow_add-more c = omega arith

pub overflow_sub-more : goal.overflow_sub-more
overflow_sub-more c = omega arith

pub unit_length-len-requires : goal.unit_length-len-requires
unit_length-len-requires c = fewer c.requires.1 (omega (arith, c.requires.2 c.loop-j.j))

pub unit-next-requires : goal.unit-next-requires
unit-next-requires c = (fewer c.requires.1 (omega (arith, c.requires.2 c.loop-j.j)), omega (arith, c.loop-j.invariant.1), omega (arith, c.unit_length-len.ensures.1))

pub used_after-used-requires : goal.used_after-used-requires
used_after-used-requires c = (omega (arith, c.loop-j.invariant.1), omega (arith, c.unit_length-len.ensures.1))

pub loop-j-preserved : goal.loop-j-preserved
loop-j-preserved c = (
  omega arith,
  c.used_after-used.ensures.1,
  recut (ap (λ (k : ℕ). streamed k (units_from (said_by c.args.site.now c.args.labels.now) c.args.part
      (drop (c.loop-j.j + 1) c.args.values.now))) (sym c.used_after-used.ensures.0))
      (then _ _ (recut (stream_next (said_by c.args.site.now c.args.labels.now) c.args.part c.args.values.now
      c.loop-j.used c.unit_length-len.result
      c.loop-j.j (omega arith) c.unit_length-len.ensures.0) c.loop-j.invariant.2)
      (c.unit-next.ensures (drop (c.loop-j.j + 1) c.args.values.now)
      (left_over (said_by c.args.site.now c.args.labels.now) c.args.part c.args.values.now
      c.loop-j.j))),
)

pub returns : goal.returns
returns c =
    finish _ (recut (stream_end (said_by c.args.site.now c.args.labels.now) c.args.part c.args.values.now c.loop-j.used
    c.loop-j.j (omega arith)) c.loop-j.invariant.2) c.fill-2.ensures
