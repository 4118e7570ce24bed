use Rattle.print_units.specs.Units.{part_short}
use native.Mathlib.Omega.{arith}
use mathlib.Core.Path.{ap, sym, ◌∙◌}
use Rattle.std.proofs.lemmas.Bool.{eqb-true, eqb-false}
use Prim.Native.Nat.{ℕ, ◌+◌}
use lib.ListN.{drop}
use Rattle.print_line.specs.Lines.{said_by}
use Rattle.print_units.specs.Units.{fewer, units_from}
use Rattle.print_units.specs.Streams.{lines_in, lines_next, lines_end, all_from, lines_part}
use Rattle.print_units.proofs.lines.Goals as goal

pub returns-then-is_empty : goal.returns-then-is_empty
returns-then-is_empty c = (
  sym (lines_part (said_by c.args.site.now c.args.labels.now) c.args.part c.args.values.now (eqb-true _ 0 (sym c.is_empty.ensures ∙ c.if-is_empty.true))
      (omega (arith, part_short c.args.part))),
  omega arith,
)

pub loop-j-init : goal.loop-j-init
loop-j-init c = (omega arith, omega arith, omega arith, ap (lines_in 0) (all_from (said_by c.args.site.now c.args.labels.now) c.args.part c.args.values.now (omega (arith, eqb-false _ 0 (sym c.is_empty.ensures ∙ c.if-is_empty.false)))) ∙ omega arith)

pub overflow_add-more : goal.overflow_add-more
overflow_add-more c = omega arith

pub overflow_sub-more : goal.overflow_sub-more
overflow_sub-more c = omega arith

pub unit_length-len-requires : goal.unit_length-len-requires
unit_length-len-requires c = fewer c.requires.1 (omega (arith, c.requires.2 c.loop-j.j))

pub new_line-begun-requires : goal.new_line-begun-requires
new_line-begun-requires c = (omega (arith, c.loop-j.invariant.1), omega (arith, c.unit_length-len.ensures.1))

pub overflow_add-begun : goal.overflow_add-begun
overflow_add-begun c = omega (arith, c.loop-j.invariant.2, c.new_line-begun.ensures.1)

pub used_after-used-requires : goal.used_after-used-requires
used_after-used-requires c = (omega (arith, c.loop-j.invariant.1), omega (arith, c.unit_length-len.ensures.1))

pub loop-j-preserved : goal.loop-j-preserved
loop-j-preserved c = (
  omega arith,
  c.used_after-used.ensures.1,
  omega (arith, c.loop-j.invariant.2, c.new_line-begun.ensures.1),
  omega (
    arith,
    c.loop-j.invariant.3,
    c.new_line-begun.ensures.0,
    lines_next (said_by c.args.site.now c.args.labels.now) c.args.part c.args.values.now c.loop-j.used
        c.unit_length-len.result c.loop-j.j (omega arith)
        c.unit_length-len.ensures.0,
    ap (λ (k : ℕ). lines_in k (units_from (said_by c.args.site.now c.args.labels.now) c.args.part
        (drop (c.loop-j.j + 1) c.args.values.now))) c.used_after-used.ensures.0,
  ),
)

pub overflow_add-result : goal.overflow_add-result
overflow_add-result c = omega (arith, c.loop-j.invariant.2)

pub returns : goal.returns
returns c = (
  omega (
    arith,
    c.loop-j.invariant.3,
    lines_end (said_by c.args.site.now c.args.labels.now) c.args.part c.args.values.now c.loop-j.used
        c.loop-j.j (omega arith),
  ),
  omega (arith, c.loop-j.invariant.2),
)
