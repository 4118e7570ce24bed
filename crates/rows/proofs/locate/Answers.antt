use Prim.Native.Nat.{◌+◌, ◌*◌, ◌-◌, ◌/◌, ◌<◌}
use mathlib.Core.Path.{◌≡◌}
use native.Mathlib.Omega.{arith}
use lib.ListN.{length}
use Rattle.rows.specs.Laws.{stride_le, locate_start}
use Rattle.rows.proofs.locate.Goals as goal
use Rattle.rows.proofs.locate.Goals.{In-loop-low}

in_range : (c : In-loop-low) → c.args.at + c.args.stride * (c.loop-low.low + (c.loop-low.high - c.loop-low.low) / 2) < length c.args.table.now
in_range c =
    let L = c.loop-low in omega (arith, stride_le c.args.stride (L.low + (L.high - L.low) / 2) c.args.count (omega arith), c.requires.0)

pub loop-low-init : goal.loop-low-init
loop-low-init c =
    let q = locate_start c.args.table.now c.args.at c.args.stride c.args.count c.args.k c.requires.1 c.requires.2 in
    (q.0, omega arith, q.1, c.requires.2)

pub overflow_mul-stride : goal.overflow_mul-stride
overflow_mul-stride c = omega (arith, in_range c)

pub overflow_add-at : goal.overflow_add-at
overflow_add-at c = omega (arith, in_range c)

pub offset_bounds-table-at : goal.offset_bounds-table-at
offset_bounds-table-at c = omega (arith, in_range c)

pub bounds-table-at : goal.bounds-table-at
bounds-table-at c = omega (arith, in_range (goal.at.bounds-table-at c).In-loop-low)

pub loop-low-smaller-then-k-table : goal.loop-low-smaller-then-k-table
loop-low-smaller-then-k-table c = omega arith

pub loop-low-preserved-then-k-table : goal.loop-low-preserved-then-k-table
loop-low-preserved-then-k-table c = (omega arith, omega arith, c.loop-low.invariant.2, c.if-k-table.true)

pub loop-low-smaller : goal.loop-low-smaller
loop-low-smaller c = omega arith

pub loop-low-preserved : goal.loop-low-preserved
loop-low-preserved c = (omega arith, c.loop-low.invariant.1, c.if-k-table.false, c.loop-low.invariant.3)

pub returns : goal.returns
returns c = let e : c.loop-low.low + 1 ≡ c.loop-low.high = omega arith in (omega arith, c.loop-low.invariant.2, rw e c.loop-low.invariant.3)
