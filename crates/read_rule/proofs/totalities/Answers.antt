use mathlib.Core.Path.{ap}
use native.Mathlib.Omega.{arith}
use Prim.Native.Nat.{◌+◌}
use lib.ListN.{get_or}
use Rattle.definitions.specs.Sheet.Formula.{totals}
use Rattle.read_rule.specs.Spans.{chosen_are, totals_next, totals_end, total_le}
use Rattle.read_rule.proofs.totalities.Goals as goal

pub loop-i-init : goal.loop-i-init
loop-i-init c = (omega arith, omega arith, omega arith, λ q. omega (arith, ap (λ l. totals l) (chosen_are q c.args.sig)))

pub offset_bounds-sig-i : goal.offset_bounds-sig-i
offset_bounds-sig-i c = omega arith

pub bounds-sig-i : goal.bounds-sig-i
bounds-sig-i c = omega arith

pub overflow_add-t : goal.overflow_add-t
overflow_add-t c = omega (arith, c.total-one.ensures, total_le (get_or c.args.sig.kind c.loop-i.i 0))

pub loop-i-preserved : goal.loop-i-preserved
loop-i-preserved c =
    let a = c.args in let l = c.loop-i in let le = total_le (get_or a.sig.kind l.i 0) in
    (omega arith, omega arith, omega (arith, c.total-one.ensures), λ q. omega (arith, l.invariant.3 q, c.total-one.ensures, totals_next q a.sig (a.sig.rels + a.sig.chosen) l.i (omega arith)))

pub returns : goal.returns
returns c = let l = c.loop-i in (λ q. omega (arith, l.invariant.3 q, totals_end q c.args.sig (c.args.sig.rels + c.args.sig.chosen) l.i (omega arith)), omega arith)
