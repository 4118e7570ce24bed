use Rattle.std.proofs.Common.{refl, arith, [], ◌∷◌}
use Rattle.print_line.specs.Printed.{begin, recut, room_for, next as then, finished}
use Rattle.print_line.specs.Lines.{next_byte, no_byte}
use Rattle.print_line.proofs.text.Goals as goal

pub loop-b-init : goal.loop-b-init
loop-b-init c = begin _ refl c.requires

pub byte-next-requires : goal.byte-next-requires
byte-next-requires c = omega (arith, room_for (_ ∷ []) _ (recut (next_byte c.args.s.now c.loop-b.b-index (omega arith)) c.loop-b.invariant))

pub loop-b-preserved : goal.loop-b-preserved
loop-b-preserved c = then (_ ∷ []) _ (recut (next_byte c.args.s.now c.loop-b.b-index (omega arith)) c.loop-b.invariant) c.byte-next.ensures

pub returns : goal.returns
returns c = finished (recut (no_byte c.args.s.now c.loop-b.b-index (omega arith)) c.loop-b.invariant)
