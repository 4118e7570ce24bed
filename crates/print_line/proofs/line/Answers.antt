use Rattle.std.proofs.Common.{arith, [], ◌∷◌}
use Rattle.print_line.specs.Printed.{begin, recut, room_for, next as then, finish}
use Rattle.print_line.specs.Lines.{line_is, next_field, no_field}
use Rattle.print_line.proofs.line.Goals as goal

pub text-next-requires : goal.text-next-requires
text-next-requires c = room_for c.args.word.now _ (begin c.args.out.now (line_is c.args.word.now c.args.numbers.now) c.requires)

pub loop-k-init : goal.loop-k-init
loop-k-init c = then c.args.word.now _ (begin c.args.out.now (line_is c.args.word.now c.args.numbers.now) c.requires) c.text-next.ensures

pub field-next-requires : goal.field-next-requires
field-next-requires c = room_for _ _ (recut (next_field c.args.numbers.now c.loop-k.k-index (omega arith)) c.loop-k.invariant)

pub loop-k-preserved : goal.loop-k-preserved
loop-k-preserved c = then _ _ (recut (next_field c.args.numbers.now c.loop-k.k-index (omega arith)) c.loop-k.invariant) c.field-next.ensures

pub byte-requires : goal.byte-requires
byte-requires c = omega (arith, room_for (10 ∷ []) [] (recut (no_field c.args.numbers.now c.loop-k.k-index (omega arith)) c.loop-k.invariant))

pub returns : goal.returns
returns c = finish (10 ∷ []) (recut (no_field c.args.numbers.now c.loop-k.k-index (omega arith)) c.loop-k.invariant) c.byte.ensures
