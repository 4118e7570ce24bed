use Prim.Native.Nat.{◌+◌, ◌/◌, ◌%◌}
use mathlib.Core.List.{[], ◌∷◌}
use native.Mathlib.Omega.{arith}
use Rattle.definitions.specs.Sheet.Text.{decimal as decimalOf}
use Rattle.print_line.specs.Printed.{begin, room_for, next as then, finish}
use Rattle.print_line.specs.Decimals.{decimal_small, decimal_large}
use Rattle.print_line.proofs.+decimal.Goals as goal

pub overflow_add-k : goal.overflow_add-k
overflow_add-k t c = omega arith

pub overflow_cast-k : goal.overflow_cast-k
overflow_cast-k t c = omega arith

pub byte-requires : goal.byte-requires
byte-requires t c = omega (arith, room_for (_ ∷ []) [] (begin c.args.out.now (decimal_small c.args.k (omega arith)) c.requires))

pub returns-then-k-le9 : goal.returns-then-k-le9
returns-then-k-le9 t c = finish (_ ∷ []) (begin c.args.out.now (decimal_small c.args.k (omega arith)) c.requires) c.byte.ensures

pub decimal-last-requires : goal.decimal-last-requires
decimal-last-requires t c = (omega (arith, c.decreases), room_for (decimalOf (c.args.k / 10)) ((c.args.k % 10 + 48) ∷ []) (begin c.args.out.now (decimal_large c.args.k (omega arith) c.ranges.k.fits) c.requires))

pub overflow_add-k-2 : goal.overflow_add-k-2
overflow_add-k-2 t c = omega arith

pub overflow_cast-k-2 : goal.overflow_cast-k-2
overflow_cast-k-2 t c = omega arith

pub byte-requires-2 : goal.byte-requires-2
byte-requires-2 t c = omega (arith, room_for (_ ∷ []) [] (then (decimalOf (c.args.k / 10)) ((c.args.k % 10 + 48) ∷ []) (begin c.args.out.now (decimal_large c.args.k (omega arith) c.ranges.k.fits) c.requires) c.decimal-last.ensures))

pub returns : goal.returns
returns t c = finish (_ ∷ []) (then (decimalOf (c.args.k / 10)) ((c.args.k % 10 + 48) ∷ []) (begin c.args.out.now (decimal_large c.args.k (omega arith) c.ranges.k.fits) c.requires) c.decimal-last.ensures) c.byte-2.ensures
