-- `print_line::field` meets its contract.
use mathlib.Core.List.{[], ◌∷◌}
use native.Mathlib.Omega.{arith}
use Rattle.print_line.specs.Printed.{begin, room_for, next as then, finish}
use Rattle.print_line.specs.Lines.{field_is}
use Rattle.print_line.proofs.field.Goals as goal

pub byte-next-requires : goal.byte-next-requires
byte-next-requires c = let l0 = begin c.args.out.now (field_is c.args.k) c.requires in omega (arith, room_for (9 ∷ []) _ l0)

pub decimal-requires : goal.decimal-requires
decimal-requires c =
    let l0 = begin c.args.out.now (field_is c.args.k) c.requires in
    let l1 = then (9 ∷ []) _ l0 c.byte-next.ensures in l1.room

pub returns : goal.returns
returns c =
    let l0 = begin c.args.out.now (field_is c.args.k) c.requires in
    let l1 = then (9 ∷ []) _ l0 c.byte-next.ensures in
    finish _ l1 c.decimal.ensures
