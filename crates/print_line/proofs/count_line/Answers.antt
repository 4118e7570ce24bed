-- `print_line::count_line` meets its contract.
use mathlib.Core.List.{[], ◌∷◌}
use native.Mathlib.Omega.{arith}
use Rattle.print_line.specs.Printed.{begin, room_for, next as then, finish}
use Rattle.print_line.specs.Lines.{field, count_is}
use Rattle.print_line.proofs.count_line.Goals as goal

pub text-word-requires : goal.text-word-requires
text-word-requires c =
    let l0 = begin c.args.out.now (count_is c.args.name.now c.args.k) c.requires in
    room_for (99 ∷ 111 ∷ 117 ∷ 110 ∷ 116 ∷ 9 ∷ []) _ l0

pub text-named-requires : goal.text-named-requires
text-named-requires c =
    let l0 = begin c.args.out.now (count_is c.args.name.now c.args.k) c.requires in
    let l1 = then (99 ∷ 111 ∷ 117 ∷ 110 ∷ 116 ∷ 9 ∷ []) _ l0 c.text-word.ensures in room_for c.args.name.now _ l1

pub field-counted-requires : goal.field-counted-requires
field-counted-requires c =
    let l0 = begin c.args.out.now (count_is c.args.name.now c.args.k) c.requires in
    let l1 = then (99 ∷ 111 ∷ 117 ∷ 110 ∷ 116 ∷ 9 ∷ []) _ l0 c.text-word.ensures in
    let l2 = then c.args.name.now _ l1 c.text-named.ensures in room_for (field c.args.k) _ l2

pub byte-requires : goal.byte-requires
byte-requires c =
    let l0 = begin c.args.out.now (count_is c.args.name.now c.args.k) c.requires in
    let l1 = then (99 ∷ 111 ∷ 117 ∷ 110 ∷ 116 ∷ 9 ∷ []) _ l0 c.text-word.ensures in
    let l2 = then c.args.name.now _ l1 c.text-named.ensures in
    let l3 = then (field c.args.k) _ l2 c.field-counted.ensures in omega (arith, room_for (10 ∷ []) _ l3)

pub returns : goal.returns
returns c =
    let l0 = begin c.args.out.now (count_is c.args.name.now c.args.k) c.requires in
    let l1 = then (99 ∷ 111 ∷ 117 ∷ 110 ∷ 116 ∷ 9 ∷ []) _ l0 c.text-word.ensures in
    let l2 = then c.args.name.now _ l1 c.text-named.ensures in
    let l3 = then (field c.args.k) _ l2 c.field-counted.ensures in
    finish _ l3 c.byte.ensures
