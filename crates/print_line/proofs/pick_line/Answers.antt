-- `print_line::pick_line` meets its contract.
use native.Mathlib.Omega.{arith}
use mathlib.Core.List.{[], ◌∷◌}
use Rattle.definitions.specs.Problem.Atoms.{places_of}
use Rattle.print_line.specs.Printed.{begin, room_for, next as then, finish}
use Rattle.print_line.specs.Lines.{elements, pick_is}
use Rattle.print_line.proofs.pick_line.Goals as goal

pub text-word-requires : goal.text-word-requires
text-word-requires c =
    let l0 = begin c.args.out.now (pick_is c.args.site.now c.args.labels.now c.args.name.now (places_of c.args.n c.args.arity c.args.row)) c.requires.3 in
    room_for (112 ∷ 105 ∷ 99 ∷ 107 ∷ 9 ∷ []) _ l0

pub text-named-requires : goal.text-named-requires
text-named-requires c =
    let l0 = begin c.args.out.now (pick_is c.args.site.now c.args.labels.now c.args.name.now (places_of c.args.n c.args.arity c.args.row)) c.requires.3 in
    let l1 = then (112 ∷ 105 ∷ 99 ∷ 107 ∷ 9 ∷ []) _ l0 c.text-word.ensures in room_for c.args.name.now _ l1

pub elements-listed-requires : goal.elements-listed-requires
elements-listed-requires c =
    let l0 = begin c.args.out.now (pick_is c.args.site.now c.args.labels.now c.args.name.now (places_of c.args.n c.args.arity c.args.row)) c.requires.3 in
    let l1 = then (112 ∷ 105 ∷ 99 ∷ 107 ∷ 9 ∷ []) _ l0 c.text-word.ensures in
    let l2 = then c.args.name.now _ l1 c.text-named.ensures in
    (c.requires.0, c.requires.1, c.requires.2, room_for (elements c.args.site.now c.args.labels.now (places_of c.args.n c.args.arity c.args.row)) _ l2)

pub byte-requires : goal.byte-requires
byte-requires c =
    let l0 = begin c.args.out.now (pick_is c.args.site.now c.args.labels.now c.args.name.now (places_of c.args.n c.args.arity c.args.row)) c.requires.3 in
    let l1 = then (112 ∷ 105 ∷ 99 ∷ 107 ∷ 9 ∷ []) _ l0 c.text-word.ensures in
    let l2 = then c.args.name.now _ l1 c.text-named.ensures in
    let l3 = then (elements c.args.site.now c.args.labels.now (places_of c.args.n c.args.arity c.args.row)) _ l2 c.elements-listed.ensures in
    omega (arith, room_for (10 ∷ []) _ l3)

pub returns : goal.returns
returns c =
    let l0 = begin c.args.out.now (pick_is c.args.site.now c.args.labels.now c.args.name.now (places_of c.args.n c.args.arity c.args.row)) c.requires.3 in
    let l1 = then (112 ∷ 105 ∷ 99 ∷ 107 ∷ 9 ∷ []) _ l0 c.text-word.ensures in
    let l2 = then c.args.name.now _ l1 c.text-named.ensures in
    let l3 = then (elements c.args.site.now c.args.labels.now (places_of c.args.n c.args.arity c.args.row)) _ l2 c.elements-listed.ensures in
    finish _ l3 c.byte.ensures
