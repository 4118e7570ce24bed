-- `print_page::page` meets its contract.
use native.Mathlib.Omega.{arith}
use Prim.Native.Nat.{◌^◌, ◌<◌}
use mathlib.Core.Path.{refl, sym}
use lib.ListN.{length}
use lib.Seq.{length-take-le}
use Rattle.print_page.specs.Bodies.{page_done}
use Rattle.print_page.proofs.page.Goals as goal
use Rattle.print_page.proofs.page.Goals.{Start}

short : (c : Start) → length c.args.out.now < 2 ^ 64
short c = omega arith

pub slice_bounds-body-end-2 : goal.slice_bounds-body-end-2
slice_bounds-body-end-2 c = sym (length-take-le 4307 c.args.out.now (omega arith))

pub returns : goal.returns
returns c =
    λ p ls is N s S n k line m B e d h. page_done ls p _ c.args.index line c.args.skip m c.args.number c.args.out.now _ _ _ _ _ _ _ _ (short (goal.at.returns c).Start) B e d h S n
    c.requires.skip_bound.2 (c.body.ensures p ls is N s S n k) refl
    c.spaces-blank.ensures c.right-numbered.ensures c.byte.ensures
