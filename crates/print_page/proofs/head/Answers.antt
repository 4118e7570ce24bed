-- `print_page::head` meets its contract.
use native.Mathlib.Omega.{arith}
use Prim.Native.Nat.{◌^◌, ◌<◌}
use lib.ListN.{length}
use Rattle.print_bytes.specs.Emitted.{begin, next as then, finish}
use Rattle.print_page.specs.Elements.{head_parts}
use Rattle.print_page.proofs.head.Goals as goal
use Rattle.print_page.proofs.head.Goals.{Start}

short : (c : Start) → (length c.args.out.now < 2 ^ 64) × (c.args.at < 2 ^ 64)
short c = (omega arith, omega arith)

pub returns : goal.returns
returns c =
    let started = begin c.args.out.now (head_parts c.args.question.now c.args.names.now c.args.i c.args.k c.args.a) (short (goal.at.returns c).Start).0 (short (goal.at.returns c).Start).1 in
    finish _ (then _ _ (then _ _ (then _ _ (then _ _ (then _ _ (then _ _ (then _ _ started c.right-indexed.ensures) c.byte-second.ensures) c.right-numbered.ensures) c.byte-third.ensures) c.kind-kinded.ensures) c.byte-fourth.ensures) c.subject-named.ensures) c.byte.ensures
