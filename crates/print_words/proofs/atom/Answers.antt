-- `print_words::atom` meets its contract. Assumes nothing.
use Rattle.print_words.specs.Words.{atom_parts}
use native.Mathlib.Omega.{arith}
use Prim.Native.Nat.{◌^◌, ◌<◌}
use lib.ListN.{length}
use Rattle.print_bytes.specs.Emitted.{begin, next as then, finish}
use Rattle.print_words.proofs.atom.Goals as goal
use Rattle.print_words.proofs.atom.Goals.{Start}

short : (c : Start) → (length c.args.out.now < 2 ^ 64) × (c.args.at < 2 ^ 64)
short c = (omega arith, omega arith)

pub returns : goal.returns
returns c = finish _ (then _ _ (then _ _ (then _ _ (begin _ (atom_parts _ _ _ _) (short (goal.at.returns c).Start).0 (short (goal.at.returns c).Start).1) c.text-opened.ensures) c.predicate-said.ensures) c.listed-filled.ensures) c.text.ensures
