-- `print_words::parameter_word` meets its contract. Assumes nothing.
use Rattle.definitions.specs.Reply.Pddl.{parameter_word}
use mathlib.Core.Path.{refl}
use native.Mathlib.Omega.{arith}
use Prim.Native.Nat.{◌^◌, ◌<◌}
use lib.ListN.{length}
use Rattle.print_bytes.specs.Emitted.{begin, next as then, finish}
use Rattle.print_words.proofs.parameter_word.Goals as goal
use Rattle.print_words.proofs.parameter_word.Goals.{Start}

short : (c : Start) → (length c.args.out.now < 2 ^ 64) × (c.args.at < 2 ^ 64)
short c = (omega arith, omega arith)

pub returns : goal.returns
unfolding parameter_word
returns c = finish _ (then _ _ (begin _ refl (short (goal.at.returns c).Start).0 (short (goal.at.returns c).Start).1) c.text-begun.ensures) c.decimal.ensures
