-- `problem_table::test` meets its contract.
use mathlib.Core.Path.{sym}
use Prim.Native.Nat.{◌/◌}
use lib.ListN.{length}
use native.Mathlib.Omega.{arith}
use borrow.Author.Tests.{le-ltb}
use Rattle.bits.proofs.Laws.{bit_past}
use Rattle.problem_table.proofs.test.Goals as goal

pub returns-else-i-words : goal.returns-else-i-words
returns-else-i-words c = rw (le-ltb (c.args.i / 64) (length c.args.words.now) (omega arith)) (sym (bit_past _ _ (omega arith)))
