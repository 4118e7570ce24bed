use native.Mathlib.Omega.{arith}
use borrow.Author.Tests.{le-ltb}
use Rattle.eval_rule.specs.Laws.{digit_within, digit_past}
use Rattle.eval_rule.proofs.value_has.Goals as goal

pub returns-then-k-lt64 : goal.returns-then-k-lt64
returns-then-k-lt64 c = digit_within _ _

pub returns-else-k-lt64 : goal.returns-else-k-lt64
returns-else-k-lt64 c = rw (le-ltb c.args.k 64 (omega arith)) (digit_past _ _ (omega arith) (omega arith))
