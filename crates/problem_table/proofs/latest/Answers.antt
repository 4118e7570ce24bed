-- `problem_table::latest` meets its contract.
use mathlib.Core.Path.{refl}
use native.Mathlib.Omega.{arith}
use native.Mathlib.Numerals.{add-one}
use borrow.Author.Tests.{lt-ltb, le-ltb}
use Rattle.problem_table.proofs.latest.Goals as goal

pub returns-then-y-z : goal.returns-then-y-z
returns-then-y-z c = rw (lt-ltb c.args.y c.args.z (omega arith), add-one _) refl

pub returns : goal.returns
returns c = rw (le-ltb c.args.y c.args.z (omega arith)) refl
