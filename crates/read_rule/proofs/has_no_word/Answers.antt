-- `has_no_word` meets its contract.
use Prim.Native.Nat.{◌+◌}
use native.Mathlib.Omega.{arith}
use lib.ListN.{get_or-eq_default}
use borrow.Author.Tests.{ltb-true}
use Rattle.read_rule.specs.Steps.{kind_other}
use Rattle.read_rule.proofs.has_no_word.Goals as goal

pub returns-then-s-at-lt2 : goal.returns-then-s-at-lt2
returns-then-s-at-lt2 c = λ _. let a = c.args in kind_other a.s.now a.at (omega (arith, get_or-eq_default a.s.now 0 {n = a.at + 1} (omega arith)))

pub returns : goal.returns
returns c = λ h. kind_other c.args.s.now c.args.at (ltb-true _ 97 h)
