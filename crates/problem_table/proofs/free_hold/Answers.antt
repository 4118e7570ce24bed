-- `problem_table::free_hold` meets its contract.
use mathlib.Core.Path.{sym, ◌∙◌}
use native.Mathlib.Nat.{div-le_self}
use native.Mathlib.Omega.{arith}
use borrow.Author.Tests.{lt-ltb}
use Rattle.problem_table.specs.NeedLaws.{free_none, free_no, free_domain, free_both}
use Rattle.problem_table.proofs.free_hold.Goals as goal

pub returns-then-kind-lt2 : goal.returns-then-kind-lt2
returns-then-kind-lt2 c = rw (lt-ltb c.args.kind 2 (omega arith)) (free_none _ _ _ _ _ (omega arith))

pub overflow_add-free : goal.overflow_add-free
overflow_add-free c = omega (arith, div-le_self c.args.row c.args.n)

pub returns-then-kind-lt4 : goal.returns-then-kind-lt4
returns-then-kind-lt4 c = rw (lt-ltb c.args.kind 4 (omega arith)) (free_domain _ _ _ _ _ (omega arith) (omega arith) (sym c.test.ensures ∙ c.if-test.true))

pub returns-else-kind-lt4 : goal.returns-else-kind-lt4
returns-else-kind-lt4 c = free_both _ _ _ _ _ _ (omega arith) (sym c.test.ensures ∙ c.if-test.true) c.test-else-kind-lt4.ensures

pub returns-else-test : goal.returns-else-test
returns-else-test c = c.if-test.false ∙ free_no _ _ _ _ _ (omega arith) (sym c.test.ensures ∙ c.if-test.false)
