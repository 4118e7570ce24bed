-- `problem_table::free_clear` meets its contract.
use Prim.Native.Nat.{◌+◌, ◌%◌}
use mathlib.Core.Path.{ap, ◌∙◌}
use mathlib.Core.List.{[], ◌∷◌}
use native.Mathlib.Nat.{div-le_self, mod-lt}
use native.Mathlib.Omega.{arith}
use Rattle.problem_table.specs.Numbers.{changed}
use Rattle.problem_table.specs.ChangeLaws.{clear_none, clear_domain, clear_both}
use Rattle.problem_table.proofs.free_clear.Goals as goal

pub returns-then-kind-lt2 : goal.returns-then-kind-lt2
returns-then-kind-lt2 c = clear_none _ _ _ _ _ (omega arith)

pub overflow_add-free : goal.overflow_add-free
overflow_add-free c = omega (arith, div-le_self c.args.row c.args.n)

pub returns-then-kind-lt4 : goal.returns-then-kind-lt4
returns-then-kind-lt4 c = c.clear.ensures ∙ clear_domain _ _ _ _ _ (omega arith) (omega arith)

pub overflow_add-free-3 : goal.overflow_add-free-3
overflow_add-free-3 c = omega (arith, mod-lt c.args.row c.requires.0)

pub returns : goal.returns
returns c =
    c.clear-2.ensures ∙ ap (λ s. changed s ((c.args.free + c.args.n + c.args.row % c.args.n) ∷ []) [])
    c.clear.ensures ∙ clear_both _ _ _ _ _ (omega arith)
