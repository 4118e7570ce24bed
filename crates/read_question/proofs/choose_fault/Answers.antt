-- `read_question::choose_fault` meets its contract.
use Rattle.read_question.proofs.Judging.{choose_name, choose_untyped, choose_first, choose_second, choose_typed}
use Rattle.std.proofs.lemmas.Result.{err_from_is_err_and}
use mathlib.Core.Path.{sym, ◌∙◌}
use native.Mathlib.Omega.{arith}
use Rattle.read_question.proofs.choose_fault.Goals as goal
use Rattle.read_question.proofs.choose_fault.Goals.{then-p-eq0-via-then-p-eq0, then-p-eq0-via-else-p-eq0+then-p-eq0-2}

pub returns-in_err-new_name : goal.returns-in_err-new_name
returns-in_err-new_name c =
    let p = err_from_is_err_and c.from_residual.result c.from_residual.ensures.1 in
    rw (p.1, p.2) (choose_name _ _ _ _ _ _ _ (sym c.in_err-new_name.was ∙ c.new_name.ensures))

pub returns-then-v-eq0 : goal.returns-then-v-eq0
returns-then-v-eq0 c = choose_untyped _ _ _ _ _ _ (sym c.in_ok-new_name.was ∙ c.new_name.ensures) c.if-v-eq0.true

pub returns-then-p-eq0 : goal.returns-then-p-eq0
returns-then-p-eq0 c =
    let new = sym c.in_ok-new_name.was ∙ c.new_name.ensures in
    elim c.then-p-eq0.branch [
      | then-p-eq0-via-then-p-eq0 w ↦ choose_first _ _ _ _ _ _ new (omega arith) _ c.sorts_of-p.ensures w.if-p-eq0.true
      | then-p-eq0-via-else-p-eq0+then-p-eq0-2 w ↦ choose_second _ _ _ _ _ _ new (omega arith) _ c.sorts_of-p.ensures w.if-p-eq0.false w.if-p-eq0-2.true
    ]

pub returns : goal.returns
returns c = choose_typed _ _ _ _ _ _ (sym c.in_ok-new_name.was ∙ c.new_name.ensures) (omega arith) _ c.sorts_of-p.ensures c.if-p-eq0.false c.if-p-eq0-2.false
