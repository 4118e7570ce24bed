-- `read_line::step_line` meets its contract.
use native.Mathlib.Omega.{arith}
use borrow.Author.Rules.{rules}
use Rattle.read_line.proofs.Digits.{end_in, step_reads, not_step}
use Rattle.read_line.proofs.step_line.Goals as goal

pub returns-then-n-at-lt7 : goal.returns-then-n-at-lt7
returns-then-n-at-lt7 c = not_step c.args.s.now c.args.at

pub returns-then-e-n : goal.returns-then-e-n
returns-then-e-n c = not_step _ _

pub number-requires : goal.number-requires
number-requires c =
    let b = end_in _ _ (omega arith) _ c.word.ensures c.if-not-word.false _ c.find-e.ensures
    c.if-e-n.false in (b.0, omega arith)

pub overflow_add-result : goal.overflow_add-result
overflow_add-result c =
    let b = end_in _ _ (omega arith) _ c.word.ensures c.if-not-word.false _ c.find-e.ensures
    c.if-e-n.false in omega arith

pub returns-in_err-k : goal.returns-in_err-k
returns-in_err-k c = search (rules, not_step)

pub returns : goal.returns
returns c =
    step_reads _ _ (omega arith) _ c.word.ensures c.if-not-word.false _ c.find-e.ensures
    c.if-e-n.false _ c.in_ok-k.ensures
