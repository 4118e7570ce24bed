-- `problem_sizes::refusal` meets its contract.
use native.Mathlib.Omega.{arith}
use Rattle.problem_sizes.specs.Refused.{many_atoms, many_actions, no_every, many_tuples, many_steps, within_all}
use Rattle.problem_sizes.proofs.refusal.Goals as goal

pub returns-then-limits-t : goal.returns-then-limits-t
returns-then-limits-t c = many_atoms c.args.t c.args.limits (omega arith)

pub returns-then-limits-t-2 : goal.returns-then-limits-t-2
returns-then-limits-t-2 c = many_actions c.args.t c.args.limits (omega arith) (omega arith)

pub returns-then-t-gt8 : goal.returns-then-t-gt8
returns-then-t-gt8 c =
    many_tuples c.args.t
    c.args.limits (omega arith) (omega arith) c.if-t.true (omega arith)

pub returns-then-limits-t-3 : goal.returns-then-limits-t-3
returns-then-limits-t-3 c =
    many_steps c.args.t
    c.args.limits (omega arith) (omega arith)
    c.if-t.true (omega arith) (omega arith)

pub returns-else-limits-t-3 : goal.returns-else-limits-t-3
returns-else-limits-t-3 c =
    within_all c.args.t
    c.args.limits (omega arith) (omega arith)
    c.if-t.true (omega arith) (omega arith)

pub returns-else-t : goal.returns-else-t
returns-else-t c = no_every c.args.t c.args.limits (omega arith) (omega arith) c.if-t.false
