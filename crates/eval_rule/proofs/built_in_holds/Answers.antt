use native.Mathlib.Omega.{arith}
use Rattle.eval_rule.specs.Laws.{is_eq, is_lt, is_suc, is_zero, is_max}
use Rattle.eval_rule.proofs.built_in_holds.Goals as goal

pub returns-in-0 : goal.returns-in-0
returns-in-0 c = is_eq c.args.n c.args.r c.args.x c.args.y c.in-0.is

pub returns-in-1 : goal.returns-in-1
returns-in-1 c = is_lt c.args.n c.args.r c.args.x c.args.y c.in-1.is

pub returns-in-2 : goal.returns-in-2
returns-in-2 c = is_suc c.args.n c.args.r c.args.x c.args.y c.in-2.is

pub returns-in-3 : goal.returns-in-3
returns-in-3 c = is_zero c.args.n c.args.r c.args.x c.args.y c.in-3.is

pub returns-in_default : goal.returns-in_default
returns-in_default c = is_max c.args.n c.args.r c.args.x c.args.y (omega arith)
