use native.Mathlib.Omega.{arith}
use Rattle.eval_search.specs.Numbers.{is_0, is_1, is_2, is_3, is_4, is_5}
use Rattle.eval_search.proofs.pattern.Goals as goal

pub returns-in-0 : goal.returns-in-0
returns-in-0 c = is_0 _ c.in-0.is

pub returns-in-1 : goal.returns-in-1
returns-in-1 c = is_1 _ c.in-1.is

pub returns-in-2 : goal.returns-in-2
returns-in-2 c = is_2 _ c.in-2.is

pub returns-in-3 : goal.returns-in-3
returns-in-3 c = is_3 _ c.in-3.is

pub returns-in-4 : goal.returns-in-4
returns-in-4 c = is_4 _ c.in-4.is

pub returns-in_default : goal.returns-in_default
returns-in_default c = is_5 _ (omega arith)
