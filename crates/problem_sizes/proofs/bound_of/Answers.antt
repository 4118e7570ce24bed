-- `problem_sizes::bound_of` meets its contract.
use native.Mathlib.Omega.{arith}
use Rattle.problem_sizes.specs.SumLaws.{few_values, rounds_small, bound_some, bound_none}
use Rattle.problem_sizes.proofs.bound_of.Goals as goal

pub power-requires : goal.power-requires
power-requires c = (omega arith, omega (arith, few_values c.args.tuples (omega arith)))

pub overflow_mul-result : goal.overflow_mul-result
overflow_mul-result c = omega (arith, rounds_small c.args.tuples c.power.result c.args.atoms (omega arith) c.power.ensures (omega arith))

pub overflow_add-result-then-tuples-lt9-3 : goal.overflow_add-result-then-tuples-lt9-3
overflow_add-result-then-tuples-lt9-3 c = omega (arith, rounds_small c.args.tuples c.power.result c.args.atoms (omega arith) c.power.ensures (omega arith))

pub returns-then-tuples-lt9 : goal.returns-then-tuples-lt9
returns-then-tuples-lt9 c = bound_some c.args.picks c.args.atoms c.args.tuples c.power.result (omega arith) c.power.ensures

pub returns : goal.returns
returns c = bound_none c.args.picks c.args.atoms c.args.tuples (omega arith)
