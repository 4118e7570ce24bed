use native.Mathlib.Omega.{arith}
use Rattle.eval_search.specs.Steps.{block_small}
use Rattle.eval_search.proofs.number_at.Goals as goal

pub overflow_mul-result : goal.overflow_mul-result
overflow_mul-result c = omega (arith, block_small _ _ _ c.requires.2)

pub overflow_add-result : goal.overflow_add-result
overflow_add-result c = omega (arith, block_small _ _ _ c.requires.2)
