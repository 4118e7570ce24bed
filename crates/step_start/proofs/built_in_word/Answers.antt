-- `step_start::built_in_word`: each relation by a law of its own. Assumes nothing.
use native.Mathlib.Omega.{arith}
use Rattle.step_start.specs.RowLaws.{word_eq, word_lt, word_suc, word_zero, word_max}
use Rattle.step_start.proofs.built_in_word.Goals as goal

pub returns-then-r-eq0 : goal.returns-then-r-eq0
returns-then-r-eq0 c = λ y l. word_eq _ _ _ _ y c.requires.1 l (omega arith) (c.single.ensures y (omega arith))

pub returns-then-r-eq1 : goal.returns-then-r-eq1
returns-then-r-eq1 c = λ y l. word_lt _ _ _ _ y c.requires.1 l _ _ (omega arith) (omega arith) c.min.ensures c.mask.ensures

pub returns-then-r-eq2 : goal.returns-then-r-eq2
returns-then-r-eq2 c = λ y l. word_suc _ _ _ _ y c.requires.1 l (omega arith) (c.single-then-r-eq2.ensures y (omega arith))

pub returns-then-r-eq3 : goal.returns-then-r-eq3
returns-then-r-eq3 c = λ y l. word_zero _ _ _ _ y c.requires.1 l (omega arith) (c.single-then-r-eq3.ensures y (omega arith))

pub returns : goal.returns
returns c = λ y l. word_max _ _ _ _ y c.requires.1 l (omega arith) (c.single-2.ensures y (omega arith))
