use native.Mathlib.Omega.{arith}
use Rattle.eval_table.specs.Numbers.{fact_low, fact_high}
use Rattle.eval_table.proofs.fact_words.Goals as goal

pub returns-then-r-lt5 : goal.returns-then-r-lt5
returns-then-r-lt5 c = (fact_low _ _ (omega arith), omega arith)

pub returns : goal.returns
returns c = (fact_high _ _ (omega arith), omega arith)
