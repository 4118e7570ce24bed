use mathlib.Core.Path.{refl}
use native.Mathlib.Omega.{arith}
use Rattle.eval_search.specs.Numbers.{low_word, high_word}
use Rattle.eval_search.proofs.number_word.Goals as goal

pub returns-then-d-lt6 : goal.returns-then-d-lt6
returns-then-d-lt6 c = low_word c.args.top c.args.d c.pattern.result (omega (arith, c.if-d-lt6.true)) c.pattern.ensures

pub returns : goal.returns
returns c = high_word c.args.top c.args.d c.spread.result (omega (arith, c.if-d-lt6.false)) _ refl c.spread.ensures
