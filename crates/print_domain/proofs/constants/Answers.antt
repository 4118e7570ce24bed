-- `print_domain::constants` meets its contract. Assumes nothing.
use Rattle.print_domain.specs.Nodes.{constants_one, constants_two}
use native.Mathlib.Omega.{arith}
use Rattle.print_bytes.specs.Emitted.{begin, next as then, finish}
use Rattle.print_domain.proofs.constants.Goals as goal

pub returns-then-n-eq1 : goal.returns-then-n-eq1
returns-then-n-eq1 c = finish _ (then _ _ (begin _ (constants_one _ c.if-n-eq1.true) (omega arith) (omega arith)) c.text-one.ensures) c.text.ensures

pub returns : goal.returns
returns c = finish _ (then _ _ (then _ _ (then _ _ (begin _ (constants_two _ c.if-n-eq1.false) (omega arith) (omega arith)) c.text-one.ensures) c.byte-spaced.ensures) c.object_word-two.ensures) c.text-2.ensures
