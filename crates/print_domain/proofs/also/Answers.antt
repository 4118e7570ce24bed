-- `print_domain::also` meets its contract. Assumes nothing.
use Rattle.print_domain.specs.Texts.{also_no, also_yes}
use native.Mathlib.Omega.{arith}
use Rattle.print_bytes.specs.Emitted.{begin, next as then, finish}
use Rattle.print_domain.proofs.also.Goals as goal

pub returns-then-negated : goal.returns-then-negated
returns-then-negated c = finish _ (then _ _ (then _ _ (begin _ (also_no _ _ _ _ _ c.if-negated.true) (omega arith) (omega arith)) c.text-begun.ensures) c.atom-said.ensures) c.text.ensures

pub returns : goal.returns
returns c = finish _ (then _ _ (begin _ (also_yes _ _ _ _ _ c.if-negated.false) (omega arith) (omega arith)) c.text-begun-2.ensures) c.atom.ensures
