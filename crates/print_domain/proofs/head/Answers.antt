-- `print_domain::head` meets its contract. Assumes nothing.
use mathlib.Core.Path.{refl}
use Rattle.print_domain.specs.Texts.{head_text}
use native.Mathlib.Omega.{arith}
use Rattle.print_bytes.specs.Emitted.{begin, next as then, finish}
use Rattle.print_domain.proofs.head.Goals as goal

pub returns : goal.returns
unfolding head_text
returns c = finish _ (then _ _ (then _ _ (then _ _ (then _ _ (begin _ refl (omega arith) (omega arith)) c.text-begun.ensures) c.action_word-named.ensures) c.text-second.ensures) c.bracketed-listed.ensures) c.text.ensures
