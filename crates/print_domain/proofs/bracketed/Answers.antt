-- `print_domain::bracketed` meets its contract. Assumes nothing.
use Rattle.print_bytes.specs.Emitted.{emits_as, begin, next as then, finish}
use Rattle.print_domain.specs.Texts.{params_none, params_some}
use native.Mathlib.Omega.{arith}
use Rattle.print_domain.proofs.bracketed.Goals as goal

pub returns-then-count-eq0 : goal.returns-then-count-eq0
returns-then-count-eq0 c = emits_as (params_none _ c.if-count-eq0.true) c.text.ensures

pub returns : goal.returns
returns c = finish _ (then _ _ (then _ _ (then _ _ (begin _ (params_some _ c.if-count-eq0.false) (omega arith) (omega arith)) c.text-opened.ensures) c.parameter_word-first.ensures) c.further-listed.ensures) c.text-2.ensures
