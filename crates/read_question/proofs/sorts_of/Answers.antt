-- `read_question::sorts_of` meets its contract.
use native.Mathlib.Omega.{arith}
use Rattle.read_names.specs.Signatures.{types_of}
use Rattle.read_question.proofs.Judging.{sorts_none, sorts_both}
use Rattle.read_question.proofs.sorts_of.Goals as goal

pub returns-then-v-eq0 : goal.returns-then-v-eq0
unfolding types_of
returns-then-v-eq0 c = sorts_none _ _ _ _ _ c.if-v-eq0.true

pub returns : goal.returns
unfolding types_of
returns c = sorts_both _ _ _ _ _ (omega arith) _ _ c.sort_named.ensures c.sort_named-2.ensures
