-- `print_domain::proof_end` meets its contract. Assumes nothing.
use Rattle.print_domain.specs.Nodes.{end_parts}
use native.Mathlib.Omega.{arith}
use Rattle.print_bytes.specs.Emitted.{begin, next as then, finish}
use Rattle.print_domain.proofs.proof_end.Goals as goal

pub returns : goal.returns
returns c = finish _ (then _ _ (then _ _ (begin _ (end_parts _ _ _ _) (omega arith) (omega arith)) c.text-turned.ensures) c.also-added.ensures) c.text.ensures
