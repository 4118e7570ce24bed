-- `print_domain::used_up` meets its contract. Assumes nothing.
use Rattle.print_instance.specs.Texts.{relation_fits}
use Rattle.print_domain.specs.Texts.{used_parts}
use native.Mathlib.Omega.{arith}
use Rattle.print_bytes.specs.Emitted.{begin, next as then, finish}
use Rattle.print_domain.proofs.used_up.Goals as goal

pub also-one-requires : goal.also-one-requires
also-one-requires c = (c.requires.0, relation_fits 1 c.args.r c.requires.1, c.parameters-places.ensures.0)

pub also_if-two-requires : goal.also_if-two-requires
also_if-two-requires c = (c.requires.0, relation_fits 2 c.args.r c.requires.1, c.only-first.ensures.0)

pub also_if-requires : goal.also_if-requires
also_if-requires c = (c.requires.0, relation_fits 3 c.args.r c.requires.1, c.only-second.ensures.0)

pub returns : goal.returns
returns c = finish _ (then _ _ (then _ _ (begin _ (used_parts _ _ _ _ _ _ _ _ _ _ _ c.parameters-places.ensures.2 c.only-first.ensures.2 c.only-second.ensures.2 c.is_function-is.ensures c.is_injective-too.ensures) (omega arith) (omega arith)) c.also-one.ensures) c.also_if-two.ensures) c.also_if.ensures
