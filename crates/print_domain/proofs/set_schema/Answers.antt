-- `print_domain::set_schema` meets its contract. Assumes nothing.
use native.Mathlib.Omega.{arith}
use Rattle.print_instance.specs.Texts.{relation_fits}
use Rattle.print_domain.specs.Texts.{set_parts, set_small, emits_size}
use Rattle.print_bytes.specs.Emitted.{begin, next as then, finish}
use Rattle.print_domain.proofs.set_schema.Goals as goal

pub head-headed-requires : goal.head-headed-requires
head-headed-requires c = (c.requires.0, set_small c.args.r c.requires.1, omega (arith, c.requires.2))

pub used_up-needed-requires : goal.used_up-needed-requires
used_up-needed-requires c = (c.requires.0, c.requires.1, c.requires.2)

pub also-added-requires : goal.also-added-requires
also-added-requires c = (c.requires.0, relation_fits 0 c.args.r c.requires.1, c.parameters-places.ensures.0)

pub used_up-removed-requires : goal.used_up-removed-requires
used_up-removed-requires c = (c.requires.0, c.requires.1, c.requires.2)

pub shape_of-out : goal.shape_of-out
shape_of-out c =
    emits_size (
    finish _ (then _ _ (then _ _ (then _ _ (then _ _ (then _ _ (then _ _ (begin _ (set_parts _ _ c.args.r c.args.arity c.args.kind _ c.parameters-places.ensures.2) (omega arith) (omega arith)) c.head-headed.ensures) c.text-guessed.ensures) c.used_up-needed.ensures) c.text-turned.ensures) c.also-added.ensures) c.used_up-removed.ensures) c.text.ensures
    )

pub returns : goal.returns
returns c = finish _ (then _ _ (then _ _ (then _ _ (then _ _ (then _ _ (then _ _ (begin _ (set_parts _ _ _ _ _ _ c.parameters-places.ensures.2) (omega arith) (omega arith)) c.head-headed.ensures) c.text-guessed.ensures) c.used_up-needed.ensures) c.text-turned.ensures) c.also-added.ensures) c.used_up-removed.ensures) c.text.ensures
