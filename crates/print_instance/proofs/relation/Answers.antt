-- `print_instance::relation` meets its contract. Assumes nothing.
use Rattle.print_instance.specs.Texts.{relation_parts, relation_fits, other_fits}
use native.Mathlib.Omega.{arith}
use Prim.Native.Nat.{◌^◌, ◌<◌}
use lib.ListN.{length}
use Rattle.print_bytes.specs.Emitted.{begin, next as then, finish}
use Rattle.print_instance.proofs.relation.Goals as goal
use Rattle.print_instance.proofs.relation.Goals.{Start}

short : (c : Start) → (length c.args.out.now < 2 ^ 64) × (c.args.at < 2 ^ 64)
short c = (omega arith, omega arith)

pub tuples-held-requires : goal.tuples-held-requires
tuples-held-requires c = (c.requires.0, c.requires.1)

pub tuples-not-requires : goal.tuples-not-requires
tuples-not-requires c = (c.requires.0, other_fits _ c.requires.1)

pub elements_if-one-requires : goal.elements_if-one-requires
elements_if-one-requires c = (c.requires.0, relation_fits 2 c.args.k.r c.requires.1.number, c.requires.1.few)

pub elements_if-requires : goal.elements_if-requires
elements_if-requires c = (c.requires.0, relation_fits 3 c.args.k.r c.requires.1.number, c.requires.1.few)

pub returns : goal.returns
returns c = finish _ (then _ _ (then _ _ (then _ _ (begin _ (relation_parts _ _ _ _ _ _ c.is_function-is.ensures c.is_injective-too.ensures) (short (goal.at.returns c).Start).0 (short (goal.at.returns c).Start).1) c.tuples-held.ensures) c.tuples-not.ensures) c.elements_if-one.ensures) c.elements_if.ensures
