-- `print_instance::instance` meets its contract. Assumes nothing.
use mathlib.Core.Path.{refl}
use Rattle.print_instance.specs.Texts.{instance_in}
use native.Mathlib.Omega.{arith}
use Rattle.print_bytes.specs.Emitted.{begin, next as then, finish}
use Rattle.print_instance.proofs.instance.Goals as goal

pub objects-listed-requires : goal.objects-listed-requires
objects-listed-requires c = c.requires.1.few

pub relations-said-requires : goal.relations-said-requires
relations-said-requires c = (c.requires.0, c.requires.1)

pub returns : goal.returns
unfolding instance_in
returns c = finish _ (then _ _ (then _ _ (then _ _ (then _ _ (begin _ refl (omega arith) (omega arith)) c.text-titled.ensures) c.objects-listed.ensures) c.text-begun.ensures) c.relations-said.ensures) c.text.ensures
