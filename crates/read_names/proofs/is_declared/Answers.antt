-- `read_names::is_declared` meets its contract.
use lib.Seq.{slice}
use mathlib.Core.Path.{◌∙◌}
use Rattle.read_names.specs.Signatures.{all_of}
use Rattle.read_names.proofs.Laws.{is_declared_lem}
use Rattle.read_names.proofs.is_declared.Goals as goal

pub returns : goal.returns
returns c =
    let a = c.args in
    λ g l. c.is_some.ensures ∙ is_declared_lem (all_of a.s.now g) (slice a.a a.e a.s.now) _ (c.relation.ensures g l)
