-- `read_names::known` meets its contract.
use native.Mathlib.Omega.{arith}
use lib.Seq.{slice}
use mathlib.Core.Path.{◌∙◌}
use Rattle.read_names.specs.Signatures.{all_of, lent_of}
use Rattle.read_names.proofs.Laws.{is_known}
use Rattle.read_names.proofs.known.Goals as goal

pub returns : goal.returns
returns c =
    let a = c.args in let g = lent_of a.from.now a.to.now a.arity.now a.m in
    c.is_some.ensures ∙ is_known (all_of a.s.now g) (slice a.a a.e a.s.now) a.count _ (c.search.ensures g (omega arith) (omega arith))
