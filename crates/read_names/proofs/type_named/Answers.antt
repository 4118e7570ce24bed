-- `read_names::type_named` meets its contract. Types stand from entry 13 on, so that what is found there is 13 further on.
use lib.Seq.{slice}
use native.Mathlib.Omega.{arith}
use mathlib.Core.Path.{◌∙◌}
use Rattle.read_names.specs.Signatures.{built_in_table}
use Rattle.read_names.proofs.Laws.{type_found, type_missed, look_found}
use Rattle.read_names.proofs.type_named.Goals as goal

pub overflow_sub-result : goal.overflow_sub-result
overflow_sub-result c = omega (arith, (look_found _ _ _ _ _ _ _ c.in_ok-i.was (c.lookup.ensures built_in_table)).0)

pub returns : goal.returns
returns c =
    let a = c.args in
    type_found a.q.now built_in_table a.from.now a.to.now a.from.now a.k (slice a.a a.e a.s.now) _ (c.lookup.ensures built_in_table) _ c.in_ok-i.was

pub returns-in_err-i : goal.returns-in_err-i
returns-in_err-i c =
    let a = c.args in
    c.from_residual.ensures ∙ type_missed a.q.now built_in_table a.from.now a.to.now a.from.now a.k (slice a.a a.e a.s.now) _ (c.lookup.ensures built_in_table) c.in_err-i.was
