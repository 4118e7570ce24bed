-- `read_names::search` meets its contract. The first of all is the first of the built-in ones, or else of those declared, five further on.
use native.Mathlib.Omega.{arith}
use lib.Seq.{slice}
use mathlib.Core.Path.{sym, ◌∙◌}
use Rattle.read_names.specs.Signatures.{with_arrays, built_in_table, matches}
use Rattle.read_names.proofs.Laws.{in_built_in, in_declared, in_none, look_found}
use Rattle.read_names.proofs.search.Goals as goal

pub overflow_add-result : goal.overflow_add-result
overflow_add-result c = omega (arith, (look_found _ _ _ _ _ _ _ c.in_ok-i.was (c.lookup.ensures built_in_table)).1)

pub returns-then-is_some : goal.returns-then-is_some
unfolding built_in_table
returns-then-is_some c =
    let lookup = c.lookup-built_in in let a = c.args in
    λ g h one. in_built_in a.s.now (with_arrays g a.from.now a.to.now a.arity.now) one (matches (slice a.a a.e a.s.now) a.wanted) lookup.result (lookup.ensures built_in_table)
    (sym c.is_some.ensures ∙ c.if-is_some.true)

pub returns : goal.returns
unfolding built_in_table
returns c =
    let lookup = c.lookup-built_in in let a = c.args in
    λ g h one. in_declared a.s.now (with_arrays g a.from.now a.to.now a.arity.now) one
    (matches (slice a.a a.e a.s.now) a.wanted) lookup.result (lookup.ensures built_in_table)
    (sym c.is_some.ensures ∙ c.if-is_some.false) a.m h c.lookup.result (c.lookup.ensures g) _ c.in_ok-i.was

pub returns-in_err-i : goal.returns-in_err-i
unfolding built_in_table
returns-in_err-i c =
    let lookup = c.lookup-built_in in let a = c.args in
    λ g h one. c.from_residual.ensures ∙ in_none a.s.now (with_arrays g a.from.now a.to.now a.arity.now) one
    (matches (slice a.a a.e a.s.now) a.wanted) lookup.result (lookup.ensures built_in_table)
    (sym c.is_some.ensures ∙ c.if-is_some.false) a.m h c.lookup.result (c.lookup.ensures g) c.in_err-i.was
