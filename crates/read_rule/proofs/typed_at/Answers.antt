-- `typed_at` meets its contract.
use mathlib.Core.Path.{◌∙◌}
use Rattle.read_rule.specs.Steps.{hit, fit_variable, typed_bad, typed_ok}
use Rattle.read_rule.proofs.typed_at.Goals as goal

pub type_at-requires : goal.type_at-requires
type_at-requires c = (hit _ c.args.s.now c.args.at _ _ _ (fit_variable _) c.requires c.in_ok-e.ensures).within

pub returns-in_err-e : goal.returns-in_err-e
returns-in_err-e c = let a = c.args in c.from_residual.ensures ∙ typed_bad _ a.s.now a.at c.in_err-e.ensures

pub returns : goal.returns
returns c =
    let h = hit _ c.args.s.now _ _ _ _ (fit_variable _) c.requires c.in_ok-e.ensures in
    c.type_at.ensures h.got ∙ typed_ok _ _ _ _ _ h
