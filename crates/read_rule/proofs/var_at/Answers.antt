-- `var_at` meets its contract.
use mathlib.Core.Path.{◌∙◌}
use Rattle.read_rule.specs.Steps.{hit, fit_variable, var_bad, var_ok}
use Rattle.read_rule.proofs.var_at.Goals as goal

pub returns-in_err-e : goal.returns-in_err-e
returns-in_err-e c = let a = c.args in c.from_residual.ensures ∙ var_bad a.s.now a.at _ c.in_err-e.ensures

pub returns : goal.returns
returns c =
    let v = hit _ c.args.s.now _ _ _ _ (fit_variable _) c.requires.0 c.in_ok-e.ensures in
    var_ok _ _ _ _ _ _ v c.is_bound-scoped.ensures
