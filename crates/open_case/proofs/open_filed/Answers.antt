-- `open_case::open_filed` meets its contract: the case is refused, or it was read with its labels and is grounded. Assumes nothing.
use mathlib.Core.Path.{refl}
use Rattle.open_case.specs.Fronts.{limits, fronts_read}
use Rattle.open_case.proofs.open_filed.Goals as goal

pub ground_case-m-requires : goal.ground_case-m-requires
ground_case-m-requires c =
    let (x, e, h, l) = c.in-Ok.ensures (limits c.args.most c.args.limits) refl in
    record { table_len = (c.requires.table_len.0, c.requires.table_len.1, c.requires.most_bound.1, c.requires.most_bound.2); read = record { case = x.case; facts = _; holds = h } }

pub returns-in-Ok : goal.returns-in-Ok
returns-in-Ok c =
    let L = limits c.args.most c.args.limits in
    fronts_read L c.requires.most_bound.0 _ _ _ _ _ (c.in-Ok.ensures L refl) _ _ (λ x h. c.ground_case-m.ensures L x _ refl refl refl h)
