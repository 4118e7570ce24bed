-- `read_sheets::site_end` meets its contract.
use mathlib.Core.Path.{sym, ◌∙◌}
use native.Mathlib.Omega.{arith}
use Rattle.read_sheets.proofs.Loops.{end_none, end_each, end_missing}
use Rattle.read_sheets.proofs.site_end.Goals as goal

pub returns-then-n-eq0 : goal.returns-then-n-eq0
returns-then-n-eq0 c = λ ms M. rw c.at.ensures (end_none c.args.n _ _ c.if-n-eq0.true)

pub returns-then-not-all_have_members : goal.returns-then-not-all_have_members
returns-then-not-all_have_members c =
    λ ms M. rw c.at-then-not-all_have_members.ensures
    (end_missing _ _ _ c.if-n-eq0.false (sym (c.all_have_members.ensures _ ms (omega arith) M) ∙ c.if-not-all_have_members.true))

pub returns : goal.returns
returns c = λ ms M. end_each _ _ _ c.if-n-eq0.false (sym (c.all_have_members.ensures _ ms (omega arith) M) ∙ c.if-not-all_have_members.false)
