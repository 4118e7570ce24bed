-- `read_line::choose_entry` meets its contract. A tab that is not found before the end is the end.
use Prim.Native.Nat.{◌<◌}
use native.Mathlib.Omega.{arith}
use Rattle.read_line.proofs.Made.{choose_alone, choose_two, choose_more}
use Rattle.read_line.proofs.Tabs.{found}
use Rattle.read_line.proofs.choose_entry.Goals as goal
use Rattle.read_line.proofs.choose_entry.Goals.{Else-t-e}

-- the first tab is before the end
first-tab : (c : Else-t-e) → c.find-t.result < c.args.e
first-tab c = omega (arith, found _ _ _ _ _ c.requires c.find-t.ensures)

pub returns-then-t-e : goal.returns-then-t-e
returns-then-t-e c = choose_alone _ _ _ (omega arith) (omega arith) _ c.find-t.ensures (omega arith)

pub overflow_add-t : goal.overflow_add-t
overflow_add-t c = omega (arith, first-tab c)

pub find-u-requires : goal.find-u-requires
find-u-requires c = omega (arith, first-tab c, c.find-t.ensures)

pub choose_untyped-requires : goal.choose_untyped-requires
choose_untyped-requires c = omega (arith, first-tab (goal.at.choose_untyped-requires c).Else-t-e, c.find-t.ensures)

pub returns-then-u-e : goal.returns-then-u-e
returns-then-u-e c =
    let h = first-tab (goal.at.returns-then-u-e c).Else-t-e in
    rw (← choose_two _ _ _ (omega arith) (omega arith) _ c.find-t.ensures (omega arith) _ c.find-u.ensures (omega arith)) c.choose_untyped.ensures

pub choose_typed-requires : goal.choose_typed-requires
choose_typed-requires c =
    let h = first-tab (goal.at.choose_typed-requires c).Else-t-e in
    omega (arith, h, c.find-t.ensures, found _ _ c.args.e _ _ (omega arith, omega arith) c.find-u.ensures)

pub returns : goal.returns
returns c =
    let h = first-tab (goal.at.returns c).Else-t-e in let a = c.args in
    let g = c.find-u.ensures in let k = found _ _ a.e _ _ (omega arith, omega arith) g in
    rw (← choose_more _ _ _ (omega arith) (omega arith) _ c.find-t.ensures (omega arith) _ g (omega arith)) c.choose_typed.ensures
