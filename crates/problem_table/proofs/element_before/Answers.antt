use mathlib.Core.Path.{◌≡◌, refl, sym, ◌∙◌}
use native.Mathlib.Omega.{arith}
use Prim.Native.Nat.{◌+◌, ◌-◌, ◌<◌}
use lib.ListN.{length-take, length-drop, take, drop, get_or}
use Rattle.std.proofs.lemmas.List.{get_or-take, get_or-drop}
use Rattle.problem_table.specs.NeedLaws.{before_whole, before_start, before_turn, before_end, latest_low}
use Rattle.problem_table.proofs.element_before.Goals as goal

pub returns-then-range-eq-RANGE_AT : goal.returns-then-range-eq-RANGE_AT
returns-then-range-eq-RANGE_AT c = let q = c.requires in (before_whole _ _ _ _ _ refl q.2 (q.3 (omega arith)), omega arith)

pub loop-y-init : goal.loop-y-init
loop-y-init c = (omega arith, before_start _ _ _ _)

pub loop-y-preserved : goal.loop-y-preserved
loop-y-preserved c =
    let l = c.loop-y in let a = c.args in let t = a.table.now in let m = a.range + a.count - a.range in
    let inside : l.y-index < m = omega (arith, length-take m (drop a.range t)) in
    let here : get_or (take m (drop a.range t)) l.y-index 0 ≡ get_or t (a.range + l.y-index) 0 = get_or-take m _ _ 0 inside ∙ get_or-drop a.range t _ 0 in
    let e = rw here at c.latest-found.ensures in
    (latest_low _ _ _ _ e l.invariant.0, l.invariant.1 ∙ before_turn _ _ _ _ _ _ _ (omega arith) e)

pub returns : goal.returns
returns c =
    let l = c.loop-y in let a = c.args in let t = a.table.now in let m = a.range + a.count - a.range in
    (sym (l.invariant.1 ∙ before_end _ _ _ _ _ _ (omega (arith, length-take m (drop a.range t), length-drop a.range t))), l.invariant.0)
