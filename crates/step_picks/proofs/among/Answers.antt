use mathlib.Core.Path.{◌≡◌, sym, ◌∙◌}
use Prim.Native.Nat.{ℕ, ◌+◌, ◌-◌, ◌<◌}
use mathlib.Core.List.{List}
use native.Mathlib.Omega.{arith}
use borrow.Author.Tests.{eq-eqb, ne_eqb}
use lib.ListN.{get_or, length, take, drop, length-take, length-drop}
use Rattle.std.proofs.lemmas.List.{get_or-take, get_or-drop}
use Rattle.laws.specs.Lists.{any_yes, any_no, any_end}
use Rattle.step_picks.specs.TestLaws.{among_start}
use Rattle.step_picks.proofs.among.Goals as goal

-- a number of the lent part, in the table
taken : (t : List ℕ) (at count i : ℕ) → i < length (take (at + count - at) (drop at t)) → get_or (take (at + count - at) (drop at t)) i 0 ≡ get_or t (at + i) 0
taken t at count i h = get_or-take _ (drop at t) i 0 (omega (arith, length-take (at + count - at) (drop at t))) ∙ get_or-drop at t i 0

pub loop-y-init : goal.loop-y-init
loop-y-init c = among_start _ _ _ _

pub returns-then-y-x : goal.returns-then-y-x
returns-then-y-x c =
    let a = c.args in let here = taken a.table.now a.at a.count c.loop-y.y-index c.loop-y-test.true in
    sym (c.loop-y.invariant ∙ any_yes _ _ _ (omega arith) (eq-eqb _ _ (sym (sym here ∙ c.if-y-x.true))))

pub loop-y-preserved : goal.loop-y-preserved
loop-y-preserved c =
    let a = c.args in let here = taken a.table.now a.at a.count c.loop-y.y-index c.loop-y-test.true in
    c.loop-y.invariant ∙ any_no _ _ _ (omega arith) (ne_eqb _ _ (λ e. c.if-y-x.false (here ∙ sym e)))

pub returns : goal.returns
returns c =
    let a = c.args in
    sym (c.loop-y.invariant ∙ any_end _ _ _ (omega (arith, length-take (a.at + a.count - a.at) (drop a.at a.table.now), length-drop a.at a.table.now)))
