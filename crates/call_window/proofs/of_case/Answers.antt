-- `call_window::of_case` meets its contract: 11 or 23, or the two numbers. Assumes nothing.
use Prim.Native.Nat.{ℕ}
use mathlib.Core.Bool.{Bool}
use native.Mathlib.Omega.{arith}
use Rattle.definitions.specs.Limits.{usual}
use Rattle.definitions.specs.Problem.Truth.{Case}
use Rattle.definitions.specs.Problem.Atoms.{problem_of}
use Rattle.meaning.specs.Grounded.{good}
use Rattle.problem_sizes.specs.Sums.{Tallied}
use Rattle.problem_sizes.specs.Refused.{every_told}
use Rattle.problem_of_case.specs.Grounds.{declared, rule_fine, inputs}
use Rattle.std.proofs.lemmas.Result.{err_from_is_err_and}
use Rattle.read_sheets.specs.Opening.{Holds}
use Rattle.open_case.specs.Usual.{over_usual, within_usual}
use Rattle.call_window.specs.Windows.{window_over, window_every, window_told}
use Rattle.call_window.proofs.of_case.Goals as goal
use Rattle.call_window.proofs.of_case.Goals.{After-of_tables-m}

-- what was counted is the problem's
tallied : (c : After-of_tables-m) → (x : Case) (facts : ℕ → Bool) → Holds c.args.question.now x c.args.o facts → Tallied (problem_of x) c.of_tables-m.result
tallied c x facts h =
    let is = inputs _ _ x facts h _ _ c.relations_of-g.ensures.1 c.nodes_of-t.ensures in
    c.of_tables-m.ensures (problem_of x) _ _ c.ranges_of-ranges.ensures.1 is

pub ranges_of-ranges-requires : goal.ranges_of-ranges-requires
ranges_of-ranges-requires c = let h = c.requires.holds in (h.some_elements, h.few_elements, h.sound.types_le, omega (arith, h.sound.types_le, h.members_are.room))

pub relations_of-g-requires : goal.relations_of-g-requires
relations_of-g-requires c = declared _ _ _ _ c.requires.holds

pub nodes_of-t-requires : goal.nodes_of-t-requires
nodes_of-t-requires c = rule_fine _ _ _ _ c.requires.holds

pub of_tables-m-requires : goal.of_tables-m-requires
of_tables-m-requires c = let h = c.requires.holds in (h.some_elements, h.few_elements, c.relations_of-g.ensures.0, c.nodes_of-t.ensures.fits, c.ranges_of-ranges.ensures.0)

pub returns-in_err-within : goal.returns-in_err-within
returns-in_err-within c =
    let p = err_from_is_err_and c.from_residual.result c.from_residual.ensures.1 in
    λ site facts (x, e, h).
    rw (p.1, p.2)
    (window_over usual _ site _ facts (x, e, h) _
    (over_usual x _ (tallied (goal.at.returns-in_err-within c).After-of_tables-m x facts h) _ c.usual_limits.ensures _ c.in_err-within.ensures))

pub returns-then-m : goal.returns-then-m
returns-then-m c =
    λ site facts (x, e, h).
    let T = tallied (goal.at.returns-then-m c).After-of_tables-m x facts h in
    rw c.at.ensures
    (window_every usual _ site _ facts (x, e, h)
    (within_usual x _ T _ c.usual_limits.ensures c.in_ok-within.ensures) _ (every_told x _ T) c.if-m.true)

pub of_tables-w-requires : goal.of_tables-w-requires
of_tables-w-requires c = (c.nodes_of-t.ensures.fits, c.ranges_of-ranges.ensures.0)

pub returns : goal.returns
returns c =
    λ site facts (x, e, h).
    let T = tallied (goal.at.returns c).After-of_tables-m x facts h in
    window_told usual _ site _ facts (x, e, h)
    (within_usual x _ T _ c.usual_limits.ensures c.in_ok-within.ensures) _ (every_told x _ T)
    (omega arith) c.if-m.false _
    (λ y A i. c.of_tables-w.ensures (problem_of y) _ _ _ (good y A) c.ranges_of-ranges.ensures.1
    (inputs _ _ y facts i _ _ c.relations_of-g.ensures.1 c.nodes_of-t.ensures))
