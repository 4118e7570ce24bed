-- `problem_table::may_forall` meets its contract.
use mathlib.Core.Path.{sym, ◌∙◌}
use Prim.Native.Nat.{◌*◌, ◌^◌, ◌≤◌}
use native.Mathlib.Omega.{arith}
use Rattle.rows.specs.Laws.{times_most}
use Rattle.problem_table.specs.NeedLaws.{forall_no, forall_not, forall_first, forall_next}
use Rattle.problem_table.proofs.may_forall.Goals as goal
use Rattle.problem_table.proofs.may_forall.Goals.{Start, then-y-eq0, else-y-eq0, else-test-via-then-test+else-under_holds, else-test-via-else-test}

-- the atom of the row and of an element
times : (c : Start) → c.args.row * c.args.n ≤ 2 ^ 32 * 64
times c = times_most _ _ c.requires.7 c.requires.1

pub element_before-y-requires : goal.element_before-y-requires
element_before-y-requires c = let q = c.requires in (q.2.whole, q.4.inside, omega arith, q.4.whole)

pub overflow_mul-row : goal.overflow_mul-row
overflow_mul-row c = omega (arith, times (goal.at.overflow_mul-row c).Start)

pub overflow_add-row : goal.overflow_add-row
overflow_add-row c = omega (arith, times (goal.at.overflow_add-row c).Start)

pub overflow_add-v : goal.overflow_add-v
overflow_add-v c = omega (arith, times (goal.at.overflow_add-v c).Start)

pub returns-then-under_holds : goal.returns-then-under_holds
returns-then-under_holds c =
    let b = c.element_before-y in elim c.if-y-eq0.branch [
      | then-y-eq0 w ↦ w.result-is ∙ rw w.if-y-eq0.true
          (forall_first _ _ _ _ _ _ _ b.ensures.0 w.if-y-eq0.true (sym c.test.ensures ∙ c.if-test.true) (sym c.under_holds.ensures ∙ c.if-under_holds.true))
      | else-y-eq0 w ↦ w.result-is ∙ forall_next _ _ _ _ _ _ _ _ b.ensures.0 (omega (arith, w.if-y-eq0.false))
          (sym c.test.ensures ∙ c.if-test.true) (sym c.under_holds.ensures ∙ c.if-under_holds.true) w.test-else-y-eq0.ensures
    ]

pub returns : goal.returns
returns c = elim c.else-test.branch [
  | else-test-via-then-test+else-under_holds w ↦ forall_not _ _ _ _ _ _ (sym c.test.ensures ∙ w.if-test.true) (sym w.under_holds.ensures ∙ w.if-under_holds.false)
  | else-test-via-else-test w ↦ forall_no _ _ _ _ _ _ (sym c.test.ensures ∙ w.if-test.false)
]
