use Prim.Native.Nat.{ℕ, ◌<◌, ◌≤◌, ◌^◌}
use mathlib.Core.Path.{refl, ◌∙◌}
use native.Mathlib.Omega.{arith}
use Rattle.bits.specs.Table.{bit}
use Rattle.definitions.specs.Problem.Atoms.{relation_at}
use Rattle.definitions.specs.Problem.Actions.{sets_of}
use Rattle.problem_table.specs.NeedLaws.{set_row_small}
use Rattle.step_prove.specs.Following.{out}
use Rattle.step_build.specs.SetLaws.{rows_start, rows_next, rows_end, row_is, set_is, set_number_lem, passed_over}
use Rattle.step_build.proofs.set_rows.Goals as goal
use Rattle.step_build.proofs.set_rows.Goals.{After-row_at-row}

-- a row is in range
row_small : (c : After-row_at-row) → c.row_at-row.result ≤ 2 ^ 32
row_small c =
    let q = c.requires in rw c.row_at-row.ensures (set_row_small _ q.fits.0 c.args.line q.fits.2 c.loop-off.off
    (omega (arith, q.whole_value.1)) (λ e. let z = q.whole_value.2 (q.whole_value.0 ∙ e) in omega arith))

pub next_offset-off-requires : goal.next_offset-off-requires
next_offset-off-requires c = let q = c.requires in (q.fits.4, omega arith, q.whole_value.1)

pub loop-off-init : goal.loop-off-init
loop-off-init c = let s = c.requires in let f = c.next_offset-off.ensures in (f.1, omega arith, refl, refl, λ p R l e n. rows_start p _ (λ (i : ℕ). bit _ _) _ _ ∙ passed_over p _ R.is _ l _ e s.fits.2 _ s.whole_value.0 _ _ _ _ _ _ n f.0 f.1 f.2)

pub row_at-row-requires : goal.row_at-row-requires
row_at-row-requires c = let s = c.requires in (s.fits.0, s.fits.2, s.whole_value.0, λ e. let q = s.whole_value.2 e in omega arith)

pub overflow_add-start : goal.overflow_add-start
overflow_add-start c = let s = c.requires in omega (arith, row_small c, s.fits.4)

pub overflow_add-line : goal.overflow_add-line
overflow_add-line c = let q = c.requires in omega (arith, q.fits.3, q.whole_value.1)

pub set_row-k-requires : goal.set_row-k-requires
set_row-k-requires c = let s = c.requires in (s.fits.0, s.fits.1, row_small (goal.at.set_row-k-requires c).After-row_at-row, omega (arith, s.fits.5, s.whole_value.1))

pub overflow_add-off : goal.overflow_add-off
overflow_add-off c = omega arith

pub next_offset-off-requires-in-loop-off : goal.next_offset-off-requires-in-loop-off
next_offset-off-requires-in-loop-off c = let q = c.requires in (q.fits.4, omega arith, q.whole_value.1)

pub loop-off-smaller : goal.loop-off-smaller
loop-off-smaller c = omega (arith, c.next_offset-off-in-loop-off.ensures.0)

pub loop-off-preserved : goal.loop-off-preserved
loop-off-preserved c =
    let turn = c.loop-off in let s = c.requires in let a = c.args in let row = c.row_at-row in let taken = c.set_row-k in let test = c.test-picked in let f = c.next_offset-off-in-loop-off.ensures in (
      f.1,
      omega (arith, taken.ensures.0, f.0),
      taken.auto.state ∙ turn.invariant.2,
      taken.auto.steps ∙ turn.invariant.3,
      λ p R l e n.
          let h : turn.off < sets_of p.size p.range (relation_at p a.relation) = omega arith in
          let at = row_is p _ R.is _ l _ _ h refl _ e s.fits.2 _ row.ensures in
          turn.invariant.4 p R l e n ∙ rows_next p _ (λ (i : ℕ). bit _ _) test.result _ (out _ _ _) _ _ row.result (omega arith) at
          test.ensures (taken.ensures.1 p (record { is = R.is; room = omega (arith, R.room, turn.invariant.2); few = R.few })
          (set_is p a.table.now R.is _ l _ row.result h at) (set_number_lem p _ R.is _ l _ row.result h at _ e))
          ∙ passed_over p _ R.is _ l _ e s.fits.2 _ s.whole_value.0 _ _ _ _ _ _ n f.0 f.1 f.2,
    )

pub returns : goal.returns
returns c = let turn = c.loop-off in (omega arith, λ p R l e n. turn.invariant.4 p R l e n ∙ rows_end p _ (λ (i : ℕ). bit _ _) _ _ _ (omega arith))
