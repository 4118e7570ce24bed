use Prim.Native.Nat.{◌+◌}
use mathlib.Core.Path.{◌≡◌, refl, ◌∙◌}
use native.Mathlib.Omega.{arith}
use Rattle.rows.specs.Laws.{within_zeros}
use Rattle.problem_table.specs.NeedLaws.{members_length}
use Rattle.step_prove.specs.TurnLaws.{rest_zeros}
use Rattle.step_write.specs.StepLaws.{rows_none, rows_more, rows_all}
use Rattle.step_write.specs.RowLaws.{rows_passed}
use Rattle.step_write.proofs.write_rows.Goals as goal

-- src/lib.rt:125:13
pub bounds-table-0 : goal.bounds-table-0
bounds-table-0 c = omega (arith, c.requires.0.whole)

-- src/lib.rt:128:5
pub digits_at-requires : goal.digits_at-requires
digits_at-requires c = let q = c.requires in (q.0.some, omega (arith, q.0.size), q.1.width, refl, within_zeros _ q.0.some, rest_zeros _)

-- src/lib.rt:131:5
pub loop-row-init : goal.loop-row-init
loop-row-init c = let d = c.digits_at in (omega arith, c.requires.5, omega arith, refl, d.auto.digits, d.ensures.0, d.ensures.1, d.ensures.2, λ p G F node width R h. rows_none p F node _ _ _)

-- src/lib.rt:132:9
pub write_row-k-requires : goal.write_row-k-requires
write_row-k-requires c = let q = c.requires in let i = c.loop-row.invariant in (q.0, q.1, q.2, q.3, omega (arith, q.6), omega (arith, q.7, q.6), q.4, c.tries-m.ensures.0, i.4, i.5, i.6, q.8)

-- src/lib.rt:133:13
pub next_row-next-requires : goal.next_row-next-requires
next_row-next-requires c = let q = c.requires in (q.3, omega arith, q.6)

-- src/lib.rt:134:9
pub move_to-requires : goal.move_to-requires
move_to-requires c = let q = c.requires in let i = c.loop-row.invariant in (q.0.some, omega (arith, q.0.size), q.1.width, omega (arith, q.6), i.4, i.5, i.6)

-- src/lib.rt:131:5
pub loop-row-smaller : goal.loop-row-smaller
loop-row-smaller c = omega (arith, c.next_row-next.ensures.0)

-- src/lib.rt:131:5
pub loop-row-preserved : goal.loop-row-preserved
loop-row-preserved c =
    let l = c.loop-row in let q = c.write_row-k in let d = c.move_to in let f = c.next_row-next.ensures in let t = c.tries-m in (
      omega (arith, f.0),
      f.1,
      omega (arith, q.ensures.0, f.0),
      q.auto.steps ∙ l.invariant.3,
      d.auto.digits ∙ l.invariant.4,
      d.ensures.0,
      d.ensures.1,
      d.ensures.2 l.invariant.7,
      λ p G F node width R h. rows_passed p G F _ node _ _ _ R _ (l.row + 1) _ (omega arith) (omega (arith, f.0)) (omega (arith, f.1)) (λ i a u. f.2 i (omega arith) u) _ _ _ _
          (rows_more p F node _ l.row 1 l.invariant.0 _ _ _ _ _ _ (l.invariant.8 p G F node width R h) (q.ensures.1 p G F node _ R (t.ensures.1 _ _ _ (members_length _ _ _)) l.invariant.7 (omega arith))),
    )

-- src/lib.rt:112:1
pub shape_of-steps : goal.shape_of-steps
shape_of-steps c = c.loop-row.invariant.3

-- src/lib.rt:112:1
pub returns : goal.returns
returns c = let l = c.loop-row in let a = c.args in (omega arith, λ p G F node width R h. let e : l.row ≡ a.end = omega arith in rows_all p F node _ _ _ _ _ _ _ e (l.invariant.8 p G F node width R h))
