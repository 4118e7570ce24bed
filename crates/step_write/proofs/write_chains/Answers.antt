use Prim.Native.Nat.{◌+◌, ◌*◌}
use mathlib.Core.Path.{◌≡◌, refl, ◌∙◌}
use native.Mathlib.Omega.{arith}
use native.Mathlib.Nat.{add-mul, one-mul}
use Rattle.problem_table.specs.Lines.{size_in}
use Rattle.step_prove.specs.TurnLaws.{acts_low}
use Rattle.step_truth.specs.TurnLaws.{whole_row, whole_rows, div_mono}
use Rattle.step_write.specs.StepLaws.{rows_none, rows_more, rows_all}
use Rattle.step_write.specs.RowLaws.{chain_few, chain_end}
use Rattle.step_write.proofs.write_chains.Goals as goal

pub bounds-table-0 : goal.bounds-table-0
bounds-table-0 c = omega (arith, c.requires.0.whole)

pub returns-then-n-v : goal.returns-then-n-v
returns-then-n-v c = (omega arith, λ p G F node width R h a b. absurd (omega (arith, chain_few p G F _ node _ _ _ R c.requires.4)))

pub loop-row-init : goal.loop-row-init
loop-row-init c = (omega arith, refl, λ p G F node width R h whole. (omega (arith, whole), rows_all p F node _ _ _ _ _ _ _ whole (rows_none p F node _ _ _)))

pub overflow_mul-row : goal.overflow_mul-row
overflow_mul-row c = omega (arith, c.requires.6, whole_row (size_in c.args.table.now) c.args.end c.loop-row.row c.loop-row-test.true)

pub overflow_mul-row-in-loop-row : goal.overflow_mul-row-in-loop-row
overflow_mul-row-in-loop-row c =
    let q = c.requires in let l = c.loop-row in let n = size_in c.args.table.now in
    let fits = whole_row n c.args.end l.row c.loop-row-test.true in let low = acts_low l.row c.args.v.count n (l.row * n) c.if-n-v.false refl in
    omega (arith, q.6, fits, low)

pub overflow_add-v : goal.overflow_add-v
overflow_add-v c =
    let q = c.requires in let l = c.loop-row in let n = size_in c.args.table.now in
    let fits = whole_row n c.args.end l.row c.loop-row-test.true in let low = acts_low l.row c.args.v.count n (l.row * n) c.if-n-v.false refl in
    omega (arith, q.2, q.6, fits, low)

pub write_chain-k-requires : goal.write_chain-k-requires
write_chain-k-requires c =
    let q = c.requires in let l = c.loop-row in let n = size_in c.args.table.now in let fits = whole_row n c.args.end l.row c.loop-row-test.true in
    let low = acts_low l.row c.args.v.count n (l.row * n) c.if-n-v.false refl in
    (q.0, q.8, omega (arith, q.0.size), q.3, omega (arith, q.6, fits), omega (arith, q.2, q.6, low, fits), omega (arith, q.7, q.6, fits))

pub loop-row-preserved : goal.loop-row-preserved
loop-row-preserved c =
    let l = c.loop-row in let q = c.requires in let f = c.write_chain-k in let n = size_in c.args.table.now in
    let fits = whole_row n c.args.end l.row c.loop-row-test.true in
    let next : (l.row + 1) * n ≡ l.row * n + n = omega (arith, add-mul l.row 1 n, one-mul n) in
    rw next (
      omega (arith, f.ensures.0, c.if-n-v.false),
      f.auto.steps ∙ l.invariant.1,
      λ p G F node width R h whole. let I = l.invariant.2 p G F node width R h whole in
          (omega (arith, I.0), rows_more p F node _ (l.row * n) _ I.0 _ _ _ _ _ _ I.1 (f.ensures.1 p G F node _ l.row R q.4 refl refl (omega (arith, h, fits)))),
    )

pub returns : goal.returns
returns c =
    let l = c.loop-row in let q = c.requires in let n = size_in c.args.table.now in
    let most = div_mono c.args.start c.args.end n q.0.some q.5 in
    let all = whole_rows n c.args.end l.row q.0.some (omega (arith, most)) in
    (omega (arith, all.0), λ p G F node width R h a b. rows_all p F node _ _ _ _ _ _ _ (chain_end p G F _ node _ _ _ R (l.row * n) l.row _ refl b all.0 all.1) (l.invariant.2 p G F node width R h a).1)
