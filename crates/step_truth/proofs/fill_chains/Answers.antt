use Prim.Native.Nat.{ℕ, ◌+◌, ◌*◌}
use Rattle.bits.specs.Table.{bit}
use Rattle.meaning.specs.Deciding.{Knows}
use Rattle.meaning.specs.Planning.{rows_to}
use Rattle.problem_table.specs.Lines.{size_in}
use Rattle.rows.specs.Laws.{within_zeros}
use Rattle.step_prove.specs.TurnLaws.{zero_digits, rest_zeros}
use Rattle.step_truth.specs.TurnLaws.{chain_turn, chains_end, whole_row, whole_rows}
use mathlib.Core.Path.{◌≡◌, refl, subst, ◌∙◌}
use native.Mathlib.Nat.{zero-mul, add-mul, one-mul}
use native.Mathlib.Omega.{arith}
use Rattle.step_truth.proofs.fill_chains.Goals as goal

pub bounds-table-0 : goal.bounds-table-0
bounds-table-0 c = omega (arith, c.requires.0.whole)

pub loop-row-init : goal.loop-row-init
loop-row-init c = (refl, refl, within_zeros _ c.requires.0.some, rest_zeros _, zero_digits _ _, rw (zero-mul (size_in c.args.table.now)) (λ p G F node N K. (K, λ i o. refl)))

pub window-w-requires : goal.window-w-requires
window-w-requires c = let u = c.under_at-under.ensures in (u.0, u.1, c.requires.0.size)

pub overflow_mul-row : goal.overflow_mul-row
overflow_mul-row c = omega (arith, whole_row (size_in c.args.table.now) c.args.width c.loop-row.row c.loop-row-test.true)

pub overflow_add-v : goal.overflow_add-v
overflow_add-v c = omega (arith, whole_row (size_in c.args.table.now) c.args.width c.loop-row.row c.loop-row-test.true)

pub store-requires : goal.store-requires
store-requires c = (c.requires.0.some, c.requires.0.size)

pub loop-row-preserved : goal.loop-row-preserved
loop-row-preserved c =
    let l = c.loop-row in let d = c.advance in let q = c.requires in let n = size_in c.args.table.now in
    let next : (l.row + 1) * n ≡ l.row * n + n = omega (arith, add-mul l.row 1 n, one-mul n) in (
      c.store.auto.words ∙ l.invariant.0,
      d.auto.digits ∙ l.invariant.1,
      d.ensures.0,
      d.ensures.1,
      d.ensures.2 _ l.invariant.4,
      rw next (λ p G F node N K. let I = l.invariant.5 p G F node N K in let M = chain_turn p G F _ _ node _ _ N _ _ _ refl q.0.some q.0.size _ _ _ _ c.members_word-members.ensures c.window-w.ensures _ (c.under_at-under.ensures.2 _ l.invariant.4 (omega (arith, q.4))) _ _ q.4 refl
          (whole_row n c.args.width l.row c.loop-row-test.true) c.chain-own.ensures (λ h. c.store.ensures (omega (arith, h, l.invariant.0))) I.0 in (M.0, λ i o. M.1 i o ∙ I.1 i o)),
    )

pub returns : goal.returns
returns c =
    let l = c.loop-row in let q = c.requires in let n = size_in c.args.table.now in λ p G F node N K.
    let all = whole_rows n c.args.width l.row q.0.some (omega arith) in
    let I = l.invariant.5 p G F node N K in (subst (λ (i : ℕ). Knows p F (rows_to p G F node i) (bit l.state)) (chains_end p G F _ _ node _ _ N q.4 _ l.row n refl q.0.some refl all.0 all.1) I.0, I.1)
