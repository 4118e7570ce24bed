use Prim.Native.Nat.{ℕ, ◌+◌, ◌*◌}
use Rattle.bits.specs.Table.{bit}
use Rattle.meaning.specs.Deciding.{Knows}
use Rattle.meaning.specs.Planning.{rows_to}
use Rattle.problem_table.specs.Lines.{size_in}
use Rattle.problem_table.specs.NeedLaws.{row_values_lem, within_most}
use Rattle.step_truth.specs.TurnLaws.{part_turn, parts_end, whole_row, whole_rows}
use mathlib.Core.Path.{◌≡◌, refl, subst, ◌∙◌}
use native.Mathlib.Nat.{zero-mul, add-mul, one-mul}
use native.Mathlib.Omega.{arith}
use Rattle.step_truth.proofs.fill_parts.Goals as goal

pub bounds-table-0 : goal.bounds-table-0
bounds-table-0 c = omega (arith, c.requires.0.whole)

pub bounds-levels-v : goal.bounds-levels-v
bounds-levels-v c = omega (arith, c.requires.1.width)

pub loop-turn-init : goal.loop-turn-init
loop-turn-init c = (refl, rw (zero-mul (size_in c.args.table.now)) (λ p G F node N K. (K, λ i o. refl)))

pub overflow_mul-row : goal.overflow_mul-row
overflow_mul-row c = omega (arith, whole_row (size_in c.args.table.now) c.args.width c.loop-turn.turn c.loop-turn-test.true)

pub values_of-env-requires : goal.values_of-env-requires
values_of-env-requires c = let q = c.requires in record { n_nonzero = (q.0.some, q.1.width); levels = q.1.levels }

pub parts_word-own-requires : goal.parts_word-own-requires
parts_word-own-requires c = let q = c.requires in (q.0, q.1.parts, within_most _ c.values_of-env.result q.0.size c.values_of-env.ensures.1, q.1.levels _, q.0.size)

pub overflow_add-v : goal.overflow_add-v
overflow_add-v c = omega (arith, whole_row (size_in c.args.table.now) c.args.width c.loop-turn.turn c.loop-turn-test.true)

pub store-requires : goal.store-requires
store-requires c = (c.requires.0.some, c.requires.0.size)

pub loop-turn-preserved : goal.loop-turn-preserved
loop-turn-preserved c =
    let l = c.loop-turn in let q = c.requires in let n = size_in c.args.table.now in
    let next : (l.turn + 1) * n ≡ l.turn * n + n = omega (arith, add-mul l.turn 1 n, one-mul n) in (
      c.store.auto.words ∙ l.invariant.0,
      rw next (λ p G F node N K. let I = l.invariant.1 p G F node N K in let M = part_turn p G F _ _ node _ _ N _ _ _ refl q.3 _ refl q.0.some _ _ _ _ _ q.4 refl refl (whole_row n c.args.width l.turn c.loop-turn-test.true) (c.values_of-env.ensures.0 ∙ row_values_lem _ _ _) c.parts_word-own.ensures
          (λ h. c.store.ensures (omega (arith, h, l.invariant.0))) I.0 in (M.0, λ i o. M.1 i o ∙ I.1 i o)),
    )

pub returns : goal.returns
returns c =
    let l = c.loop-turn in let q = c.requires in let n = size_in c.args.table.now in λ p G F node N K.
    let all = whole_rows n c.args.width l.turn q.0.some (omega arith) in
    let I = l.invariant.1 p G F node N K in (subst (λ (i : ℕ). Knows p F (rows_to p G F node i) (bit l.state)) (parts_end p G F _ _ node _ _ N q.3 q.4 _ l.turn n refl q.0.some refl all.0 all.1) I.0, I.1)
