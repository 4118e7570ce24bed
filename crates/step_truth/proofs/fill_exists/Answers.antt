use Prim.Native.Nat.{ℕ}
use Rattle.bits.specs.Table.{bit}
use Rattle.meaning.specs.Deciding.{Knows}
use Rattle.meaning.specs.Planning.{rows_to}
use Rattle.rows.specs.Laws.{within_zeros}
use Rattle.step_prove.specs.TurnLaws.{zero_digits, rest_zeros}
use Rattle.step_truth.specs.TurnLaws.{meet_turn}
use mathlib.Core.Path.{◌≡◌, refl, subst, ◌∙◌}
use native.Mathlib.Omega.{arith}
use Rattle.step_truth.proofs.fill_exists.Goals as goal

pub bounds-table-0 : goal.bounds-table-0
bounds-table-0 c = omega (arith, c.requires.0.whole)

pub loop-row-init : goal.loop-row-init
loop-row-init c = (omega arith, refl, refl, within_zeros _ c.requires.0.some, rest_zeros _, zero_digits _ _, λ p G F node N K. (K, λ i o. refl))

pub window-w-requires : goal.window-w-requires
window-w-requires c = let u = c.under_at-under.ensures in (u.0, u.1, c.requires.0.size)

pub loop-row-preserved : goal.loop-row-preserved
loop-row-preserved c =
    let l = c.loop-row in let d = c.advance in let q = c.requires in (
      omega arith,
      c.store.auto.words ∙ l.invariant.1,
      d.auto.digits ∙ l.invariant.2,
      d.ensures.0,
      d.ensures.1,
      d.ensures.2 _ l.invariant.5,
      λ p G F node N K. let I = l.invariant.6 p G F node N K in let M = meet_turn p G F _ _ node _ _ N _ _ _ refl q.0.some q.0.size _ _ _ _ c.members_word-members.ensures c.window-w.ensures _ (c.under_at-under.ensures.2 _ l.invariant.5 (omega (arith, q.4))) _ q.4
          (omega arith) c.meets-own.ensures (λ h. c.store.ensures (omega (arith, h, l.invariant.1))) I.0 in (M.0, λ i o. M.1 i o ∙ I.1 i o),
    )

pub shape_of-state : goal.shape_of-state
shape_of-state c = c.loop-row.invariant.1

pub returns : goal.returns
returns c = let l = c.loop-row in λ p G F node N K. let e : l.row ≡ c.args.width = omega arith in let I = l.invariant.6 p G F node N K in (subst (λ (i : ℕ). Knows p F (rows_to p G F node i) (bit l.state)) e I.0, I.1)
