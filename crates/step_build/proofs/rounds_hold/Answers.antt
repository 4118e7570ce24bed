use Prim.Native.Nat.{suc, ◌<◌}
use mathlib.Core.Path.{◌≡◌, refl, sym, ◌∙◌}
use native.Mathlib.Omega.{arith}
use Rattle.definitions.specs.Problem.Truth.{values}
use Rattle.definitions.specs.Problem.Atoms.{problem_of}
use Rattle.meaning.specs.Grounded.{good}
use Rattle.step_prove.specs.Following.{out}
use Rattle.step_build.specs.Following.{round_holds}
use Rattle.step_build.specs.RoundLaws.{hold_next, next_state, rounds_are, holds_start, holds_not, holds_last}
use Rattle.step_build.specs.Holding.{ready_as, building_as}
use Rattle.step_build.proofs.rounds_hold.Goals as goal

pub overflow_sub-last : goal.overflow_sub-last
overflow_sub-last c = omega (arith, c.rounds-last.ensures.0)

pub loop-k-init : goal.loop-k-init
loop-k-init c = (omega arith, refl, refl, λ x F B e. (e, holds_start x F))

pub end_round-requires : goal.end_round-requires
end_round-requires c = (c.requires, omega arith)

pub returns-else-prove_round : goal.returns-else-prove_round
returns-else-prove_round c =
    let l = c.loop-k in let q = c.prove_round in λ x F B e. let I = l.invariant.3 x F B e in let v = rounds_are x F _ _ B _ c.rounds-last.ensures.2 in let h : l.k < values x = omega arith in
    holds_not x F _ _ B _ _ _ h I.1 (q.ensures x F _ (building_as B l.invariant.1) h I.0).0 c.if-prove_round.false

pub loop-k-preserved : goal.loop-k-preserved
loop-k-preserved c =
    let l = c.loop-k in let q = c.prove_round in let t = c.end_round in (
      omega arith,
      t.auto.state ∙ q.auto.state ∙ l.invariant.1,
      t.auto.steps ∙ l.invariant.2,
      λ x F B e. let I = l.invariant.3 x F B e in let v = rounds_are x F _ _ B _ c.rounds-last.ensures.2 in let h : l.k < values x = omega arith in
          let Q = q.ensures x F _ (building_as B l.invariant.1) h I.0 in (
            next_state x F _ _ _ _ (out _ _ _) Q.1 (t.ensures.1 (problem_of x) (good x B.case) (ready_as B.ready (q.auto.state ∙ l.invariant.1))),
            I.1 ∙ hold_next (round_holds x F) _ _ h (sym Q.0 ∙ c.if-prove_round.true),
          ),
    )

pub returns : goal.returns
returns c =
    let l = c.loop-k in λ x F B e. let I = l.invariant.3 x F B e in let v = rounds_are x F _ _ B _ c.rounds-last.ensures.2 in
    let h : suc l.k ≡ values x = omega (arith, c.rounds-last.ensures.0) in
    holds_last x F _ _ B _ _ _ h I.1 (c.prove_round-2.ensures x F _ (building_as B l.invariant.1) (omega arith) I.0)
