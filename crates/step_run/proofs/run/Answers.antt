use Prim.Native.Nat.{ℕ, suc}
use mathlib.Core.Path.{◌≡◌, refl, sym, ap, ◌∙◌}
use native.Mathlib.Numerals.{add-one}
use native.Mathlib.Omega.{arith}
use lib.ListN.{length, get_or, drop}
use Rattle.definitions.specs.Refusal.{refused, accepted}
use Rattle.definitions.specs.Problem.Strips.{run_from}
use Rattle.bits.specs.Table.{bit}
use Rattle.step_run.specs.RunLaws.{none_run, not_run, step_run, left_run, end_run, answer_is, end_done, end_no_action, end_not_now, end_no_goal, run_done, run_no_goal}
use Rattle.step_run.specs.declared.End.TheVariants.{Done, NoAction, NotNow, NoGoal}
use Rattle.step_run.proofs.run.Goals as goal

pub loop-i-init : goal.loop-i-init
loop-i-init c = (omega arith, refl, λ p is h. refl)

pub overflow_cast-k : goal.overflow_cast-k
overflow_cast-k c = omega (arith, c.type_inv.steps c.loop-i.i)

pub returns-then-is_nothing : goal.returns-then-is_nothing
returns-then-is_nothing c =
    λ p is h.
    answer_is (run_from p (bit c.args.state.now) 0 c.args.steps.now) (NoAction c.loop-i.i) (bit c.loop-i.state) (refused 13 c.loop-i.i)
    (c.loop-i.invariant.2 p is h ∙ left_run p (bit c.loop-i.state) c.loop-i.i c.args.steps.now (omega arith)
    ∙ none_run p c.args.table.now is (bit c.loop-i.state) c.loop-i.i (get_or c.args.steps.now c.loop-i.i 0)
    (drop (suc c.loop-i.i) c.args.steps.now) c.action_at-a.result (c.action_at-a.ensures.1 p is)
    (sym c.is_nothing.ensures ∙ c.if-is_nothing.true))
    (end_no_action c.loop-i.i)

pub returns-then-not-may_take : goal.returns-then-not-may_take
returns-then-not-may_take c =
    let action_at_lem = c.action_at-a in λ p is h.
    answer_is (run_from p (bit c.args.state.now) 0 c.args.steps.now) (NotNow c.loop-i.i) (bit c.loop-i.state) (refused 14 c.loop-i.i)
    (c.loop-i.invariant.2 p is h ∙ left_run p (bit c.loop-i.state) c.loop-i.i c.args.steps.now (omega arith)
    ∙ not_run p c.args.table.now is (bit c.loop-i.state) c.loop-i.i (get_or c.args.steps.now c.loop-i.i 0)
    (drop (suc c.loop-i.i) c.args.steps.now) action_at_lem.result (action_at_lem.ensures.1 p is)
    (sym c.is_nothing.ensures ∙ c.if-is_nothing.false)
    (sym c.if-not-may_take.true ∙ c.may_take.ensures))
    (end_not_now c.loop-i.i)

pub loop-i-preserved : goal.loop-i-preserved
loop-i-preserved c =
    let is-nothing = c.is_nothing in let action_at_lem = c.action_at-a in (
      omega arith,
      c.take.auto.state ∙ c.loop-i.invariant.1,
      λ p is h.
          c.loop-i.invariant.2 p is h ∙ left_run p (bit c.loop-i.state) c.loop-i.i c.args.steps.now (omega arith)
          ∙ step_run p c.args.table.now is (bit c.loop-i.state) c.loop-i.i (get_or c.args.steps.now c.loop-i.i 0)
          (drop (suc c.loop-i.i) c.args.steps.now) action_at_lem.result (action_at_lem.ensures.1 p is) (bit c.take.new.state)
          (length c.loop-i.state) (omega (arith, c.loop-i.invariant.1, h))
          (sym is-nothing.ensures ∙ c.if-is_nothing.false)
          (sym c.if-not-may_take.false ∙ c.may_take.ensures)
          c.take.ensures
          ∙ ap (λ (m : ℕ). run_from p (bit c.take.new.state) m (drop m c.args.steps.now)) (sym (add-one c.loop-i.i)),
    )

pub returns-then-test : goal.returns-then-test
returns-then-test c =
    let all : c.loop-i.i ≡ length c.args.steps.now = omega arith in λ p is h. rw all at (
    answer_is (run_from p (bit c.args.state.now) 0 c.args.steps.now) (Done c.loop-i.i) (bit c.loop-i.state) (accepted c.loop-i.i)
    (c.loop-i.invariant.2 p is h ∙ end_run p (bit c.loop-i.state) c.loop-i.i c.args.steps.now (omega arith) ∙ run_done p (bit c.loop-i.state) c.loop-i.i (sym c.test.ensures ∙ c.if-test.true))
    (end_done c.loop-i.i))

pub returns : goal.returns
returns c =
    let all : c.loop-i.i ≡ length c.args.steps.now = omega arith in λ p is h. rw all at (
    answer_is (run_from p (bit c.args.state.now) 0 c.args.steps.now) (NoGoal c.loop-i.i) (bit c.loop-i.state) (refused 15 c.loop-i.i)
    (c.loop-i.invariant.2 p is h ∙ end_run p (bit c.loop-i.state) c.loop-i.i c.args.steps.now (omega arith) ∙ run_no_goal p (bit c.loop-i.state) c.loop-i.i (sym c.test.ensures ∙ c.if-test.false))
    (end_no_goal c.loop-i.i))
