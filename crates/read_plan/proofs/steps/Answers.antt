use native.Mathlib.Omega.{arith}
use mathlib.Core.Path.{refl}
use Rattle.read_plan.specs.Lines.{read_within}
use Rattle.read_plan.specs.Writing.{goes_first, line_whole, goes_on, goes_stop, goes_all, set_room}
use Rattle.read_plan.proofs.steps.Goals as goal

pub loop-at-init : goal.loop-at-init
loop-at-init c = (omega arith, omega arith, refl, omega (arith, read_within _ _ c.requires.s_value.1), refl, goes_first _ _ _ _ _)

pub find-e-requires : goal.find-e-requires
find-e-requires c = (omega arith, omega arith)

pub overflow_add-at : goal.overflow_add-at
overflow_add-at c = omega (arith, c.loop-at.invariant.3)

pub overflow_sub-e : goal.overflow_sub-e
overflow_sub-e c = omega (arith, (line_whole _ _ _ c.args.s.now _ c.loop-at.at c.loop-at.count _ c.loop-at.invariant.5 c.find-e.result (omega arith) c.find-e.ensures c.requires.posed.0 c.requires.posed.1 c.requires.s_value.0 c.requires.s_value.1).1)

pub line_step-requires : goal.line_step-requires
line_step-requires c = record { posed = c.requires.posed; a_le_e = (omega (arith, (line_whole _ _ _ c.args.s.now _ c.loop-at.at c.loop-at.count _ c.loop-at.invariant.5 c.find-e.result (omega arith) c.find-e.ensures c.requires.posed.0 c.requires.posed.1 c.requires.s_value.0 c.requires.s_value.1).1), omega (arith, (line_whole _ _ _ c.args.s.now _ c.loop-at.at c.loop-at.count _ c.loop-at.invariant.5 c.find-e.result (omega arith) c.find-e.ensures c.requires.posed.0 c.requires.posed.1 c.requires.s_value.0 c.requires.s_value.1).0), omega (arith, (line_whole _ _ _ c.args.s.now _ c.loop-at.at c.loop-at.count _ c.loop-at.invariant.5 c.find-e.result (omega arith) c.find-e.ensures c.requires.posed.0 c.requires.posed.1 c.requires.s_value.0 c.requires.s_value.1).0, c.loop-at.invariant.3)) }

pub overflow_add-count : goal.overflow_add-count
overflow_add-count c = omega (arith, c.loop-at.invariant.1, c.loop-at.invariant.3)

pub overflow_add-at-in-loop-at : goal.overflow_add-at-in-loop-at
overflow_add-at-in-loop-at c = omega (arith, (line_whole _ _ _ c.args.s.now _ c.loop-at.at c.loop-at.count _ c.loop-at.invariant.5 c.find-e.result (omega arith) c.find-e.ensures c.requires.posed.0 c.requires.posed.1 c.requires.s_value.0 c.requires.s_value.1).0, c.loop-at.invariant.3)

pub loop-at-smaller : goal.loop-at-smaller
loop-at-smaller c = omega (arith, (line_whole _ _ _ c.args.s.now _ c.loop-at.at c.loop-at.count _ c.loop-at.invariant.5 c.find-e.result (omega arith) c.find-e.ensures c.requires.posed.0 c.requires.posed.1 c.requires.s_value.0 c.requires.s_value.1).0, (line_whole _ _ _ c.args.s.now _ c.loop-at.at c.loop-at.count _ c.loop-at.invariant.5 c.find-e.result (omega arith) c.find-e.ensures c.requires.posed.0 c.requires.posed.1 c.requires.s_value.0 c.requires.s_value.1).1)

pub loop-at-preserved : goal.loop-at-preserved
loop-at-preserved c = (
  omega (arith, (line_whole _ _ _ c.args.s.now _ c.loop-at.at c.loop-at.count _ c.loop-at.invariant.5 c.find-e.result (omega arith) c.find-e.ensures c.requires.posed.0 c.requires.posed.1 c.requires.s_value.0 c.requires.s_value.1).0),
  omega (arith, (line_whole _ _ _ c.args.s.now _ c.loop-at.at c.loop-at.count _ c.loop-at.invariant.5 c.find-e.result (omega arith) c.find-e.ensures c.requires.posed.0 c.requires.posed.1 c.requires.s_value.0 c.requires.s_value.1).1, c.loop-at.invariant.1),
  c.loop-at.invariant.2,
  c.loop-at.invariant.3,
  set_room c.loop-at.out _ c.loop-at.count c.in-Some.k _ c.put.ensures c.loop-at.invariant.4,
  goes_on _ _ _ c.args.s.now _ c.loop-at.at c.loop-at.count _ c.loop-at.invariant.5 c.find-e.result (omega arith) c.find-e.ensures _ c.in-Some.ensures _ c.put.ensures,
)

pub shape_of-out-in_default : goal.shape_of-out-in_default
shape_of-out-in_default c = c.loop-at.invariant.4

pub returns-in_default : goal.returns-in_default
returns-in_default c = rw c.at.ensures (goes_stop _ _ _ c.args.s.now _ c.loop-at.at c.loop-at.count _ c.loop-at.invariant.5 c.find-e.result (omega arith) c.find-e.ensures c.in_default.ensures)

pub shape_of-out : goal.shape_of-out
shape_of-out c = c.loop-at.invariant.4

pub returns : goal.returns
returns c = goes_all _ _ _ c.args.s.now _ c.loop-at.at c.loop-at.count _ c.loop-at.invariant.5 (omega (arith, c.loop-at.invariant.0))
