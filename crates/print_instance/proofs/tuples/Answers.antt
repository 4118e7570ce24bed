use native.Mathlib.Omega.{arith}
use Rattle.problem_layout.specs.LaidLaws.{pow_fits}
use Rattle.print_bytes.specs.Emitted.{begin, recut, next as then, finished}
use Rattle.print_words.specs.Loops.{flat_next, flat_end}
use Rattle.print_instance.specs.Texts.{run_text, tuples_first}
use Rattle.print_instance.proofs.tuples.Goals as goal

pub overflow_sub-k : goal.overflow_sub-k
overflow_sub-k c = omega (arith, c.requires.1.placed)

pub power-runs-requires : goal.power-runs-requires
power-runs-requires c = (c.requires.1.some, pow_fits c.args.k.n _ c.requires.1.few (omega (arith, c.requires.1.places)))

pub loop-before-init : goal.loop-before-init
loop-before-init c = (omega arith, begin _ (tuples_first _ _ _ _ _ c.power-runs.ensures) (omega arith) (omega arith))

pub run-next-requires : goal.run-next-requires
run-next-requires c = (c.requires.0, c.requires.1, omega (arith, c.power-runs.ensures))

pub loop-before-preserved : goal.loop-before-preserved
loop-before-preserved c = (omega arith, then _ _ (recut (flat_next (run_text c.args.question.now c.args.names.now c.args.facts.now c.args.k) c.loop-before.before _ (omega arith)) c.loop-before.invariant.1) c.run-next.ensures)

pub shape_of-out : goal.shape_of-out
shape_of-out c = c.loop-before.invariant.1.size

pub returns : goal.returns
returns c = finished (recut (flat_end (run_text c.args.question.now c.args.names.now c.args.facts.now c.args.k) c.loop-before.before _ (omega arith)) c.loop-before.invariant.1)
