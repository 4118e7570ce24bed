use native.Mathlib.Omega.{arith}
use mathlib.Core.Path.{refl}
use Rattle.definitions.specs.Problem.Atoms.{problem_of}
use Rattle.print_bytes.specs.Emitted.{begin, recut, next as then, finished}
use Rattle.print_plan.specs.Plans.{lines_next, lines_end}
use Rattle.print_plan.proofs.plan.Goals as goal

pub loop-k-init : goal.loop-k-init
loop-k-init c = λ case is N t. begin _ refl (omega arith) (omega arith)

pub step-next-requires : goal.step-next-requires
step-next-requires c = c.requires

pub loop-k-preserved : goal.loop-k-preserved
loop-k-preserved c = λ case is N t. then _ _ (recut (lines_next case (problem_of case) c.args.steps.now c.loop-k.k-index _ (omega arith) refl) (c.loop-k.invariant case is N t)) (c.step-next.ensures case (t c.loop-k.k-index (omega arith)).0 is N (t c.loop-k.k-index (omega arith)).1)

pub returns : goal.returns
returns c = λ case is N t. finished (recut (lines_end case (problem_of case) c.args.steps.now c.loop-k.k-index (omega arith)) (c.loop-k.invariant case is N t))
