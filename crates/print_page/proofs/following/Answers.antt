use native.Mathlib.Omega.{arith}
use borrow.Author.Rules.{rules}
use mathlib.Core.Path.{refl}
use Rattle.print_bytes.specs.Emitted.{begin, recut, next as then, finished}
use Rattle.print_page.specs.Bodies.{bytes_next, bytes_end, covers_early, covers_all}
use Rattle.print_page.proofs.following.Goals as goal

pub loop-i-init : goal.loop-i-init
loop-i-init c = (refl, λ p ls is N s. begin _ refl (omega arith) (omega arith))

pub shape_of-out-then-out-next : goal.shape_of-out-then-out-next
shape_of-out-then-out-next c = c.loop-i.invariant.0

pub returns-then-out-next : goal.returns-then-out-next
returns-then-out-next c = λ p ls is N s. covers_early (c.loop-i.invariant.1 p ls is N s) (omega (arith, c.loop-i.invariant.0))

pub bounds-steps-i : goal.bounds-steps-i
bounds-steps-i c = omega arith

pub overflow_cast-k : goal.overflow_cast-k
overflow_cast-k c = omega (arith, c.type_inv.steps c.loop-i.i)

pub step-next-requires : goal.step-next-requires
step-next-requires c = c.requires

pub loop-i-preserved : goal.loop-i-preserved
loop-i-preserved c = (
  search rules,
  λ p ls is N s. then _ _ (recut (bytes_next ls p _ c.loop-i.i _ (omega arith) refl)
      (c.loop-i.invariant.1 p ls is N s)) (c.step-next.ensures p ls is N s),
)

pub shape_of-out : goal.shape_of-out
shape_of-out c = c.loop-i.invariant.0

pub returns : goal.returns
returns c = λ p ls is N s. covers_all (c.loop-i.invariant.1 p ls is N s).here (finished (recut (bytes_end ls p _ c.loop-i.i (omega arith)) (c.loop-i.invariant.1 p ls is N s)))
