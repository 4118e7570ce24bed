use Prim.Native.Nat.{◌+◌}
use mathlib.Core.Path.{sym, ◌∙◌}
use native.Mathlib.Omega.{arith}
use borrow.Author.Rules.{rules}
use borrow.Author.Tests.{lt-ltb, le-ltb}
use lib.ListN.{get_or}
use Rattle.laws.specs.Lists.{any_yes, any_no, any_end, any_start}
use Rattle.call_monotone.proofs.some_function.Goals as goal

pub loop-i-init : goal.loop-i-init
loop-i-init c = (omega arith, any_start _ _, search rules)

pub overflow_add-first : goal.overflow_add-first
overflow_add-first c = omega (arith, c.requires.1)

pub offset_bounds-g-first : goal.offset_bounds-g-first
offset_bounds-g-first c = omega (arith, c.requires.1)

pub bounds-g-first : goal.bounds-g-first
bounds-g-first c = omega (arith, c.requires.1, c.loop-i.invariant.2)

pub returns-then-g-first-gt1 : goal.returns-then-g-first-gt1
returns-then-g-first-gt1 c = sym (c.loop-i.invariant.1 ∙ any_yes _ _ _ (omega arith) (lt-ltb 1 (get_or c.args.g.kind (c.args.first + c.loop-i.i) 0) (omega (arith, c.if-g-first-gt1.true))))

pub loop-i-preserved : goal.loop-i-preserved
loop-i-preserved c = (omega arith, c.loop-i.invariant.1 ∙ any_no _ _ _ (omega arith) (le-ltb 1 (get_or c.args.g.kind (c.args.first + c.loop-i.i) 0) (omega (arith, c.if-g-first-gt1.false))), c.loop-i.invariant.2)

pub returns : goal.returns
returns c = sym (c.loop-i.invariant.1 ∙ any_end _ _ _ (omega arith))
