use mathlib.Core.Path.{refl, ◌∙◌}
use native.Mathlib.Omega.{arith}
use lib.ListN.{length-set}
use Rattle.problem_layout.specs.RangeLaws.{counted_first, counted_next, counted_all}
use Rattle.problem_layout.proofs.ranges_of.Goals as goal

pub loop-k-init : goal.loop-k-init
loop-k-init c = (omega arith, refl, refl, counted_first _ _ c.requires.0 c.requires.1, c.requires.2)

pub range_of-m-requires : goal.range_of-m-requires
range_of-m-requires c = (c.requires.0, c.requires.1, omega (arith, c.requires.3, c.loop-k-test.true), omega (arith, c.requires.2, c.loop-k-test.true))

pub loop-k-preserved : goal.loop-k-preserved
loop-k-preserved c =
    let l = c.loop-k in let e = c.range_of-m.ensures in (
      omega arith,
      length-set l.count _ _ ∙ l.invariant.1,
      length-set l.top _ _ ∙ l.invariant.2,
      counted_next _ _ c.requires.0 c.requires.1 _ _ _ _ _ (omega arith) l.invariant.1 l.invariant.2 (omega (arith, e.0)) (omega (arith, e.1)) (omega (arith, e.2)) (omega (arith, e.3))
          l.invariant.3,
      l.invariant.4,
    )

pub returns : goal.returns
returns c = let l = c.loop-k in counted_all _ _ c.requires.0 c.requires.1 _ _ _ _ (omega arith) l.invariant.3
