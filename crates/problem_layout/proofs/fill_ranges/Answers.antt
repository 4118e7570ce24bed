use mathlib.Core.Path.{◌≡◌, refl, ◌∙◌}
use native.Mathlib.Omega.{arith}
use Rattle.problem_layout.specs.RangeLaws.{ranges_first, ranges_next}
use Rattle.problem_layout.proofs.fill_ranges.Goals as goal

pub fill_range-requires : goal.fill_range-requires
fill_range-requires c = omega (arith, c.requires.0, c.requires.1)

pub loop-k-init : goal.loop-k-init
loop-k-init c = (omega arith, refl, λ d e. e ∙ ranges_first _ _ _ c.requires.1 d, c.requires.2)

pub fill_members-requires : goal.fill_members-requires
fill_members-requires c =
    let t = c.loop-k-test.true in (
      omega (arith, c.requires.0, c.requires.1, t, c.loop-k.invariant.1, c.fill_range.auto.table),
      c.requires.1,
      omega (arith, c.requires.3, t),
      omega arith,
    )

pub loop-k-preserved : goal.loop-k-preserved
loop-k-preserved c =
    let l = c.loop-k in let f = c.fill_members in (
      omega (arith, c.loop-k-test.true),
      f.auto.table ∙ l.invariant.1,
      λ d e. ranges_next _ _ _ c.requires.1 _ _ _ d (l.invariant.2 d e) f.ensures,
      l.invariant.3,
    )

pub shape_of-table : goal.shape_of-table
shape_of-table c = c.loop-k.invariant.1 ∙ c.fill_range.auto.table

pub returns : goal.returns
returns c =
    let l = c.loop-k in let e : l.k ≡ c.args.types = omega arith in
    rw e at (l.invariant.2 c.args.table.now c.fill_range.ensures)
