use native.Mathlib.Omega.{arith}
use Rattle.step_build.specs.MarkLaws.{acts_few, every_few, some_relation, in_said, last_number, in_is, in_number}
use Rattle.step_build.proofs.mark_in.Goals as goal

pub overflow_sub-relation : goal.overflow_sub-relation
overflow_sub-relation c = omega (arith, some_relation _ _ c.requires.1)

pub overflow_add-last : goal.overflow_add-last
overflow_add-last c = omega (arith, acts_few _ c.requires.0 _ _ c.node_line-last.ensures)

pub overflow_add-last-2 : goal.overflow_add-last-2
overflow_add-last-2 c =
    omega (
      arith,
      acts_few _ c.requires.0 _ _ c.node_line-last.ensures,
      c.requires.1,
      every_few _ c.requires.0,
    )

pub step-requires : goal.step-requires
step-requires c =
    record {
      fits = (c.requires.0, c.requires.2);
      act_fits = (
        omega (
          arith,
          c.requires.0.relations,
          some_relation _ _ c.requires.1,
        ),
        omega (
          arith,
          c.requires.1,
          every_few _ c.requires.0,
        ),
      );
    }

pub returns : goal.returns
returns c = let q = c.requires in let s = c.step in let n = c.node_line-last in (s.ensures.0, λ p G R. s.ensures.1 p _ R (in_is p _ R.is G _ q.1) (in_said _ _ _ (last_number p _ R.is G _ q.1)) (in_number p _ R.is G _ q.1 _ n.ensures))
