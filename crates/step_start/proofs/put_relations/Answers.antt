use Prim.Native.Nat.{◌+◌}
use mathlib.Core.Path.{◌≡◌, refl, ap₂, ◌∙◌}
use native.Mathlib.Omega.{arith}
use Rattle.problem_table.specs.Lines.{relations_in}
use Rattle.step_start.specs.RowLaws.{relations_none, relations_step, first_none, first_step, first_few}
use Rattle.step_start.proofs.put_relations.Goals as goal

pub bounds-table-1 : goal.bounds-table-1
bounds-table-1 c = omega (arith, c.requires.whole)

pub loop-r-init : goal.loop-r-init
loop-r-init c = (omega arith, refl, first_none _, λ h. relations_none _ _ _)

pub put_relation-requires : goal.put_relation-requires
put_relation-requires c = let p = c.requires in (p, omega (arith, p.relations), omega (arith, p.relations, c.loop-r.invariant.2, first_few _ p c.loop-r.r))

pub words-first-requires : goal.words-first-requires
words-first-requires c = let p = c.requires in (p, omega (arith, p.relations))

pub overflow_add-first : goal.overflow_add-first
overflow_add-first c = let r = c.loop-r.r in omega (arith, c.requires.relations, c.loop-r.invariant.2, c.words-first.ensures, first_step c.args.table.now r, first_few _ c.requires (r + 1))

pub loop-r-preserved : goal.loop-r-preserved
loop-r-preserved c = let i = c.loop-r.invariant in let put = c.put_relation in (omega arith, put.auto.state ∙ i.1, ap₂ ◌+◌ i.2 c.words-first.ensures ∙ first_step _ _, λ h. relations_step _ _ _ _ _ i.2 (i.3 h) (put.ensures (rw i.1 (h _ (omega arith)))))

pub shape_of-state : goal.shape_of-state
shape_of-state c = c.loop-r.invariant.1

pub returns : goal.returns
returns c = λ h. let e : c.loop-r.r ≡ relations_in c.args.table.now = omega arith in rw e at (c.loop-r.invariant.3 h)
