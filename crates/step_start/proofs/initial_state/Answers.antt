-- `step_start::initial_state` meets its contract.
use borrow.Author.Rules.{rules}
use Rattle.problem_table.specs.ChangeLaws.{put_raise}
use Rattle.step_start.specs.InitialLaws.{begun}
use Rattle.step_start.specs.RowLaws.{atoms_few, atoms_words, every_few}
use Rattle.step_start.specs.Rows.{Room}
use mathlib.Core.Path.{sym, subst, ◌∙◌}
use native.Mathlib.Omega.{arith}
use Rattle.step_start.proofs.initial_state.Goals as goal

pub overflow_mul-count : goal.overflow_mul-count
overflow_mul-count c = omega (arith, c.every_tuples-count.ensures, every_few _ c.requires.fits)

pub overflow_add-end : goal.overflow_add-end
overflow_add-end c =
    omega (
      arith,
      c.every_tuples-count.ensures,
      every_few _ c.requires.fits,
      atoms_few _ _ c.node_line-end.ensures c.requires.fits,
    )

pub overflow_add-end-2 : goal.overflow_add-end-2
overflow_add-end-2 c =
    omega (
      arith,
      c.every_tuples-count.ensures,
      every_few _ c.requires.fits,
      atoms_few _ _ c.node_line-end.ensures c.requires.fits,
    )

pub fill-requires : goal.fill-requires
fill-requires c = omega (arith, atoms_words _ _ c.node_line-end.ensures _ c.every_tuples-count.ensures, c.requires.table_in_bounds)

pub returns : goal.returns
returns c =
    let p = c.put_relations in let r = c.raise in let f = c.fill in let s = c.requires in let m = atoms_words _ _ c.node_line-end.ensures _ c.every_tuples-count.ensures in
    begun _ _ _ _ _ s.fits (λ j. search rules) (λ j. omega (arith, c.type_inv.state j))
    (p.auto.state ∙ r.auto.words ∙ f.auto.words) m (omega (arith, m, s.table_in_bounds)) f.ensures.1
    (λ h. r.ensures (omega (arith, f.auto.words)) ∙ sym (put_raise _ _))
    (λ h. p.ensures (subst (Room _) (sym (r.auto.words ∙ f.auto.words)) h))
