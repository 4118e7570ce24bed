use mathlib.Core.Path.{refl, sym, ◌∙◌}
use native.Mathlib.Omega.{arith}
use borrow.Author.Rules.{rules}
use Rattle.step_picks.specs.WordLaws.{words_few}
use Rattle.step_picks.specs.CopyLaws.{count_start, count_next, copy_start, copy_next, copy_end, copied}
use Rattle.step_picks.proofs.copy_picks.Goals as goal

pub loop-r-init : goal.loop-r-init
loop-r-init c = (omega arith, refl, count_start _, copy_start _ _ _ _, search rules, search rules)

pub bounds-table-1 : goal.bounds-table-1
bounds-table-1 c = omega arith

pub copy_relation-requires : goal.copy_relation-requires
copy_relation-requires c =
    let f = words_few _ _ c.requires.fits _ c.relation_line-line.ensures in
    (f.1, f.2, omega (arith, c.requires.table_in_bounds, c.loop-r.invariant.1, c.loop-r.invariant.2, count_next _ _ _ c.loop-r.word _ c.relation_line-line.ensures c.loop-r-test.true))

pub words_in-word-requires : goal.words_in-word-requires
words_in-word-requires c = let relation-line = c.relation_line-line in (words_few _ _ c.requires.fits _ relation-line.ensures).2

pub overflow_add-word : goal.overflow_add-word
overflow_add-word c =
    let relation-line = c.relation_line-line in omega (
      arith,
      c.words_in-word.ensures,
      c.requires.table_in_bounds,
      c.loop-r.invariant.2,
      count_next _ _ _ c.loop-r.word _ relation-line.ensures
          c.loop-r-test.true,
    )

pub loop-r-preserved : goal.loop-r-preserved
loop-r-preserved c =
    let copy-relation = c.copy_relation in let relation-line = c.relation_line-line in let if1 = c.loop-r-test in (
      omega arith,
      copy-relation.auto.picks ∙ c.loop-r.invariant.1,
      omega (arith, c.loop-r.invariant.2, c.words_in-word.ensures, count_next _ _ _ c.loop-r.word _ relation-line.ensures if1.true),
      c.loop-r.invariant.3 ∙ copy_next _ _ _ _ _ _ _ _ _ relation-line.ensures if1.true copy-relation.ensures c.words_in-word.ensures,
      c.loop-r.invariant.4,
      c.loop-r.invariant.5,
    )

pub returns : goal.returns
returns c = copied _ _ _ _ c.requires.table_in_bounds (sym (c.loop-r.invariant.3 ∙ copy_end _ _ _ _ _ _ (omega arith)))
