use mathlib.Core.Path.{◌∙◌}
use native.Mathlib.Omega.{arith}
use Rattle.definitions.specs.Problem.Atoms.{problem_of}
use Rattle.problem_table.specs.Lines.{relations_in}
use Rattle.eval_search.specs.Counts.{words_all, words_le}
use Rattle.eval_search.specs.Worded.{all_cells}
use Rattle.call_find.specs.Finds.{too_many, no_picks, picks_written, held_front}
use Rattle.call_find.proofs.search.Goals as goal

pub returns-then-cells-gt-CELLS : goal.returns-then-cells-gt-CELLS
returns-then-cells-gt-CELLS c = λ d a. rw c.at.ensures (too_many d _ _ (c.count_cells-cells.ensures ∙ all_cells (problem_of d) _ a.sought.is) c.if-cells-gt-CELLS.true)

pub copy-requires : goal.copy-requires
copy-requires c = let p = c.requires in let w = c.args.table.now in (p.3, omega (arith, p.2, words_all w, words_le w (relations_in w), c.count_cells-cells.ensures, c.if-cells-gt-CELLS.false))

pub returns-in_default : goal.returns-in_default
returns-in_default c = λ d a. rw c.at-in_default.ensures (no_picks d _ _ (c.count_cells-cells.ensures ∙ all_cells (problem_of d) _ a.sought.is) (omega (arith, c.if-cells-gt-CELLS.false)) _ (c.least_number.ensures d a) c.in_default.is)

pub returns : goal.returns
returns c =
    λ d a. picks_written d _ _ (c.count_cells-cells.ensures ∙ all_cells (problem_of d) _ a.sought.is) (omega (arith, c.if-cells-gt-CELLS.false)) _ (c.least_number.ensures d a) _ _ _ c.in-Some.is
    (held_front d _ a.sought _ (record { fits = c.requires.0; counted = c.count_cells-cells.ensures; few = omega (arith, c.if-cells-gt-CELLS.false) }) _ _ c.number_picks.ensures _ c.requires.2) c.copy.ensures.0
