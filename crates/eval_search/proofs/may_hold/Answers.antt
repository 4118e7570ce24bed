use mathlib.Core.Path.{◌∙◌}
use Rattle.definitions.specs.Problem.Atoms.{problem_of}
use Rattle.meaning.specs.Grounded.{good}
use Rattle.eval_search.specs.Worded.{all_cells, words_are}
use Rattle.eval_search.proofs.may_hold.Goals as goal

pub returns : goal.returns
returns c =
    λ d a j l. let s = a.sought in let p = problem_of d in
    c.true_words.ensures d _ _ j l s.accepted_case s.no_every a.lines_of a.facts_in
    (words_are p _ s.is (good d s.accepted_case) _ (c.requires.0.counted ∙ all_cells p _ s.is) _ _ _ _ c.fill.ensures c.fill-2.ensures j l)
