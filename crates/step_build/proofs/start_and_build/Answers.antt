use mathlib.Core.Path.{◌∙◌}
use Rattle.definitions.specs.Problem.Atoms.{problem_of}
use Rattle.step_picks.specs.KindLaws.{kinds_are}
use Rattle.step_build.specs.BuildLaws.{build_kind, none_broken}
use Rattle.step_build.proofs.start_and_build.Goals as goal

pub returns-in-Some : goal.returns-in-Some
returns-in-Some c = λ x F G. rw c.at.ensures (build_kind x F _ (c.test_kinds.ensures (problem_of x) G.is ∙ kinds_are x G.case F G.picks _ G.picked) _ _ _ c.in-Some.is)

pub returns : goal.returns
returns c = λ x F G. c.build.ensures x F G (none_broken x F _ (c.test_kinds.ensures (problem_of x) G.is ∙ kinds_are x G.case F G.picks _ G.picked) c.in_default.is)
