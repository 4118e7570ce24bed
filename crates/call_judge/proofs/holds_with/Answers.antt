-- `call_judge::holds_with` meets its contract: the lines that were filled for the value are evaluated. Assumes nothing.
use mathlib.Core.Path.{refl}
use Rattle.problem_layout.specs.LaidLaws.{most_zeros}
use Rattle.call_judge.specs.Judges.{lines_of}
use Rattle.call_judge.proofs.holds_with.Goals as goal

pub fill-requires : goal.fill-requires
fill-requires c = let h = c.requires in let r = h.0 in (refl, most_zeros 1479 0, r.some, r.few, h.1, h.2, r.types_le, r.there, r.fit, h.4)

pub rule_is_true-requires : goal.rule_is_true-requires
rule_is_true-requires c = let h = c.requires in let s = h.3 in record { case = s.case; accepted = s.accepted_case; value = _; lines = lines_of _ _ _ _ _ _ _ _ h.0 h.2 s.inputs _ c.fill.ensures }

pub returns : goal.returns
returns c = λ d F j. let h = c.requires in c.rule_is_true.ensures d _ F j.accepted_case j.picks (lines_of _ _ _ _ _ _ _ _ h.0 h.2 j.inputs _ c.fill.ensures) j.facts_in j.picked
