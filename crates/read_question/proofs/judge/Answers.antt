-- `read_question::judge` meets its contract.
use Rattle.read_line.specs.Entries.{InText}
use Rattle.read_names.specs.Signatures.{types_of}
use Rattle.read_question.proofs.Judging.{judge_wrong, rel_late, rel_here, type_late, type_here, choose_closed, choose_here, every_here, judge_other}
use mathlib.Core.Path.{sym, subst, ◌∙◌}
use Rattle.read_question.proofs.judge.Goals as goal

pub returns-then-late : goal.returns-then-late
returns-then-late c = rel_late _ _ _ _ _ _ c.in-Rel.is (sym c.late.ensures ∙ c.if-late.true)

pub new_name-requires : goal.new_name-requires
unfolding InText
new_name-requires c = let w = subst (InText _ _) c.in-Rel.is c.requires.1 in (c.requires.0, w.0, w.1)

pub returns-then-late-2 : goal.returns-then-late-2
returns-then-late-2 c = type_late _ _ _ _ _ c.in-Typed.is (sym c.late-in-Typed.ensures ∙ c.if-late-2.true)

pub type_fault-requires : goal.type_fault-requires
unfolding InText
type_fault-requires c = let w = subst (InText _ _) c.in-Typed.is c.requires.1 in (c.requires.0.types_le, w.0, w.1)

pub returns-then-closed : goal.returns-then-closed
returns-then-closed c = choose_closed _ _ _ _ _ _ _ _ _ _ c.in-Choose.is (sym c.closed.ensures ∙ c.if-closed.true)

pub choose_fault-requires : goal.choose_fault-requires
unfolding InText
choose_fault-requires c = let w = subst (InText _ _) c.in-Choose.is c.requires.1 in (c.requires.0, w.0, w.1, λ h. (w.4 h).1)

pub every_fault-requires : goal.every_fault-requires
unfolding InText
every_fault-requires c = let w = subst (InText _ _) c.in-Every.is c.requires.1 in (c.requires.0, w.0, w.1)

pub returns-in-Wrong : goal.returns-in-Wrong
returns-in-Wrong c = judge_wrong _ _ _ c.in-Wrong.is

pub returns-else-late : goal.returns-else-late
returns-else-late c = rel_here _ _ _ _ _ _ c.in-Rel.is _ (sym c.late.ensures ∙ c.if-late.false) c.new_name.ensures

pub returns-else-late-2 : goal.returns-else-late-2
unfolding types_of
returns-else-late-2 c = type_here _ _ _ _ _ c.in-Typed.is _ (sym c.late-in-Typed.ensures ∙ c.if-late-2.false) c.type_fault.ensures

pub returns-else-closed : goal.returns-else-closed
returns-else-closed c = choose_here _ _ _ _ _ _ _ _ _ _ c.in-Choose.is _ (sym c.closed.ensures ∙ c.if-closed.false) c.choose_fault.ensures

pub returns-in-Every : goal.returns-in-Every
returns-in-Every c = every_here _ _ _ _ _ _ _ c.in-Every.is c.every_fault.ensures

pub returns-in_default : goal.returns-in_default
returns-in_default c = judge_other _ _ _ c.in_default.not-Wrong c.in_default.not-Rel c.in_default.not-Typed c.in_default.not-Choose c.in_default.not-Every
