-- `read_question::grow` meets its contract.
use Rattle.read_question.proofs.Judging.{room_rel, room_type, room_choose, room_every, grown_rel, grown_type, grown_choose, grown_every, grown_other}
use mathlib.Core.Path.{◌∙◌}
use Rattle.read_question.specs.Drafts.{pushed}
use native.Mathlib.Omega.{arith}
use Rattle.read_question.proofs.grow.Goals as goal

pub overflow_add-result : goal.overflow_add-result
overflow_add-result c = omega (arith, room_rel _ c.requires c.in-Rel.is)

pub push-requires : goal.push-requires
push-requires c = omega (arith, room_rel _ c.requires c.in-Rel.is)

pub push_type-requires : goal.push_type-requires
push_type-requires c = room_type _ c.requires c.in-Typed.is

pub sorts_of-requires : goal.sorts_of-requires
sorts_of-requires c = let r = room_choose _ c.requires c.in-Choose.is in (r.1, r.2)

pub overflow_add-g : goal.overflow_add-g
overflow_add-g c = omega (arith, (room_choose _ c.requires c.in-Choose.is).0)

pub overflow_add-result-in-Choose : goal.overflow_add-result-in-Choose
overflow_add-result-in-Choose c = omega (arith, (room_choose _ c.requires c.in-Choose.is).0)

pub push-requires-in-Choose : goal.push-requires-in-Choose
push-requires-in-Choose c = omega (arith, (room_choose _ c.requires c.in-Choose.is).0)

pub overflow_add-g-in-Every : goal.overflow_add-g-in-Every
overflow_add-g-in-Every c = omega (arith, room_every _ c.requires c.in-Every.is)

pub push-requires-in-Every : goal.push-requires-in-Every
push-requires-in-Every c = omega (arith, room_every _ c.requires c.in-Every.is)

pub returns-in-Rel : goal.returns-in-Rel
unfolding pushed
returns-in-Rel c = rw c.push.ensures (grown_rel _ _ c.in-Rel.is)

pub returns-in-Typed : goal.returns-in-Typed
returns-in-Typed c = c.push_type.ensures ∙ grown_type _ _ c.in-Typed.is

pub returns-in-Choose : goal.returns-in-Choose
unfolding pushed
returns-in-Choose c = rw c.push-in-Choose.ensures (grown_choose _ _ c.in-Choose.is c.sorts_of.ensures)

pub returns-in-Every : goal.returns-in-Every
unfolding pushed
returns-in-Every c = rw c.push-in-Every.ensures (grown_every _ _ c.in-Every.is)

pub returns-in_default : goal.returns-in_default
returns-in_default c = grown_other _ _ _ c.in_default.not-Rel c.in_default.not-Typed c.in_default.not-Choose c.in_default.not-Every
