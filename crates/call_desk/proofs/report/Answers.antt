-- `call_desk::report` meets its contract: its head, the steps and their count, printed one after another. Assumes nothing.
use native.Mathlib.Omega.{arith}
use Rattle.call_desk.specs.Replied.{head_fits, steps_room, count_room, reported}
use Rattle.call_desk.proofs.report.Goals as goal

pub head-headed-requires : goal.head-headed-requires
head-headed-requires c = let R = c.requires.0 in (R.sound, R.spans, R.some_elements, R.few_elements, R.words_fit, omega (arith, head_fits _ _ _ c.args.m _ c.args.words.now _ R))

pub step_lines-listed-requires : goal.step_lines-listed-requires
step_lines-listed-requires c = let p = c.requires in (omega arith, steps_room _ _ _ c.args.m _ _ _ p.0 (λ j. omega (arith, c.type_inv.steps j)) _ _ _ p.1 c.head-headed.ensures)

pub ok_line-requires : goal.ok_line-requires
ok_line-requires c = let p = c.requires in count_room _ _ _ c.args.m _ _ _ p.0 (λ j. omega (arith, c.type_inv.steps j)) _ _ _ p.1 c.head-headed.ensures _ _ c.step_lines-listed.ensures _

pub returns : goal.returns
returns c =
    let p = c.requires in reported _ _ _ c.args.m _ _ _ p.0 (λ j. omega (arith, c.type_inv.steps j)) _ _ _ p.1 c.head-headed.ensures _ _ c.step_lines-listed.ensures _ _
    c.ok_line.ensures
