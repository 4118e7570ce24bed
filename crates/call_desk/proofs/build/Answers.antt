-- `call_desk::build` meets its contract: the case is refused, the picks are, or steps are built from them. Assumes nothing.
use Rattle.std.proofs.lemmas.Result.{err_from_is_err_and}
use mathlib.Core.Path.{refl}
use Rattle.std.specs.Prelude.{[], Err}
use native.Mathlib.Omega.{arith}
use Rattle.problem_layout.specs.LaidLaws.{most_zeros}
use Rattle.problem_table.specs.Lines.{table_length}
use Rattle.read_sheets.proofs.Loops.{zeros_clear, no_label_words}
use Rattle.open_case.specs.Fronts.{filed_alone}
use Rattle.open_case.specs.Rooms.{few_room}
use Rattle.call_desk.specs.Known.{own, case_known, picks_roomy}
use Rattle.call_desk.specs.Planned.{plan_refused, text_refused, picks_taken, is_picked}
use borrow.Author.Rules.{rules}
use Rattle.call_desk.proofs.build.Goals as goal

pub open_early-requires : goal.open_early-requires
open_early-requires c = record { facts_room = (few_room _, no_label_words, zeros_clear 512); table_len = (search rules, most_zeros table_length 0) }

pub returns-in_err-f : goal.returns-in_err-f
returns-in_err-f c =
    let p = err_from_is_err_and c.from_residual.result c.from_residual.ensures.1 in
    rw (p.1, p.2) (plan_refused _ _ _ _ _ (filed_alone own _ _ (Err _) [] [] [] c.in_err-f.ensures), refl)

pub picks-requires : goal.picks-requires
picks-requires c =
    let K = case_known _ _ _ _ _ _ c.in_ok-f.ensures in
    record { sound_signature = (K.held.holds.sound, K.held.holds.few_elements, picks_roomy _ _ _ _ _ _ K _ (omega arith), zeros_clear 256); labels_are = (K.filed.labels, K.labelled) }

pub returns-in_err-picks : goal.returns-in_err-picks
returns-in_err-picks c =
    let p = err_from_is_err_and c.from_residual-in_err-picks.result c.from_residual-in_err-picks.ensures.1 in
    let K = case_known _ _ _ _ _ _ c.in_ok-f.ensures in
    rw (p.1, p.2) (text_refused _ _ _ _ _ _ K _ _ _ (c.in_err-picks.ensures K.filed.labels K.labelled), refl)

pub build_case-requires : goal.build_case-requires
build_case-requires c =
    let K = case_known _ _ _ _ _ _ c.in_ok-f.ensures in
    let s = c.requires in (is_picked _ _ _ _ _ _ K _ _ _ (c.in_ok-picks.ensures K.filed.labels K.labelled) s.0, omega arith, s.1)

pub returns : goal.returns
returns c =
    let K = case_known _ _ _ _ _ _ c.in_ok-f.ensures in
    c.build_case.ensures _ _ K (picks_taken _ _ _ _ _ _ K _ _ _ (c.in_ok-picks.ensures K.filed.labels K.labelled)).1
