-- `call_judge::judge_text_in` meets its contract: the case is refused, or words are lent that hold the picks of the text. Assumes nothing.
use Rattle.std.specs.Prelude.{Ok, Err, false, [], length, ◌≡◌}
use Rattle.std.proofs.Common.{ap, ◌∙◌}
use Rattle.bits.specs.Table.{bit}
use Rattle.read_sheets.specs.Reading.{PicksRoom}
use Rattle.std.proofs.iter.Serving.{serving}
use mathlib.Core.Path.{refl}
use Rattle.definitions.specs.Limits.{usual}
use native.Mathlib.Omega.{arith}
use Rattle.std.proofs.lemmas.Result.{err_from_is_err_and}
use Rattle.read_sheets.proofs.Loops.{no_label_words}
use Rattle.read_sheets.specs.Opening.{case_alone}
use Rattle.call_judge.specs.Calls.{accepted_in, few_elements, picks_asked, labels_said, call_case}
use Rattle.call_judge.proofs.judge_text_in.Goals as goal

pub read_filed-requires : goal.read_filed-requires
read_filed-requires c = let p = c.requires in (omega arith, p.0, no_label_words, p.1)

pub returns-in_err-o : goal.returns-in_err-o
returns-in_err-o c =
    let p = err_from_is_err_and c.from_residual.result c.from_residual.ensures.1 in
    rw (p.1, p.2) (call_case c.args.question.now c.args.site.now _ c.in_err-o.field-0.0 (case_alone usual c.args.question.now c.args.site.now (Err c.in_err-o.field-0.0) [] (λ _. false) (c.in_err-o.ensures usual refl)))

pub with_picks-requires-clause-few : goal.with_picks-requires-clause-few
with_picks-requires-clause-few c = few_elements _ _ _ _ (case_alone usual c.args.question.now c.args.site.now (Ok _) c.read_filed.new.labels _ (c.in_ok-o.ensures usual refl))

pub with_picks-requires-clause-takes : goal.with_picks-requires-clause-takes
with_picks-requires-clause-takes c = λ words room clear p is.
    let filed = c.in_ok-o.ensures usual refl in let read = case_alone usual c.args.question.now c.args.site.now (Ok _) c.read_filed.new.labels _ filed in
    let r : PicksRoom c.in_ok-o.o.sig c.in_ok-o.o.n (length p.now) = rw is (picks_asked _ _ _ _ read c.in_ok-o.o.n (length words) (omega arith) room) in
    let e : bit p.now ≡ (λ i. false) = ap bit is ∙ clear in
    let a = accepted_in _ _ _ _ read in let l = labels_said _ _ _ _ _ filed in
    grind serving
