-- `read_sheets::read_filed` meets its contract: each return is a law of `Opening`.
use native.Mathlib.Omega.{arith}
use borrow.Author.Rules.{rules}
use Rattle.std.proofs.lemmas.Result.{err_from_is_err_and}
use Rattle.read_sheets.proofs.Turns.{facts_room}
use Rattle.read_sheets.proofs.Loops.{no_member_words}
use Rattle.read_sheets.specs.Opening.{question_refused, site_refused, both_read}
use Rattle.read_sheets.proofs.read_filed.Goals as goal

pub returns-in_err-q : goal.returns-in_err-q
returns-in_err-q c =
    let p = err_from_is_err_and c.from_residual.result c.from_residual.ensures.1 in
    λ L e. rw (p.1, p.2) (question_refused L _ _ _ c.in_err-q.ensures)

pub site-requires : goal.site-requires
site-requires c =
    let sound = c.in_ok-q.ensures.2.sound in
    let room = c.requires.1 in (sound, search rules, λ k next r h. facts_room _ _ sound k _ (room k next r h), search rules, no_member_words, search rules)

pub returns-in_err-n : goal.returns-in_err-n
returns-in_err-n c =
    let p = err_from_is_err_and c.from_residual-in_err-n.result c.from_residual-in_err-n.ensures.1 in
    λ L e. rw (p.1, p.2) (site_refused L _ _ _ c.in_ok-q.ensures _ (c.in_err-n.ensures L e).0)

pub returns : goal.returns
returns c = λ L e. both_read L _ _ _ c.in_ok-q.ensures (omega arith) _ _ _ _ (c.in_ok-n.ensures L e)
