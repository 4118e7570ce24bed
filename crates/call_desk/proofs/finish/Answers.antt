-- `call_desk::finish` meets its contract: what was printed stays, or the refusal is printed. Assumes nothing.
use Rattle.std.specs.Prelude.{List, ℕ}
use Rattle.std.proofs.Common.{subst}
use Rattle.definitions.specs.Reply.Desk.{printed}
use Rattle.open_case.specs.Replies.{Reply}
use Rattle.call_desk.specs.Replied.{Replies, Ends, answer_as}
use Rattle.call_desk.proofs.finish.Goals as goal

pub returns-in-Ok : goal.returns-in-Ok
returns-in-Ok c = λ x first h. subst (λ (r : Reply). Ends x first c.args.out.now r) c.in-Ok.is h

pub returns-in-Err : goal.returns-in-Err
returns-in-Err c = λ x first h.
    let k = subst (λ (r : Reply). Ends x first c.args.out.now r) c.in-Err.is h in
    subst (λ (old : List ℕ). Replies (printed x) old c.refuse.new.out c.refuse.result) k.1 (answer_as _ _ _ _ _ k.0 c.refuse.ensures)
