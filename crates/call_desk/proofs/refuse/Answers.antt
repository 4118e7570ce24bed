-- `call_desk::refuse` meets its contract: the line fits. Assumes nothing.
use native.Mathlib.Omega.{arith}
use Rattle.std.specs.Prelude.{ℕ}
use Rattle.std.proofs.Common.{subst}
use Rattle.definitions.specs.Refusal.{refused}
use Rattle.definitions.specs.Reply.Desk.{printed}
use Rattle.call_desk.specs.Replied.{Replies, replies, line_fits}
use Rattle.call_desk.proofs.refuse.Goals as goal

pub no_line-requires : goal.no_line-requires
unfolding printed
no_line-requires c = omega (arith, line_fits c.number.result c.args.e.place)

pub returns : goal.returns
unfolding printed
returns c =
    let h = line_fits c.number.result c.args.e.place in
    subst (λ (k : ℕ). Replies (printed (refused k c.args.e.place)) c.args.out.now c.no_line.new.out c.no_line.result) c.number.ensures (replies _ _ _ _ (omega arith) c.no_line.ensures)
