-- `nendokwe::tell` meets its contract: a reply as number and place. Assumes nothing.
use Rattle.std.proofs.Math.Path.{refl}
use Rattle.definitions.specs.Reply.Outcome.{reply_number, reply_place}
use Rattle.nendokwe.proofs.tell.Goals as goal

pub returns-in-Ok : goal.returns-in-Ok
unfolding reply_number reply_place
returns-in-Ok c = rw c.in-Ok.is (record { number_after = refl; place_after = refl })

pub returns-in-Err : goal.returns-in-Err
unfolding reply_number reply_place
returns-in-Err c = rw c.in-Err.is (record { number_after = c.tell_refusal.ensures.number_after; place_after = c.tell_refusal.ensures.place_after })
