-- The code's record and answer in the words of the definitions.
use Rattle.std.specs.Prelude.{ℕ, ◌≡◌, List, map}
use Rattle.std.proofs.Common.{ap}
use Rattle.definitions.specs.Refusal.{Result}
use Rattle.definitions.specs.Reply.Outcome.{reply_number, reply_place}
use Rattle.definitions.specs.Reply.Tries.{Try as Record}
use Rattle.call_tries.specs.declared.Try.{Try}
use Rattle.call_tries.specs.declared.CallReply.{CallReply}

-- the records of a table
unfoldable pub recorded : Try → Record
recorded t = record { first = t.first; len = t.length; number = t.number; place = t.place }

unfoldable pub records : List Try → List Record
records ts = map recorded ts

-- the call's own reply
unfoldable pub answer_of : Result ℕ → CallReply
answer_of r = record { number = reply_number r; place = reply_place r }

pub answer_told : (x : Result ℕ) (r : CallReply) → r ≡ answer_of x → (r.number ≡ reply_number x) × (r.place ≡ reply_place x)
unfolding answer_of
answer_told x r e = (ap (λ (a : CallReply). a.number) e, ap (λ (a : CallReply). a.place) e)

-- a record with its reply; its list stays
unfoldable pub answered : Try → Result ℕ → Try
answered t x = record { first = t.first; length = t.length; number = reply_number x; place = reply_place x }
