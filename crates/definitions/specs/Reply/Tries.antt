-- Document 02, "A planner's twenty tries": many step lists for one case, in one call.
use Rattle.std.specs.Prelude.{ℕ, zero, ◌+◌, List, map, length, take, drop, ltb}
use Rattle.definitions.specs.Lists.{Steps, Text, Words}
use Rattle.definitions.specs.Limits.{CaseLimits, step_limit}
use Rattle.definitions.specs.Refusal.{Result, refused, accepted, refuse_if, ◌>>=◌}
use Rattle.definitions.specs.Problem.Atoms.{Problem, initial, state_words}
use Rattle.definitions.specs.Problem.Strips.{run}
use Rattle.definitions.specs.Reply.Outcome.{reply_number, reply_place, Ready, asked, nothing, room_for, state_length, written}

-- A record: its list are `len` of the lent steps, from the index `first` on; its reply is a number and a place.
pub record Try : Type 0 where
  pub first : ℕ
  pub len : ℕ
  pub number : ℕ
  pub place : ℕ

-- One list of a problem: 1 if it has too many steps; else 12 and the index where it would end, if fewer steps are lent; else how its
-- steps run from the initial state. The run of lent steps itself may have any length.
unfoldable pub try_list : Problem → Steps → ℕ → ℕ → Result ℕ
try_list p steps first len = do
  _ ← refuse_if (ltb step_limit len) 1 zero
  _ ← room_for (first + len) (length steps)
  (run p (take len (drop first steps))).answer

-- the record with its list's number and place; the list itself stays
unfoldable pub tried : Problem → Steps → Try → Try
tried p steps t =
    let reply = try_list p steps t.first t.len in
    record { first = t.first; len = t.len; number = reply_number reply; place = reply_place reply }

-- ---- the call: the case is read, and the state must have room; then every list is tried, whatever the others give, and the initial
-- state is left. A case that is refused leaves the records and the state as they were.
pub record Tried : Type 0 where
  pub answer : Result ℕ
  pub tries : List Try
  pub state : Words

unfoldable pub ready_to_try : CaseLimits → Text → Text → ℕ → Result (Ready (Unit {0}))
ready_to_try L question site room = asked L question site nothing nothing nothing (λ p. room_for (state_length p) room)

unfoldable pub tried_from : Result (Ready (Unit {0})) → Steps → List Try → Words → Tried
tried_from (refused k place) steps tries state = record { answer = refused k place; tries = tries; state = state }
tried_from (accepted r) steps tries state =
    let p = r.problem in
    record { answer = accepted zero; tries = map (tried p steps) tries; state = written (state_words p (initial p)) state }

unfoldable pub try_lists : CaseLimits → Text → Text → Steps → List Try → Words → Tried
try_lists L question site steps tries state = tried_from (ready_to_try L question site (length state)) steps tries state
