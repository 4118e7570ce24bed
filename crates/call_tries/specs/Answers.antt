-- The whole call: from its parts to the call's outcome. Assumes nothing.
use Rattle.std.specs.Prelude.{ℕ, ◌≡◌, refl, List, [], ◌∷◌, map, length, Ok}
use Rattle.std.proofs.Common.{ap, ◌∙◌}
use Rattle.definitions.specs.Limits.{CaseLimits}
use Rattle.definitions.specs.Refusal.{refused}
use Rattle.definitions.specs.Problem.Atoms.{Problem}
use Rattle.definitions.specs.Reply.Outcome.{reply_number, reply_place}
use Rattle.definitions.specs.Reply.Tries.{Try as Record, tried, ready_to_try, tried_from, try_lists}
use Rattle.call_tries.specs.declared.Try.{Try}
use Rattle.call_tries.specs.declared.CallReply.{CallReply}
use Rattle.refusal.specs.declared.Refusal.{Refusal}
use Rattle.refusal.specs.Numbers.{number_of}
use Rattle.call_tries.specs.Recorded.{recorded, records, answer_of, answered}
use Rattle.open_tries.specs.Begun.{BegunBy, Serves}
use Rattle.call_tries.specs.Each.{answer}

-- a record answered by the code is the definitions' record tried
all_tried : (p : Problem) (steps : List ℕ) (es : List Try) → records (map (answer p steps) es) ≡ map (tried p steps) (records es)
unfolding records recorded answer answered tried
all_tried p steps [] = refl
all_tried p steps (e ∷ es) = ap (λ (r : List Record). tried p steps (recorded e) ∷ r) (all_tried p steps es)

-- ---- from the parts to the whole
module _ (L : CaseLimits) (question site steps old : List ℕ) (es : List Try) where
  -- what the call says and leaves
  abbrev Ends : CallReply → List Try → List ℕ → Type 0
  Ends r ys mid =
      (r ≡ answer_of (try_lists L question site steps (records es) old).answer)
      × ((records ys ≡ (try_lists L question site steps (records es) old).tries) × (mid ≡ (try_lists L question site steps (records es) old).state))

  pub ends_refused : (e : Refusal) (mid : List ℕ) → (ready_to_try L question site (length old) ≡ refused (number_of e.cause) e.place) × (mid ≡ old)
      → Ends (record { number = number_of e.cause; place = e.place }) es mid
  unfolding try_lists tried_from answer_of reply_number reply_place
  ends_refused e mid (x, s) = (rw x refl, (rw x refl, rw x s))

  pub ends_tried : (words : ℕ) (w mid : List ℕ) (ys : List Try) → BegunBy (ready_to_try L question site (length old)) old (Ok words) w mid
      → ((p : Problem) → Serves p w mid words → ys ≡ map (answer p steps) es) → Ends (record { number = 0; place = 0 }) ys mid
  unfolding try_lists tried_from answer_of reply_number reply_place
  ends_tried words w mid ys (a, x, h) each = (rw x refl, (rw x (ap records (each a.problem h.serves) ∙ all_tried a.problem steps es), rw x h.state))
