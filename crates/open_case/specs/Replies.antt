-- A call's reply as the definitions' answer, and steps as they are handed over: lent, or as a text.
use Rattle.std.specs.Prelude.{ℕ, ◌≤◌, ◌<◌, ◌≡◌, refl, List, ◌++◌, Ok, Err}
use Rattle.std.specs.Prelude as P
use Rattle.std.proofs.Common.{sym, ap₂, ◌∙◌, lt-ltb, le-ltb}
use Rattle.std.proofs.Math.Path.{ap}
use Rattle.std.proofs.Math.ListN.{length, take, drop}
use Rattle.std.proofs.Math.Seq.{take-append_seam}
use Rattle.definitions.specs.Limits.{step_limit}
use Rattle.definitions.specs.Refusal.{Result, refused, accepted, ◌>>=◌, refuse_if}
use Rattle.definitions.specs.Sheet.Sheets.{read_steps}
use Rattle.definitions.specs.Reply.Outcome
use Rattle.refusal.specs.declared.Refusal.{Refusal}
use Rattle.refusal.specs.Numbers.{number_of}
use Rattle.refusal.specs.Told.{told}
use Rattle.read_sheets.specs.Reading.{StepsRead}

-- what a call replies, and the definitions' answer that it says
abbrev pub Reply : Type 0
Reply = P.Result ℕ Refusal

abbrev pub result_of : Reply → Result ℕ
result_of r = told (λ n. n) r

-- lent steps are taken as they are, unless they are too many
pub lent_many : (ks : List ℕ) → step_limit < length ks → Outcome.take_steps (Outcome.as_numbers ks) ≡ refused 1 0
unfolding Outcome.take_steps refuse_if ◌>>=◌
lent_many ks h = rw (lt-ltb step_limit (length ks) h) refl

pub lent_few : (ks : List ℕ) → length ks ≤ step_limit → Outcome.take_steps (Outcome.as_numbers ks) ≡ accepted ks
unfolding Outcome.take_steps refuse_if ◌>>=◌
lent_few ks h = rw (le-ltb step_limit (length ks) h) refl

-- ---- steps as a text, once they stand in a lent table
module _ (t : List ℕ) where
  pub text_refused : (e : Refusal) → read_steps t ≡ refused (number_of e.cause) e.place → Outcome.take_steps (Outcome.as_text t) ≡ refused (number_of e.cause) e.place
  unfolding Outcome.take_steps
  text_refused e h = h

  -- the k numbers read stand at the front of the table
  pub text_taken : (out : List ℕ) (k : ℕ) (list : List ℕ) → StepsRead (read_steps t) (Ok k) out list → Outcome.take_steps (Outcome.as_text t) ≡ accepted (take k list)
  unfolding Outcome.take_steps Outcome.written
  text_taken out k list (ks, e, z, l, w) = e ∙ ap accepted (sym (ap₂ take z w ∙ take-append_seam ks (drop (length ks) out)))
