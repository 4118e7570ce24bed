-- What a call answers and leaves that writes a text of the case. Assumes nothing.
use Rattle.std.specs.Prelude.{ℕ, zero, ◌^◌, ◌≤◌, ◌<◌, ◌≡◌, ltb, Ok, Err}
use Rattle.std.proofs.Math.Path.{refl, subst}
use Rattle.std.proofs.Common.{sym, ap, ◌∙◌, ltb-false}
use mathlib.Core.List.{List}
use Rattle.std.proofs.Math.ListN.{length}
use Rattle.definitions.specs.Limits.{usual, text_limit}
use Rattle.definitions.specs.Refusal.{Result, refused, accepted, ◌>>=◌, refuse_if, read_text}
use Rattle.definitions.specs.Sheet.Sheets.{Question, read_question}
use Rattle.definitions.specs.Problem.Truth.{Case}
use Rattle.definitions.specs.Reply.Outcome.{read_case, nothing, written}
use Rattle.definitions.specs.Reply.Pddl.{ready_for_pddl, fitting, TextWritten, text_from}
use Rattle.laws.specs.Asked as Order
use Rattle.laws.specs.Results.{bind_parts, not_refused}
use Rattle.print_bytes.specs.Emitted.{Emits, measured, whole_written}
use Rattle.open_case.specs.declared.Front.{Front}
use Rattle.refusal.specs.declared.Refusal.{Refusal}
use Rattle.refusal.specs.declared.Cause.TheVariants.{ShortBuffer}
use Rattle.refusal.specs.Numbers.{number_of}
use Rattle.problem_of_case.specs.declared.Sized.{Sized}
use Rattle.open_case.specs.Fronts.{Fronted}
use Rattle.open_case.specs.Known.{room_short, room_there}
use Rattle.open_case.specs.Replies.{Reply, result_of}
use Rattle.open_pddl.specs.Gates.{gate, gate_case, gate_refused, gate_passed}

-- an accepted question is no longer than a text may be
pub question_short : (text : List ℕ) (q : Question) → read_question text ≡ accepted q → length text ≤ text_limit
unfolding read_question read_text
question_short text q e =
    let (d, f, _) = bind_parts _ _ q e in
    let (u, g, _) = bind_parts (refuse_if (ltb text_limit (length text)) 1 zero) _ d f in
    ltb-false text_limit (length text) (not_refused (ltb text_limit (length text)) 1 zero u g)

module _ (X : Case → List ℕ) where
  unfoldable pub told : (question site old : List ℕ) → TextWritten
  told question site old = text_from (ready_for_pddl usual question site nothing >>= λ r. fitting (length old) (X r.case)) old

  abbrev pub Writes : (question site old : List ℕ) → Reply → List ℕ → Type 0
  Writes question site old r new = (result_of r ≡ (told question site old).answer) × (new ≡ (told question site old).text)

  module _ (question site old : List ℕ) where
    abbrev outcome : Result (List ℕ)
    outcome = ready_for_pddl usual question site nothing >>= λ r. fitting (length old) (X r.case)

    refused_with : (e : Refusal) → outcome ≡ refused (number_of e.cause) e.place → Writes question site old (Err e) old
    unfolding told text_from
    refused_with e q = (rw q refl, rw q refl)

    written_with : (bytes : ℕ) (text new : List ℕ) → outcome ≡ accepted text → bytes ≡ length text → new ≡ written text old → Writes question site old (Ok bytes) new
    unfolding told text_from
    written_with bytes text new e b w = (rw e (ap accepted b), rw e w)

    pub writes_case : (e : Refusal) → read_case usual question site ≡ refused (number_of e.cause) e.place → Writes question site old (Err e) old
    unfolding ◌>>=◌
    writes_case e h = refused_with e (rw (gate_case question site nothing e h) refl)

    module _ (f : Front) (facts table : List ℕ) (its : Fronted usual question site (Ok f) facts table) where
      pub writes_gate : (e : Refusal) → Err e ≡ gate f → Writes question site old (Err e) old
      unfolding ◌>>=◌
      writes_gate e q = refused_with e (rw (gate_refused question site f facts table its nothing tt (λ r. Order.untested r) e q) refl)

      module _ (m : Sized) (q : Ok m ≡ gate f) where
        abbrev c : Case
        c = its.0

        text_is : outcome ≡ fitting (length old) (X c)
        unfolding ◌>>=◌
        text_is = rw (gate_passed question site f facts table its nothing tt (λ r. Order.untested r) m q) refl

        -- what is written is a text that is the case's
        module _ (text : List ℕ) (same : X c ≡ text) (small : length text < 2 ^ 64) where
          length_is : (scratch after : List ℕ) (bytes : ℕ) → Emits text scratch 0 after bytes → bytes ≡ length (X c)
          length_is scratch after bytes e = measured small e ∙ ap length (sym same)

          pub writes_short : (scratch after : List ℕ) (bytes : ℕ) → Emits text scratch 0 after bytes → length old < bytes → Writes question site old (Err (record { cause = ShortBuffer; place = bytes })) old
          unfolding fitting ◌>>=◌
          writes_short scratch after bytes e h =
              let b = length_is scratch after bytes e in
              let s = room_short (length (X c)) (length old) (subst (λ (k : ℕ). length old < k) b h) in
              refused_with (record { cause = ShortBuffer; place = bytes }) (text_is ∙ rw s (ap (refused 12) (sym b)))

          pub writes_all : (scratch after new : List ℕ) (bytes last : ℕ) → Emits text scratch 0 after bytes → Emits text old 0 new last → bytes ≤ length old → Writes question site old (Ok bytes) new
          unfolding fitting ◌>>=◌
          writes_all scratch after new bytes last e d h =
              let b = length_is scratch after bytes e in
              let l : length (X c) ≤ length old = subst (λ (k : ℕ). k ≤ length old) b h in
              let s = room_there (length (X c)) (length old) l in
              written_with bytes (X c) new (text_is ∙ rw s refl) b (subst (λ (t : List ℕ). new ≡ written t old) (sym same) (whole_written (subst (λ (t : List ℕ). length t ≤ length old) same l) d))
