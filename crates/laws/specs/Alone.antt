-- The order of refusals for a call whose third input does not hang on labels: the case alone tells.
use Rattle.std.specs.Prelude.{ℕ, ◌≡◌, List}
use Rattle.definitions.specs.Limits.{CaseLimits}
use Rattle.definitions.specs.Refusal.{Result, refused, accepted}
use Rattle.definitions.specs.Sheet.Sheets.{Label}
use Rattle.definitions.specs.Problem.Truth.{Case}
use Rattle.definitions.specs.Problem.Atoms.{Problem}
use Rattle.definitions.specs.Reply.Outcome.{CaseRead, read_filed, read_case, ground, Ready, asked}
use Rattle.laws.specs.Asked

module _ {A : Type 0} (L : CaseLimits) (question site : List ℕ) (third : CaseRead → Result A) (early late : Case → Result (Unit {0})) (rooms : Problem → Result (Unit {0})) where
  abbrev call : Result (Ready A)
  call = asked L question site third early late rooms

  module _ (c : Case) (e : read_case L question site ≡ accepted c) where
    abbrev its : (labels : List Label) × (read_filed L question site ≡ accepted (record { case = c; labels = labels }))
    its = Asked.case_filed L question site c e

    pub third_refused : (k place : ℕ) → ((labels : List Label) → third (record { case = c; labels = labels }) ≡ refused k place) → call ≡ refused k place
    third_refused k place f = Asked.third_refused L question site third early late rooms _ its.1 k place (f its.0)

    module _ (t : A) (f : (labels : List Label) → third (record { case = c; labels = labels }) ≡ accepted t) (g : early c ≡ accepted tt) where
      pub limits_refused : (k place : ℕ) → ground L c ≡ refused k place → call ≡ refused k place
      limits_refused k place h = Asked.limits_refused L question site third early late rooms _ its.1 t (f its.0) g k place h

      module _ (p : Problem) (h : ground L c ≡ accepted p) (i : late c ≡ accepted tt) where
        pub room_refused : (k place : ℕ) → rooms p ≡ refused k place → call ≡ refused k place
        room_refused k place j = Asked.room_refused L question site third early late rooms _ its.1 t (f its.0) g p h i k place j

        pub ready : rooms p ≡ accepted tt → call ≡ accepted (record { case = c; labels = its.0; problem = p; third = t })
        ready j = Asked.ready L question site third early late rooms _ its.1 t (f its.0) g p h i j
