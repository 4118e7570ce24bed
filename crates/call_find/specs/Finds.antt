-- What the call answers and leaves, by the definitions, and one law for each place where it ends.
use Rattle.std.specs.Prelude.{ℕ, ◌≤◌, ◌<◌, ◌≡◌, Bool, false, length, take}
use Rattle.std.proofs.Math.Path.{refl, sym, ap}
use Rattle.std.proofs.Common.{◌∙◌}
use Rattle.std.proofs.Math.Bool.{true}
use Rattle.std.proofs.Math.Option.{none, some}
use mathlib.Core.List.{List}
use borrow.Author.Tests.{lt-ltb, le-ltb}
use Rattle.std.proofs.Math.Dec.{ltb}
use Rattle.definitions.specs.Limits.{CaseLimits, cell_limit}
use Rattle.definitions.specs.Lists.{is_some}
use Rattle.definitions.specs.Refusal.{Result, refused, accepted, ◌>>=◌, refuse_if, given}
use Rattle.definitions.specs.Problem.Truth.{Case}
use Rattle.definitions.specs.Problem.Atoms.{Problem, problem_of}
use Rattle.definitions.specs.Reply.Outcome.{read_case, ground, without_every, asked, nothing, room_for, picks_length, pick_words, written}
use Rattle.definitions.specs.Reply.Finding.{numbered, least_number, least_picks, found_words, found_from}
use Rattle.laws.specs.Asked
use Rattle.laws.specs.Alone
use Rattle.laws.specs.Reader.{Accepted, gives_if, case_fits}
use Rattle.read_sheets.specs.declared.Opened.{Opened}
use Rattle.read_sheets.specs.Opening.{Holds}
use Rattle.refusal.specs.declared.Refusal.{Refusal}
use Rattle.refusal.specs.declared.Cause.TheVariants.{HasEvery, NoPicks, ShortBuffer, TooManyCells}
use Rattle.refusal.specs.Numbers.{number_of}
use Rattle.std.specs.Prelude.{Ok, Err, Some, None}
use Rattle.std.specs.Prelude as P
use Rattle.open_case.specs.Replies.{Reply, result_of}
use Rattle.open_case.specs.Known.{room_short, room_there}
use Rattle.problem_table.specs.Lines.{relations_in}
use Rattle.step_picks.specs.Copies.{picks_in}
use Rattle.eval_search.specs.Counts.{words_to, digits_to, words_all, Searchable}
use Rattle.eval_search.specs.Worded.{all_words}
use Rattle.eval_search.specs.Kinds as Kinds
use Rattle.step_picks.specs.Tests.{told}
use Rattle.eval_search.specs.Steps.{cells_of, Sought}

-- an accepted case was read
pub record AcceptedIn (s : List ℕ) (o : Opened) (facts : ℕ → Bool) : Type 0 where
  pub case : Case
  pub accepted_case : Accepted case
  pub holds : Holds s case o facts

-- a reply and a buffer are those of what was found
abbrev pub Answers : Result (List ℕ) → (old : List ℕ) → Reply → List ℕ → Type 0
Answers x old r new = (result_of r ≡ (found_from x old).answer) × (new ≡ (found_from x old).picks)

-- what is found, as words
unfoldable pub least_words : Case → Result (List ℕ)
least_words c = least_picks c (cells_of c) >>= λ F. accepted (pick_words (problem_of c) F)

-- ---- 20, 21, or the picks
module _ (c : Case) (old : List ℕ) (count : ℕ) (e : count ≡ length (cells_of c)) where
  pub too_many : 20 < count → Answers (least_words c) old (Err (record { cause = TooManyCells; place = 0 })) old
  unfolding least_words least_picks found_from refuse_if ◌>>=◌
  too_many h = let z : ltb cell_limit (length (cells_of c)) ≡ true = ap (ltb 20) (sym e) ∙ lt-ltb 20 count h in (rw z refl, rw z refl)

  module _ (few : count ≤ 20) (r : P.Option ℕ) (is : told r ≡ least_number c (cells_of c)) where
    within : ltb cell_limit (length (cells_of c)) ≡ false
    within = ap (ltb 20) (sym e) ∙ le-ltb 20 count few

    pub no_picks : r ≡ None → Answers (least_words c) old (Err (record { cause = NoPicks; place = 0 })) old
    unfolding least_words least_picks found_from refuse_if given told ◌>>=◌
    no_picks q = let z : least_number c (cells_of c) ≡ none = sym is ∙ ap told q in (rw (within, z) refl, rw (within, z) refl)

    pub picks_written : (m : ℕ) (front new : List ℕ) → r ≡ Some m → front ≡ pick_words (problem_of c) (numbered (cells_of c) m) → new ≡ written front old → Answers (least_words c) old (Ok 0) new
    unfolding least_words least_picks found_from refuse_if given told ◌>>=◌
    picks_written m front new q f w = let z : least_number c (cells_of c) ≡ some m = sym is ∙ ap told q in (rw (within, z) refl, rw (within, z) (w ∙ ap (λ (x : List ℕ). written x old) f))

-- the words of a number's picks, as many as are held
pub held_front : (c : Case) (table : List ℕ) (s : Sought c table) (count : ℕ) (e : Searchable table count) (m : ℕ) (t : List ℕ) → take (words_to table (relations_in table)) t ≡ digits_to table count m (relations_in table) → (held : ℕ) → held ≡ picks_in table
    → take held t ≡ pick_words (problem_of c) (numbered (cells_of c) m)
held_front c table s count e m t f held h = ap (λ (k : ℕ). take k t) (h ∙ sym (words_all table) ∙ all_words (problem_of c) table s.is) ∙ Kinds.front c table s count e m t f

-- ---- the places where the call can end
module _ (L : CaseLimits) (question site old : List ℕ) where
  abbrev rooms : Problem → Result (Unit {0})
  rooms p = room_for (picks_length p) (length old)

  refused_with : (e : Refusal) → asked L question site nothing nothing without_every rooms ≡ refused (number_of e.cause) e.place → Answers (found_words L question site (length old)) old (Err e) old
  unfolding found_words found_from ◌>>=◌
  refused_with e h = (rw h refl, rw h refl)

  pub ends_case : (e : Refusal) → read_case L question site ≡ refused (number_of e.cause) e.place → Answers (found_words L question site (length old)) old (Err e) old
  ends_case e h = refused_with e (Asked.case_refused L question site nothing nothing without_every rooms _ _ h)

  module _ (o : Opened) (facts : ℕ → Bool) (its : (c : Case) × (read_case L question site ≡ accepted c) × Holds question c o facts) where
    abbrev p : Problem
    p = problem_of its.0

    pub ends_over : (e : Refusal) → ground L its.0 ≡ refused (number_of e.cause) e.place → Answers (found_words L question site (length old)) old (Err e) old
    ends_over e g = refused_with e (Alone.limits_refused L question site nothing nothing without_every rooms its.0 its.1 tt (λ _. Asked.untested _) (Asked.untested its.0) (number_of e.cause) e.place g)

    module _ (grounded : ground L its.0 ≡ accepted p) (every : Bool) (told : every ≡ is_some its.0.question.every) where
      tested : without_every its.0 ≡ refuse_if every 23 0
      unfolding without_every
      tested = ap (λ (b : Bool). refuse_if b 23 0) (sym told)

      pub ends_every : every ≡ true → Answers (found_words L question site (length old)) old (Err (record { cause = HasEvery; place = 0 })) old
      unfolding refuse_if
      ends_every e =
          let (labels, f) = Asked.case_filed L question site its.0 its.1 in
          let late : without_every its.0 ≡ refused 23 0 = tested ∙ ap (λ (b : Bool). refuse_if b 23 0) e in
          refused_with (record { cause = HasEvery; place = 0 }) (Asked.late_refused L question site nothing nothing without_every rooms _ f tt (Asked.untested _) (Asked.untested its.0) p grounded 23 0 late)

      module _ (alone : every ≡ false) (held : ℕ) (e : held ≡ picks_length p) where
        late : without_every its.0 ≡ accepted tt
        unfolding refuse_if
        late = tested ∙ ap (λ (b : Bool). refuse_if b 23 0) alone

        pub ends_short : length old < held → Answers (found_words L question site (length old)) old (Err (record { cause = ShortBuffer; place = held })) old
        ends_short h =
            let short : rooms p ≡ refused 12 held = ap (λ (k : ℕ). room_for k (length old)) (sym e) ∙ room_short held (length old) h in
            refused_with (record { cause = ShortBuffer; place = held }) (Alone.room_refused L question site nothing nothing without_every rooms its.0 its.1 tt (λ _. Asked.untested _) (Asked.untested its.0) p grounded late 12 held short)

        pub ends_found : held ≤ length old → (r : Reply) (new : List ℕ) → Answers (least_words its.0) old r new → Answers (found_words L question site (length old)) old r new
        unfolding found_words least_words ◌>>=◌
        ends_found h r new a =
            let there : rooms p ≡ accepted tt = ap (λ (k : ℕ). room_for k (length old)) (sym e) ∙ room_there held (length old) h in
            let g = Alone.ready L question site nothing nothing without_every rooms its.0 its.1 tt (λ _. Asked.untested _) (Asked.untested its.0) p grounded late there in
            rw g a

    pub accepted_in : L.elements ≤ 64 → AcceptedIn question o facts
    accepted_in few = record { case = its.0; accepted_case = gives_if Accepted (read_case L question site) its.0 its.1 (case_fits L few question site); holds = its.2 }
