-- Laws of the two covered parts: how a case begins, and one list. Assumes nothing.
use Rattle.std.specs.Prelude.{ℕ, ◌+◌, ◌-◌, ◌*◌, ◌/◌, ◌≤◌, ◌<◌, ◌≡◌}
use Rattle.std.proofs.Math.Path.{refl, sym, ap, ap₂, subst}
use Rattle.std.proofs.Common.{◌∙◌, arith, drop_of_length-le}
use mathlib.Core.List.{List, [], ◌∷◌, ◌++◌}
use Rattle.std.proofs.Math.ListN.{length, take, drop, length-append}
use Rattle.std.proofs.Math.Seq.{length-take-le, take-append_seam}
use borrow.Author.Tests.{lt-ltb, le-ltb}
use Rattle.definitions.specs.Limits.{CaseLimits, step_limit}
use Rattle.definitions.specs.Refusal.{Result, refused, ◌>>=◌, refuse_if}
use Rattle.definitions.specs.Problem.Atoms.{Problem, State, problem_of, initial, atoms, words_for, state_words}
use Rattle.definitions.specs.Problem.Strips.{run, run_from}
use Rattle.definitions.specs.Reply.Outcome.{read_case, asked, nothing, room_for, state_length, written}
use Rattle.laws.specs.Asked
use Rattle.laws.specs.Alone
use Rattle.laws.specs.Words.{words_for_lem, state_length_lem}
use Rattle.bits.specs.Table.{bit}
use Rattle.problem_table.specs.Of.{Is}
use Rattle.problem_table.specs.Lines.{Fits}
use Rattle.step_start.specs.Rows.{atoms_in}
use Rattle.step_start.specs.Initial.{Begun as Started}
use Rattle.step_run.specs.declared.End.{End}
use Rattle.step_run.specs.Ended.{ended}
use Rattle.open_case.specs.declared.Front.{Front}
use Rattle.open_case.specs.Fronts.{Fronted}
use Rattle.open_case.specs.Replies.{Reply, result_of}
use Rattle.open_case.specs.Known.{case_over, grounds, tabled, table_is, atoms_few, words_are, words_fit, room_short, room_there, facts_held}
use Rattle.problem_of_case.specs.declared.Sized.{Sized}
use Rattle.refusal.specs.declared.Refusal.{Refusal}
use Rattle.refusal.specs.declared.Cause.TheVariants.{TooLong, ShortBuffer}
use Rattle.refusal.specs.Numbers.{number_of}
use Rattle.std.specs.Prelude.{Ok, Err}
use Rattle.definitions.specs.Reply.Tries.{ready_to_try, try_list}
use Rattle.open_tries.specs.Begun.{BegunBy, ReadyToTry, Serves}

-- ---- a case begins
append_none : (l : List ℕ) → l ++ [] ≡ l
append_none [] = refl
append_none (x ∷ l) = ap (λ (t : List ℕ). x ∷ t) (append_none l)

module _ (L : CaseLimits) (question site old facts w : List ℕ) where
  abbrev rooms : Problem → Result (Unit {0})
  rooms p = room_for (state_length p) (length old)

  abbrev Begins : Reply → List ℕ → Type 0
  Begins r new = BegunBy (ready_to_try L question site (length old)) old r w new

  refused_with : (e : Refusal) → asked L question site nothing nothing nothing rooms ≡ refused (number_of e.cause) e.place → Begins (Err e) old
  unfolding ready_to_try
  refused_with e h = (h, refl)

  pub begun_case : (e : Refusal) → read_case L question site ≡ refused (number_of e.cause) e.place → Begins (Err e) old
  begun_case e h = refused_with e (Asked.case_refused L question site nothing nothing nothing rooms _ _ h)

  -- the case that was read
  module _ (r : Front) (its : Fronted L question site (Ok r) facts w) where
    pub begun_over : (e : Refusal) → r.m ≡ Err e → Begins (Err e) old
    begun_over e t =
        let (c, i, h) = its in
        refused_with e (Alone.limits_refused L question site nothing nothing nothing rooms c i tt (λ _. Asked.untested _) (Asked.untested c) _ _ (case_over L c _ _ h.grounded e t))

    module _ (m : Sized) (f : r.m ≡ Ok m) where
      abbrev k : ℕ
      k = (m.atoms + 63) / 64

      words_of : k ≡ state_length (problem_of its.0)
      words_of = words_are L its.0 _ _ its.2.grounded _ f

      pub begun_short : length old < k → Begins (Err (record { cause = ShortBuffer; place = k })) old
      begun_short l =
          let (c, e, h) = its in
          let short : rooms (problem_of c) ≡ refused 12 k = ap (λ (j : ℕ). room_for j (length old)) (sym words_of) ∙ room_short k (length old) l in
          refused_with (record { cause = ShortBuffer; place = k })
          (Alone.room_refused L question site nothing nothing nothing rooms c e tt (λ _. Asked.untested _) (Asked.untested c) (problem_of c) (grounds L c _ _ h.grounded _ f) (Asked.untested c) 12 k short)

      pub begun_atoms : m.atoms ≤ L.atoms
      begun_atoms = atoms_few L its.0 _ _ its.2.grounded _ f

      pub begun_fits : k ≤ length old → Fits w × (words_for (atoms_in w) ≤ length (take k old))
      begun_fits l = let (c, e, h) = its in ((table_is L c _ _ h.grounded _ f).fits, words_fit L c _ _ h.grounded _ f (length (take k old)) (sym (length-take-le k old l)))

      pub begun_ready : L.atoms ≤ 1048576 → k ≤ length old → (part new : List ℕ) → Started w facts (take k old) part → new ≡ part ++ drop k old
          → Begins (Ok k) new
      unfolding ready_to_try Started written state_length words_for
      begun_ready few l part new started n =
          let (c, e, h) = its in
          let p : Problem = problem_of c in
          let t = tabled L c _ _ h.grounded _ f in
          let q : k ≡ state_length p = words_of in
          let b = room_there (state_length p) (length old) (subst (λ (n : ℕ). n ≤ length old) q l) in
          let s : length (state_words p (initial p)) ≡ state_length p = state_length_lem p (initial p) in
          let lk : length (take k old) ≡ k = length-take-le k old l in
          let begins = started p t.is t.ends (facts_held question c _ facts h.holds) in
          let its_words : part ≡ state_words p (initial p) = begins.its_words ∙ ap (λ (r : List ℕ). state_words p (initial p) ++ r) (drop_of_length-le (take k old) {i = length (state_words p (initial p))} (omega (arith, lk, s, q))) ∙ append_none (state_words p (initial p)) in
          let lp : length part ≡ k = ap (λ (r : List ℕ). length r) its_words ∙ s ∙ sym q in
          let front : take k new ≡ part = ap₂ take (sym lp) n ∙ take-append_seam part (drop k old) in
          let there : k ≤ length new = let ln : length new ≡ length part + length (drop k old) = ap (λ (r : List ℕ). length r) n ∙ length-append part (drop k old) in omega (arith, ln, lp) in (
            _,
            Alone.ready L question site nothing nothing nothing rooms c e tt (λ _. Asked.untested _) (Asked.untested c) p (grounds L c _ _ h.grounded _ f) (Asked.untested c) b,
            record {
              state = n ∙ ap₂ (λ (r : List ℕ) (j : ℕ). r ++ drop j old) its_words (q ∙ sym s);
              ready = record { grounded = table_is L c _ _ h.grounded _ f; there = there; few = omega (arith, few, begun_atoms) };
              serves = record { is = t.is; room = subst (λ (j : ℕ). atoms p ≤ 64 * j) (sym q) (words_for_lem (atoms p)).0; begins = ap bit front ∙ begins.exact (lk ∙ q) };
            },
          )

-- ---- one list
module _ (w state old copied : List ℕ) (words : ℕ) (ready : ReadyToTry w state words) (c : copied ≡ written (take words state) old) where
  -- the copy begins with the state's words
  same : take words copied ≡ take words state
  unfolding written
  same =
      let lt : length (take words state) ≡ words = length-take-le words state ready.there in
      ap (take words) c ∙ ap (λ (j : ℕ). take j (take words state ++ drop (length (take words state)) old)) (sym lt) ∙ take-append_seam (take words state) (drop (length (take words state)) old)

  pub list_there : words ≡ length (take words copied)
  list_there = sym (ap (λ (r : List ℕ). length r) same ∙ length-take-le words state ready.there)

  -- so a run in it is a run from the initial state
  pub copy_ran : (p : Problem) → Serves p w state words → (steps : List ℕ) (e : End)
      → ((p : Problem) → Is p w → atoms p ≤ 64 * length (take words copied) → (ended e ≡ (run_from p (bit (take words copied)) 0 steps).answer) × Unit {0})
      → ended e ≡ (run p steps).answer
  unfolding run
  copy_ran p serves steps e ran =
      let r = (ran p serves.is (subst (λ (j : ℕ). atoms p ≤ 64 * j) list_there serves.room)).0 in
      let b : bit (take words copied) ≡ initial p = ap bit same ∙ serves.begins in
      r ∙ ap (λ (s : State). (run_from p s 0 steps).answer) b

module _ (p : Problem) (steps : List ℕ) (first count : ℕ) where
  pub list_long : step_limit < count → result_of (Err (record { cause = TooLong; place = 0 })) ≡ try_list p steps first count
  unfolding try_list refuse_if ◌>>=◌
  list_long l = rw (lt-ltb step_limit count l) refl

  module _ (l : count ≤ step_limit) where
    pub list_outside : length steps < first + count → result_of (Err (record { cause = ShortBuffer; place = first + count })) ≡ try_list p steps first count
    unfolding try_list refuse_if room_for ◌>>=◌
    list_outside o = rw (le-ltb step_limit count l, lt-ltb (length steps) (first + count) o) refl

    pub list_ran : first + count ≤ length steps → (run p (take (first + count - first) (drop first steps))).answer ≡ try_list p steps first count
    unfolding try_list refuse_if room_for ◌>>=◌
    list_ran i =
        let m : first + count - first ≡ count = omega arith in
        rw (le-ltb step_limit count l, le-ltb (length steps) (first + count) i) (ap (λ (j : ℕ). (run p (take j (drop first steps))).answer) m)
