-- A third sheet of steps: the order of refusals, the run, and the report. Assumes nothing.
use Rattle.std.specs.Prelude.{ℕ, ◌+◌, ◌/◌, ◌≤◌, ◌≡◌, List, ◌++◌, Ok, Err}
use Rattle.std.proofs.Math.Path.{refl, sym, ap}
use Rattle.std.proofs.Common.{◌∙◌, arith}
use Rattle.std.proofs.Math.ListN.{length, take}
use Rattle.std.proofs.Math.Seq.{take-append_seam}
use Rattle.definitions.specs.Limits.{desk_words}
use Rattle.definitions.specs.Refusal.{Result, refused, accepted, ◌>>=◌}
use Rattle.definitions.specs.Problem.Atoms.{Problem, problem_of}
use Rattle.definitions.specs.Problem.Strips.{run, picks_of}
use Rattle.definitions.specs.Reply.Outcome.{CaseRead, read_filed, read_case, ground, nothing, Ready, room_for, state_length, as_text, take_steps, ready_to_run, written}
use Rattle.definitions.specs.Reply.Desk.{printed, checked_plan}
use Rattle.laws.specs.Asked.{untested, case_refused, third_refused, limits_refused, ready}
use Rattle.laws.specs.Words.{state_length_lem}
use Rattle.meaning.specs.Grounded.{good}
use Rattle.meaning.specs.Few as Few
use Rattle.step_run.specs.declared.End.{End}
use Rattle.refusal.specs.declared.Refusal.{Refusal}
use Rattle.refusal.specs.Numbers.{number_of}
use Rattle.problem_of_case.specs.declared.Sized.{Sized}
use Rattle.step_run.specs.Ended.{ended}
use Rattle.step_run.specs.Checks.{Ran, Runs}
use Rattle.open_case.specs.declared.Front.{Front}
use Rattle.open_case.specs.Known.{case_over, grounds, tabled, words_are, ran_of, room_there}
use Rattle.print_report.specs.Agrees.{Agrees}
use Rattle.step_picks.specs.Copies.{picks_in, Copied}
use Rattle.step_picks.specs.CopyLaws.{picks_in_lem, copied_done}
use Rattle.step_picks.specs.Picked.{text_fits}
use Rattle.bits.specs.Table.{bit}
use Rattle.call_desk.specs.Replied.{Replies, text_as, Reportable, report_of}
use Rattle.call_desk.specs.Known.{own, Known, picks_roomy, front_agrees, report_as, reportable, state_fits}

-- a step has a line of seven bytes at least, so there are few of them
pub steps_few : (text ks : List ℕ) → take_steps (as_text text) ≡ accepted ks → length text ≤ 16384 → length ks ≤ 2340
unfolding take_steps
steps_few text ks e h = omega (arith, Few.steps_few text ks e)

-- ---- the order of refusals

abbrev rooms : Problem → Result (Unit {0})
rooms p = room_for (state_length p) desk_words

module _ (question site text : List ℕ) where
  abbrev third : CaseRead → Result (List ℕ)
  third c = take_steps (as_text text)

  abbrev begun : Result (Ready (List ℕ))
  begun = ready_to_run own question site (as_text text) rooms

  stopped : (k place : ℕ) → begun ≡ refused k place → checked_plan question site text ≡ refused k place
  unfolding checked_plan ◌>>=◌
  stopped k place e = rw e refl

  pub checked_refused : (k place : ℕ) → read_case own question site ≡ refused k place → checked_plan question site text ≡ refused k place
  unfolding ready_to_run
  checked_refused k place e = stopped k place (case_refused own question site third nothing nothing rooms k place e)

  module _ (c : CaseRead) (e : read_filed own question site ≡ accepted c) where
    steps_refused : (k place : ℕ) → take_steps (as_text text) ≡ refused k place → checked_plan question site text ≡ refused k place
    unfolding ready_to_run
    steps_refused k place t = stopped k place (third_refused own question site third nothing nothing rooms c e k place t)

    module _ (ks : List ℕ) (t : take_steps (as_text text) ≡ accepted ks) where
      checked_over : (k place : ℕ) → ground own c.case ≡ refused k place → checked_plan question site text ≡ refused k place
      unfolding ready_to_run
      checked_over k place g = stopped k place (limits_refused own question site third nothing nothing rooms c e ks t (untested c.case) k place g)

      module _ (p : Problem) (g : ground own c.case ≡ accepted p) (h : state_length p ≤ 1024) where
        begun_is : begun ≡ accepted (record { case = c.case; labels = c.labels; problem = p; third = ks })
        unfolding ready_to_run
        begun_is = ready own question site third nothing nothing rooms c e ks t (untested c.case) p g (untested c.case) (room_there (state_length p) desk_words h)

        checked_ended : (k i : ℕ) → (run p ks).answer ≡ refused k i → checked_plan question site text ≡ refused k i
        unfolding checked_plan ◌>>=◌
        checked_ended k i r = rw (begun_is, r) refl

        checked_done : (i : ℕ) → (run p ks).answer ≡ accepted i → checked_plan question site text ≡ accepted (record { labels = c.labels; problem = p; picks = picks_of p ks; steps = ks })
        unfolding checked_plan ◌>>=◌
        checked_done i r = rw (begun_is, r) refl

-- ---- the replies, once a case was read

module _ (q site : List ℕ) (f : Front) (labels facts w : List ℕ) (K : Known q site f labels facts w) where
  pub text_fault : (text : List ℕ) (k place : ℕ) → take_steps (as_text text) ≡ refused k place → checked_plan q site text ≡ refused k place
  text_fault text k place t = steps_refused q site text K.filed K.is_read k place t

  -- the picks fit the words that they are copied to
  pub picks_fit : (m : Sized) → f.m ≡ Ok m → picks_in w ≤ 256
  picks_fit m v =
      let t = tabled own K.filed.case f.m w K.held.grounded m v in
      omega (arith, picks_in_lem (problem_of K.filed.case) w t.is, text_fits q K.filed.case K.held.accepts f.o (bit facts) K.held.holds 256 (picks_roomy q site f labels facts w K 256 (omega arith)))

  pub reply_over : (text ks : List ℕ) → take_steps (as_text text) ≡ accepted ks → (e : Refusal) → f.m ≡ Err e → checked_plan q site text ≡ refused (number_of e.cause) e.place
  reply_over text ks t e o = checked_over q site text K.filed K.is_read ks t _ _ (case_over own K.filed.case f.m w K.held.grounded e o)

  module _ (ks : List ℕ) (m : Sized) (v : f.m ≡ Ok m) (part left : List ℕ) (e : End) (l : (m.atoms + 63) / 64 ≡ length part) (runs : Runs w facts ks part e left) where
    abbrev p : Problem
    p = problem_of K.filed.case

    its_run : Ran p ks e left
    its_run = ran_of own K.filed.case f.m w K.held.grounded m v q f.o facts ks part left e K.held.holds l runs

    its_problem : ground own K.filed.case ≡ accepted p
    its_problem = grounds own K.filed.case f.m w K.held.grounded m v

    -- once all steps were taken, the picks copied are those that they set; the state is the front of a longer table
    module _ (i : ℕ) (n : ended e ≡ accepted i) (rest fresh words : List ℕ) (copy : Copied w (take ((m.atoms + 63) / 64) (left ++ rest)) fresh words) where
      copied : Agrees p (picks_of p ks) q f.o.sig f.o.n words
      unfolding written
      copied =
          let ran = its_run in
          let k : (m.atoms + 63) / 64 ≡ length left = words_are own K.filed.case f.m w K.held.grounded m v ∙ sym (ap length ran.state ∙ state_length_lem p (run p ks).state) in
          let front : take ((m.atoms + 63) / 64) (left ++ rest) ≡ left = ap (λ (j : ℕ). take j (left ++ rest)) k ∙ take-append_seam left rest in
          let is = (tabled own K.filed.case f.m w K.held.grounded m v).is in
          front_agrees q site f labels facts w K (picks_of p ks) words _ (copied_done w _ fresh words ks i p copy is (good K.filed.case K.held.accepts) (sym n ∙ ran.answer) (front ∙ ran.state))

      pub done_reportable : length ks ≤ 2340 → 256 ≤ length words → Reportable q site f.o labels words ks
      done_reportable few room = reportable q site f labels facts w K (picks_of p ks) words ks copied (omega (arith, Few.set_few p ks)) room (omega arith)

    module _ (text : List ℕ) (t : take_steps (as_text text) ≡ accepted ks) where
      pub reply_ended : (x : Refusal) → ended e ≡ refused (number_of x.cause) x.place → checked_plan q site text ≡ refused (number_of x.cause) x.place
      reply_ended x n = checked_ended q site text K.filed K.is_read ks t p its_problem (state_fits q site f labels facts w K m v) _ _ (sym its_run.answer ∙ n)

      pub reply_done : (i : ℕ) → ended e ≡ accepted i → (rest fresh words : List ℕ) → Copied w (take ((m.atoms + 63) / 64) (left ++ rest)) fresh words
          → (old new : List ℕ) (r : ℕ) → Replies (report_of q site f.o m labels words ks) old new r → Replies (printed (checked_plan q site text)) old new r
      reply_done i n rest fresh words copy old new r h =
          let d = checked_done q site text K.filed K.is_read ks t p its_problem (state_fits q site f labels facts w K m v) i (sym its_run.answer ∙ n) in
          text_as _ _ old new r (report_as q site f labels facts w K (picks_of p ks) ks words (copied i n rest fresh words copy) m v (checked_plan q site text) d) h
