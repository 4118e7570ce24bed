-- What writing the plan of steps answers and leaves. Assumes nothing.
use Rattle.std.specs.Prelude.{ℕ, zero, suc, ◌+◌, ◌^◌, ◌≤◌, ◌<◌, ◌≡◌, Bool, get_or, Ok, Err}
use Rattle.std.proofs.Math.Path.{refl, ap, subst}
use Rattle.std.proofs.Common.{sym, ◌∙◌, arith, ltb-true, ltb-false}
use Rattle.std.proofs.Math.Bool.{true, false}
use mathlib.Core.List.{List, [], ◌∷◌}
use Rattle.std.proofs.Math.Dec.{ltb}
use Rattle.std.proofs.Math.ListN.{length}
use Rattle.definitions.specs.Limits.{usual}
use Rattle.definitions.specs.Lists.{flat_map}
use Rattle.definitions.specs.Refusal.{Result, refused, accepted, ◌>>=◌}
use Rattle.definitions.specs.Sheet.Relations.{Relation, fixed}
use Rattle.definitions.specs.Sheet.Sheets.{relations_of}
use Rattle.definitions.specs.Problem.Truth.{Case}
use Rattle.definitions.specs.Problem.Atoms.{problem_of}
use Rattle.definitions.specs.Problem.Actions.{actions}
use Rattle.definitions.specs.Reply.Outcome.{ThirdInput, read_case, take_steps, written}
use Rattle.definitions.specs.Reply.Lifted.{relation_in, PlanStep}
use Rattle.definitions.specs.Reply.Pddl.{plan_of, plan_text, fitting, text_from, plan_written, write_plan}
use Rattle.laws.specs.Lists.{get_or_mem}
use Rattle.laws.specs.Lines.{name_short}
use Rattle.laws.specs.Numbers.{no_relation}
use Rattle.laws.specs.Reader.{Accepted}
use Rattle.meaning.specs.Grounded.{relation_cases}
use Rattle.meaning.specs.Shown.{taken_few}
use Rattle.meaning.specs.PddlWords.{names_formed}
use Rattle.read_names.specs.Signatures.{SoundSignature}
use Rattle.problem_table.specs.Of.{Is}
use Rattle.problem_action.specs.Decoded.{Grounded}
use Rattle.print_bytes.specs.Emitted.{Emits, measured, whole_written}
use Rattle.print_page.specs.Elements.{Names, NamesAre}
use Rattle.print_page.specs.Naming.{Named, names_are}
use Rattle.print_plan.specs.Lines.{line_at}
use Rattle.print_plan.specs.Plans.{Taken, Counted, all_taken, one_missing, plan_there, lines_few}
use Rattle.open_case.specs.declared.Front.{Front}
use Rattle.refusal.specs.declared.Refusal.{Refusal}
use Rattle.refusal.specs.declared.Cause.TheVariants.{ShortBuffer, NoAction}
use Rattle.refusal.specs.Numbers.{number_of}
use Rattle.problem_of_case.specs.declared.Sized.{Sized}
use Rattle.open_case.specs.Fronts.{Held, Fronted}
use Rattle.open_case.specs.Known.{table_is, room_short, room_there}
use Rattle.open_case.specs.Replies.{Reply, result_of}
use Rattle.open_pddl.specs.Gates.{gate, gate_case, gate_third, gate_refused, gate_passed, Passed, passed}

abbrev pub Planned : (question site : List ℕ) (given : ThirdInput) (old : List ℕ) → Reply → List ℕ → Type 0
Planned question site given old r new = (result_of r ≡ (write_plan usual question site given old).answer) × (new ≡ (write_plan usual question site given old).text)

-- some case was opened
pub record Begun (question : List ℕ) (f : Front) (table : List ℕ) : Type 0 where
  pub site : List ℕ
  pub facts : List ℕ
  pub front : Fronted usual question site (Ok f) facts table

-- every relation's name is short, and it has few places
past_default : (rs : List Relation) (r : ℕ) (d : Relation) → length rs ≤ r → get_or rs r d ≡ d
past_default [] r d h = refl
past_default (k ∷ rs) zero d h = absurd (omega arith)
past_default (k ∷ rs) (suc r) d h = past_default rs r d (omega arith)

module _ (c : Case) (A : Accepted c) where
  by_relation : (P : Relation → Type 0) → P (fixed [] zero) → ((r : ℕ) → r < length (relations_of c.question) → P (relation_in c r)) → (r : ℕ) → P (relation_in c r)
  unfolding relation_in
  by_relation P none some r = by_test (ltb r (length (relations_of c.question))) refl
    where
      by_test : (b : Bool) → ltb r (length (relations_of c.question)) ≡ b → P (get_or (relations_of c.question) r (fixed [] zero))
      by_test true q = some r (ltb-true r _ q)
      by_test false q = subst P (sym (past_default (relations_of c.question) r (fixed [] zero) (ltb-false r _ q))) none

  short_names : (r : ℕ) → length (relation_in c r).name ≤ 12
  short_names = by_relation (λ k. length k.name ≤ 12) (omega arith) (λ r l. name_short (relation_in c r).name (names_formed c A r l))

  few_places : (r : ℕ) → (relation_in c r).arity ≤ 3
  unfolding relation_in
  few_places = by_relation (λ k. k.arity ≤ 3) (omega arith) (λ r l. (relation_cases c A (get_or (relations_of c.question) r no_relation) (get_or_mem (relations_of c.question) r no_relation l)).1)

module _ (question site : List ℕ) (given : ThirdInput) (old : List ℕ) where
  refused_with : (e : Refusal) → plan_written usual question site given (length old) ≡ refused (number_of e.cause) e.place → Planned question site given old (Err e) old
  unfolding write_plan text_from
  refused_with e q = (rw q refl, rw q refl)

  written_with : (bytes : ℕ) (text new : List ℕ) → plan_written usual question site given (length old) ≡ accepted text → bytes ≡ length text → new ≡ written text old → Planned question site given old (Ok bytes) new
  unfolding write_plan text_from
  written_with bytes text new e b w = (rw e (ap accepted b), rw e w)

  pub planned_case : (e : Refusal) → read_case usual question site ≡ refused (number_of e.cause) e.place → Planned question site given old (Err e) old
  unfolding plan_written ◌>>=◌
  planned_case e h = refused_with e (rw (gate_case question site (λ _. take_steps given) e h) refl)

module _ (question site : List ℕ) (f : Front) (facts table : List ℕ) (its : Fronted usual question site (Ok f) facts table) where
  pub planned_steps : (given : ThirdInput) (old : List ℕ) (e : Refusal) → take_steps given ≡ refused (number_of e.cause) e.place → Planned question site given old (Err e) old
  unfolding plan_written ◌>>=◌
  planned_steps given old e t = refused_with question site given old e (rw (gate_third question site f facts table its (λ _. take_steps given) _ _ (λ _. t)) refl)

  module _ (given : ThirdInput) (old steps : List ℕ) (t : take_steps given ≡ accepted steps) where
    pub planned_gate : (e : Refusal) → Err e ≡ gate f → Planned question site given old (Err e) old
    unfolding plan_written ◌>>=◌
    planned_gate e q = refused_with question site given old e (rw (gate_refused question site f facts table its (λ _. take_steps given) steps (λ _. t) e q) refl)

    module _ (m : Sized) (q : Ok m ≡ gate f) where
      abbrev c : Case
      c = its.0

      abbrev held : Held usual question c f facts table
      held = its.2

      abbrev pass : Passed c f m table
      pass = passed question site f facts table its m q

      plan_is : (R : Result (List PlanStep)) → plan_of (problem_of c) steps ≡ R → plan_written usual question site given (length old) ≡ (R >>= λ plan. fitting (length old) (plan_text c plan))
      unfolding plan_written ◌>>=◌
      plan_is R e = rw (gate_passed question site f facts table its (λ _. take_steps given) steps (λ _. t) m q, e) refl

      module _ (b : ℕ) (C : Counted steps m.actions b) where
        counted : Counted steps (actions (problem_of c)) b
        counted = subst (λ (k : ℕ). Counted steps k b) pass.table_of_lem.actions_are C

        pub planned_missing : b < length steps → Planned question site given old (Err (record { cause = NoAction; place = b })) old
        unfolding ◌>>=◌
        planned_missing h = refused_with question site given old (record { cause = NoAction; place = b }) (plan_is (refused 13 b) (one_missing c (problem_of c) steps b counted h))

        module _ (there : length steps ≤ b) (names : List ℕ) (N : Named f.o.sig.from f.o.sig.to f.o.sig.arity (f.o.sig.rels + f.o.sig.chosen + f.o.sig.every) names) where
          taken : Taken (problem_of c) steps
          taken = all_taken c (problem_of c) steps b counted there

          abbrev text : List ℕ
          text = flat_map (line_at c (problem_of c)) steps

          plan_text_lem : plan_written usual question site given (length old) ≡ fitting (length old) text
          unfolding ◌>>=◌
          plan_text_lem = let (plan, e, w) = plan_there c (problem_of c) steps taken in plan_is (accepted plan) e ∙ ap (fitting (length old)) w

          text_few : length text < 2 ^ 64
          text_few = omega (arith, taken_few given steps t, lines_few c (short_names c held.accepts) (few_places c held.accepts) steps)

          -- what the writer leaves
          module _ (table-old table-new : List ℕ) (next : ℕ) (emits : (c : Case) → Is (problem_of c) table → NamesAre (problem_of c) question names → Taken (problem_of c) steps → Emits (flat_map (line_at c (problem_of c)) steps) table-old 0 table-new next) where
            its_lines : Emits text table-old 0 table-new next
            its_lines = emits c pass.table_of_lem.is (names_are question f.o.sig names held.holds.sound N c held.accepts held.holds.rels held.holds.chosen held.holds.every) taken

            bytes_are : next ≡ length text
            bytes_are = measured text_few its_lines

            pub planned_short : length old < next → Planned question site given old (Err (record { cause = ShortBuffer; place = next })) old
            unfolding fitting ◌>>=◌
            planned_short h =
                let s = room_short (length text) (length old) (subst (λ (k : ℕ). length old < k) bytes_are h) in
                refused_with question site given old (record { cause = ShortBuffer; place = next }) (plan_text_lem ∙ rw s (ap (refused 12) (sym bytes_are)))

          pub planned_written : (scratch after : List ℕ) (bytes last : ℕ) (new : List ℕ)
              → ((c : Case) → Is (problem_of c) table → NamesAre (problem_of c) question names → Taken (problem_of c) steps → Emits (flat_map (line_at c (problem_of c)) steps) scratch 0 after bytes)
              → ((c : Case) → Is (problem_of c) table → NamesAre (problem_of c) question names → Taken (problem_of c) steps → Emits (flat_map (line_at c (problem_of c)) steps) old 0 new last)
              → bytes ≤ length old → Planned question site given old (Ok bytes) new
          unfolding fitting ◌>>=◌
          planned_written scratch after bytes last new first second h =
              let b = bytes_are scratch after bytes first in
              let l : length text ≤ length old = subst (λ (k : ℕ). k ≤ length old) b h in
              let s = room_there (length text) (length old) l in
              written_with question site given old bytes text new (plan_text_lem ∙ rw s refl) b (whole_written l (its_lines old new last second))

-- what the writers ask for
module _ (question : List ℕ) (f : Front) (table : List ℕ) (B : Begun question f table) where
  pub begun_sound : SoundSignature question f.o.sig
  begun_sound = B.front.2.holds.sound

  pub begun_grounded : (m : Sized) → Ok m ≡ gate f → Grounded table
  begun_grounded m q =
      let (c, e, h) = B.front in
      table_is usual c f.m table h.grounded m (passed question B.site f B.facts table B.front m q).within

  pub begun_names : (names : List ℕ) → Named f.o.sig.from f.o.sig.to f.o.sig.arity (f.o.sig.rels + f.o.sig.chosen + f.o.sig.every) names → Names question names
  begun_names names N =
      let (c, e, h) = B.front in
      (names_are question f.o.sig names h.holds.sound N c h.accepts h.holds.rels h.holds.chosen h.holds.every).fit
