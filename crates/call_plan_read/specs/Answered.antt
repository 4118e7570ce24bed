-- What reading the steps of a plan answers and leaves. Assumes nothing.
use Rattle.std.specs.Prelude.{ℕ, ◌+◌, ◌^◌, ◌≤◌, ◌<◌, ◌≡◌, List, [], ◌∷◌, ◌++◌, Ok, Err}
use Rattle.std.specs.Prelude as P
use Rattle.std.proofs.Math.Path.{refl, ap}
use Rattle.std.proofs.Common.{sym, subst, ◌∙◌}
use native.Mathlib.Omega.{arith}
use Rattle.std.proofs.Math.ListN.{length, drop}
use Rattle.definitions.specs.Limits.{usual}
use Rattle.definitions.specs.Refusal.{Result, refused, accepted, ◌>>=◌, given}
use Rattle.definitions.specs.Problem.Truth.{Case}
use Rattle.definitions.specs.Problem.Atoms.{Problem, problem_of}
use Rattle.definitions.specs.Reply.Outcome.{read_case as case_of, room_for, written}
use Rattle.definitions.specs.Reply.Pddl.{PlanLine, read_plan_lines, step_from, steps_from, plan_steps, plan_read_from, read_plan}
use Rattle.laws.specs.Results.{accepted_eq, bind_parts}
use Rattle.print_line.specs.Printed.{print, print_is}
use Rattle.print_page.specs.Naming.{Named, names_are}
use Rattle.read_plan.specs.Lines.{FormedAs}
use Rattle.read_plan.specs.Tails.{Posed}
use Rattle.read_plan.specs.Writing.{StepsAs, StepsEnd}
use Rattle.open_case.specs.declared.Front.{Front}
use Rattle.refusal.specs.declared.Refusal.{Refusal}
use Rattle.refusal.specs.declared.Cause.TheVariants.{ShortBuffer}
use Rattle.refusal.specs.Numbers.{number_of}
use Rattle.problem_of_case.specs.declared.Sized.{Sized}
use Rattle.open_case.specs.Fronts.{Held, Fronted}
use Rattle.open_case.specs.Known.{actions_few, room_short, room_there}
use Rattle.open_case.specs.Replies.{Reply, result_of}
use Rattle.open_pddl.specs.Gates.{gate, gate_case, gate_third, gate_refused, gate_passed, Passed, passed}
use Rattle.call_plan.specs.Written.{Begun}

abbrev pub PlanReadAs : (question site plan old : List ℕ) → Reply → List ℕ → Type 0
PlanReadAs question site plan old r new = (result_of r ≡ (read_plan usual question site plan old).answer) × (new ≡ (read_plan usual question site plan old).steps)

-- lines that are formed
pub formed_lines : (plan : List ℕ) (count : ℕ) → FormedAs (read_plan_lines plan) (Ok count) → (ls : List PlanLine) × (read_plan_lines plan ≡ accepted ls)
unfolding FormedAs
formed_lines plan count F = by_result (read_plan_lines plan) F
  where
    by_result : (r : Result (List PlanLine)) → FormedAs r (Ok count) → (ls : List PlanLine) × (r ≡ accepted ls)
    by_result (refused k at) h = absurd h
    by_result (accepted ls) h = (ls, refl)

formed_count : (r : Result (List PlanLine)) (count : ℕ) (ls : List PlanLine) → FormedAs r (Ok count) → r ≡ accepted ls → count ≡ length ls
unfolding FormedAs
formed_count r count ls F e = subst (λ (x : Result (List PlanLine)). FormedAs x (Ok count)) e F

-- there are as many steps as lines
steps_many : (c : Case) (p : Problem) (ls : List PlanLine) (ks : List ℕ) → steps_from c p ls ≡ accepted ks → length ks ≡ length ls
unfolding steps_from
steps_many c p [] ks e = sym (ap length (accepted_eq [] ks e))
steps_many c p (l ∷ ls) ks e =
    let (k, a, f) = bind_parts (given (step_from c p l.words) 22 l.at) _ ks e in
    let (js, b, g) = bind_parts (steps_from c p ls) _ ks f in
    let n = steps_many c p ls js b in
    let m = ap length (accepted_eq (k ∷ js) ks g) in
    omega arith

module _ (question site plan old : List ℕ) where
  refused_with : (e : Refusal) → plan_steps usual question site plan (length old) ≡ refused (number_of e.cause) e.place → PlanReadAs question site plan old (Err e) old
  unfolding read_plan plan_read_from
  refused_with e q = (rw q refl, rw q refl)

  read_with : (count : ℕ) (ks new : List ℕ) → plan_steps usual question site plan (length old) ≡ accepted ks → count ≡ length ks → new ≡ written ks old
      → PlanReadAs question site plan old (Ok count) new
  unfolding read_plan plan_read_from
  read_with count ks new e b w = (rw e (ap accepted b), rw e w)

  -- the numbers go to the front
  front_written : (ks new : List ℕ) → length ks ≤ length old → new ≡ print old 0 ks → new ≡ written ks old
  unfolding written
  front_written ks new h e = let z : 0 + length ks ≡ length ks = omega arith in e ∙ print_is old 0 ks (omega arith) ∙ ap (λ (k : ℕ). ks ++ drop k old) z

  pub read_case : (e : Refusal) → case_of usual question site ≡ refused (number_of e.cause) e.place → PlanReadAs question site plan old (Err e) old
  unfolding plan_steps ◌>>=◌
  read_case e h = refused_with e (rw (gate_case question site (λ _. read_plan_lines plan) e h) refl)

module _ (question site : List ℕ) (f : Front) (facts table : List ℕ) (its : Fronted usual question site (Ok f) facts table) (plan old : List ℕ) where
  pub read_formless : (e : Refusal) → FormedAs (read_plan_lines plan) (Err e) → PlanReadAs question site plan old (Err e) old
  unfolding FormedAs plan_steps ◌>>=◌
  read_formless e F = by_result (read_plan_lines plan) refl F
    where
      by_result : (r : Result (List PlanLine)) → read_plan_lines plan ≡ r → FormedAs r (Err e) → PlanReadAs question site plan old (Err e) old
      by_result (refused k at) q (a, b) = refused_with question site plan old e
          (rw (gate_third question site f facts table its (λ _. read_plan_lines plan) (number_of e.cause) e.place (λ _. rw (a, b) q)) refl)
      by_result (accepted ls) q h = absurd h

  module _ (count : ℕ) (F : FormedAs (read_plan_lines plan) (Ok count)) where
    abbrev ls : List PlanLine
    ls = (formed_lines plan count F).0

    abbrev lines_are : read_plan_lines plan ≡ accepted ls
    lines_are = (formed_lines plan count F).1

    count_is : count ≡ length ls
    count_is = formed_count (read_plan_lines plan) count ls F lines_are

    pub read_gate : (e : Refusal) → Err e ≡ gate f → PlanReadAs question site plan old (Err e) old
    unfolding plan_steps ◌>>=◌
    read_gate e q = refused_with question site plan old e
        (rw (gate_refused question site f facts table its (λ _. read_plan_lines plan) ls (λ _. lines_are) e q) refl)

    module _ (m : Sized) (q : Ok m ≡ gate f) where
      abbrev c : Case
      c = its.0

      abbrev held : Held usual question c f facts table
      held = its.2

      abbrev pass : Passed c f m table
      pass = passed question site f facts table its m q

      read_is : plan_steps usual question site plan (length old) ≡ (room_for (length ls) (length old) >>= λ _. steps_from c (problem_of c) ls)
      unfolding plan_steps ◌>>=◌
      read_is = rw (gate_passed question site f facts table its (λ _. read_plan_lines plan) ls (λ _. lines_are) m q) refl

      pub read_short : length old < count → PlanReadAs question site plan old (Err (record { cause = ShortBuffer; place = count })) old
      unfolding ◌>>=◌
      read_short h =
          let s = room_short (length ls) (length old) (subst (λ (k : ℕ). length old < k) count_is h) in
          refused_with question site plan old (record { cause = ShortBuffer; place = count }) (read_is ∙ rw s (ap (refused 12) (sym count_is)))

      module _ (names : List ℕ)
          (N : Named f.o.sig.from f.o.sig.to f.o.sig.arity (f.o.sig.rels + f.o.sig.chosen + f.o.sig.every) names) where
        pub posed : Posed c question names table
        posed = record {
          accepts = held.accepts;
          plain = pass.plain;
          alone = pass.alone;
          is = pass.table_of_lem.is;
          names_are = names_are question f.o.sig names held.holds.sound N c held.accepts held.holds.rels held.holds.chosen
              held.holds.every;
          few = omega (arith, actions_few usual c f.m table held.grounded m pass.within);
          fits = pass.table_of_lem.fits;
        }

        module _ (there : count ≤ length old) where
          steps_are : plan_steps usual question site plan (length old) ≡ steps_from c (problem_of c) ls
          unfolding ◌>>=◌
          steps_are = read_is ∙ rw (room_there (length ls) (length old) (subst (λ (k : ℕ). k ≤ length old) count_is there)) refl

          pub read_stopped : (e : Refusal) (scratch after : List ℕ) → StepsEnd question names table plan (Err e) scratch after → PlanReadAs question site plan old (Err e) old
          unfolding StepsAs
          read_stopped e scratch after tried = by_result (steps_from c (problem_of c) ls) refl (tried c posed ls lines_are)
            where
              by_result : (r : Result (List ℕ)) → steps_from c (problem_of c) ls ≡ r → StepsAs r (Err e) scratch after → PlanReadAs question site plan old (Err e) old
              by_result (refused k place) q (a, b) = refused_with question site plan old e (rw (a, b) (steps_are ∙ q))
              by_result (accepted ks) q h = absurd h

          -- lines that are steps once are so again
          pub read_written : (many : ℕ) (scratch after : List ℕ) → StepsEnd question names table plan (Ok many) scratch after
              → (x : P.Result ℕ Refusal) (new : List ℕ) → StepsEnd question names table plan x old new → PlanReadAs question site plan old x new
          unfolding StepsAs
          read_written many scratch after tried x new second = by_result (steps_from c (problem_of c) ls) refl (tried c posed ls lines_are) x (second c posed ls lines_are)
            where
              by_result : (r : Result (List ℕ)) → steps_from c (problem_of c) ls ≡ r → StepsAs r (Ok many) scratch after
                  → (x : P.Result ℕ Refusal) → StepsAs r x old new → PlanReadAs question site plan old x new
              by_result (refused k place) q h x w = absurd h
              by_result (accepted ks) q h (Err e) w = absurd w
              by_result (accepted ks) q h (Ok n) (y, w) =
                  let len = steps_many c (problem_of c) ls ks q in
                  let m = count_is in
                  read_with question site plan old n ks new (steps_are ∙ q) y (front_written question site plan old ks new (omega arith) w)

-- what reading the steps asks for
pub begun_posed : (question : List ℕ) (f : Front) (table : List ℕ) (B : Begun question f table) → (m : Sized) → Ok m ≡ gate f → (plan : List ℕ) (count : ℕ)
    → FormedAs (read_plan_lines plan) (Ok count)
    → (names : List ℕ) → Named f.o.sig.from f.o.sig.to f.o.sig.arity (f.o.sig.rels + f.o.sig.chosen + f.o.sig.every) names
    → (c : Case) × Posed c question names table
begun_posed question f table B m q plan count F names N = (_, posed question B.site f B.facts table B.front plan [] count F m q names N)
