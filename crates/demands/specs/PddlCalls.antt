-- The four calls of job 11: what each writes or reads, what it refuses with, and what it leaves in its buffer.
use Prim.Native.Nat.{ℕ, zero, suc, ◌≤◌}
use Rattle.std.specs.Prelude.{◌≡◌, Bool, ◌||◌, T}
use Rattle.std.proofs.Math.Path.{refl, ap, ap₂, subst}
use Rattle.std.proofs.Common.{sym, ◌∙◌, ltb→lt, lt→ltb}
use Rattle.std.proofs.Math.Bool.{true, false, not}
use Rattle.std.proofs.Math.Option.{Option, none, some}
use mathlib.Core.List.{List, [], ◌∷◌}
use native.Mathlib.Omega.{arith}
use Rattle.std.proofs.Math.Dec.{ltb}
use Rattle.std.proofs.Math.ListN.{length}
use borrow.Author.Tests.{le-ltb}
use Rattle.definitions.specs.Limits.{CaseLimits}
use Rattle.definitions.specs.Lists.{all, any, is_some, is_in, is_empty}
use Rattle.definitions.specs.Refusal.{Result, refused, accepted, ◌>>=◌, refuse_if, given, ready_numbers, pddl_numbers}
use Rattle.definitions.specs.Sheet.Relations.{Relation}
use Rattle.definitions.specs.Problem.Truth.{Case}
use Rattle.definitions.specs.Problem.Atoms.{Problem, problem_of, atoms}
use Rattle.definitions.specs.Problem.Actions.{actions, action_at}
use Rattle.definitions.specs.Reply.Outcome.{CaseRead, read_filed, too_many_values, without_every, ground, Ready, asked, nothing, room_for, written, ThirdInput, take_steps}
use Rattle.definitions.specs.Reply.Lifted.{PlanStep}
use Rattle.definitions.specs.Reply.Pddl
use Rattle.laws.specs.Booleans.{T_of, T_and_l, T_and_r, and_T}
use Rattle.laws.specs.Results.{accepted_eq, bind_parts, not_refused, given_some, refused_accepted, refused_number}
use Rattle.laws.specs.Numbers.{action_some, action_below}
use Rattle.laws.specs.Reader.{not_some}
use Rattle.laws.specs.Refusals.{In, Refuses, Sheet, Early, bind_by, if_by, given_by, accepted_by, text_by, weaken, among, gated_by, steps_by, sheet_early, room_by, nothing_by, every_by, told}
use Rattle.demands.specs.Buffers.{written_length, has_room}
use Rattle.laws.specs.Asked.{every_passes, every_fails}
use Pddl.{plan_step, plan_from, plan_of, plan_text, domain_text, instance_text, PlanLine, add_plan_line, read_plan_lines, step_from, steps_from, no_types, ready_for_pddl, text_from, fitting, write_domain}
use Pddl.{write_instance, plan_written, write_plan, plan_steps, plan_read_from, read_plan}

abbrev Plain : ℕ → Type 0
Plain = In pddl_numbers

abbrev Writes : ℕ → Type 0
Writes = In (13 ∷ pddl_numbers)

early_plain : (k : ℕ) → Early k → Plain k
unfolding is_in all any
early_plain = among ready_numbers pddl_numbers refl

sheet_plain : (k : ℕ) → Sheet k → Plain k
sheet_plain k h = early_plain k (sheet_early k h)

plain_writes : (k : ℕ) → Plain k → Writes k
unfolding is_in all any
plain_writes = among pddl_numbers (13 ∷ pddl_numbers) refl

types_by : (c : Case) → Refuses Plain (no_types c)
unfolding no_types is_in any
types_by c = if_by Plain _ 22 zero refl

ready_by : {A : Type 0} (L : CaseLimits) (question site : List ℕ) (third : CaseRead → Result A) → ((c : CaseRead) → Refuses Sheet (third c)) → Refuses Plain (ready_for_pddl L question site third)
unfolding ready_for_pddl
ready_by L question site third h = gated_by Plain sheet_plain L question site third no_types without_every nothing (λ c. weaken sheet_plain _ (h c)) types_by (λ c. weaken sheet_plain _ (every_by c)) (λ p. weaken sheet_plain _ (nothing_by p))

fitting_by : (room : ℕ) (t : List ℕ) → Refuses Plain (fitting room t)
unfolding fitting
fitting_by room t = bind_by Plain _ _ (weaken early_plain _ (room_by (length t) room)) (λ _. accepted_by Plain t)

-- a text that fits
fits : (room : ℕ) (t u : List ℕ) → fitting room t ≡ accepted u → length u ≤ room
unfolding fitting
fits room t u e = let (w, r, q) = bind_parts (room_for (length t) room) _ u e in subst (λ (x : List ℕ). length x ≤ room) (accepted_eq t u q) (has_room (length t) room w r)

-- ---- a text into a buffer: a refusal leaves it, and its length stays
text_refuse : (P : ℕ → Type 0) (m : Result (List ℕ)) (old : List ℕ) → Refuses P m → (k place : ℕ) → (text_from m old).answer ≡ refused k place → P k × ((text_from m old).text ≡ old)
unfolding text_from
text_refuse P (refused j at) old h k place e = (subst P (refused_number j k at place e) (told P (refused j at) j at refl h), refl)
text_refuse P (accepted t) old h k place e = absurd (refused_accepted (sym e))

text_length : (m : Result (List ℕ)) (old : List ℕ) → ((t : List ℕ) → m ≡ accepted t → length t ≤ length old) → length (text_from m old).text ≡ length old
unfolding text_from
text_length (refused k place) old h = refl
text_length (accepted t) old h = written_length t old (h t refl)

lines_by : (text : List ℕ) → Refuses Sheet (read_plan_lines text)
unfolding read_plan_lines add_plan_line is_in any
lines_by text = text_by Sheet add_plan_line refl (λ ls l. bind_by Sheet _ _ (given_by Sheet _ 2 l.at refl) (λ ws. accepted_by Sheet _)) [] text

plan_by : (p : Problem) (ks : List ℕ) (i : ℕ) → Refuses Writes (plan_from p i ks)
unfolding plan_from is_in any
plan_by p [] i = accepted_by Writes []
plan_by p (k ∷ ks) i = bind_by Writes _ _ (given_by Writes (action_at p k) 13 i refl) (λ a. bind_by Writes _ _ (plan_by p ks (suc i)) (λ rest. accepted_by Writes _))

steps_named_by : (c : Case) (p : Problem) (ls : List PlanLine) → Refuses Plain (steps_from c p ls)
unfolding steps_from is_in any
steps_named_by c p [] = accepted_by Plain []
steps_named_by c p (l ∷ ls) = bind_by Plain _ _ (given_by Plain (step_from c p l.words) 22 l.at refl) (λ k. bind_by Plain _ _ (steps_named_by c p ls) (λ ks. accepted_by Plain _))

steps_many : (c : Case) (p : Problem) (ls : List PlanLine) (ks : List ℕ) → steps_from c p ls ≡ accepted ks → length ks ≡ length ls
unfolding steps_from
steps_many c p [] ks e = ap length (sym (accepted_eq [] ks e))
steps_many c p (l ∷ ls) ks e =
    let (k, q, e₁) = bind_parts (given (step_from c p l.words) 22 l.at) _ ks e in
    let (rest, r, e₂) = bind_parts (steps_from c p ls) _ ks e₁ in
    ap length (sym (accepted_eq (k ∷ rest) ks e₂)) ∙ ap suc (steps_many c p ls rest r)

-- ---- steps have a plan exactly if each is an action's number
module _ (p : Problem) where
  pub plan_some : (ks : List ℕ) (i : ℕ) → T (all (λ k. ltb k (actions p)) ks) → (plan : List PlanStep) × (plan_from p i ks ≡ accepted plan)
  unfolding plan_from all given ◌>>=◌
  plan_some [] i t = ([], refl)
  plan_some (k ∷ ks) i t =
      let (a, e) = action_some p k (ltb→lt k (actions p) (T_and_l (ltb k (actions p)) _ t)) in
      let (rest, r) = plan_some ks (suc i) (T_and_r (ltb k (actions p)) _ t) in
      (plan_step p a ∷ rest, rw (e, r) refl)

  pub some_plan : (ks : List ℕ) (i : ℕ) (plan : List PlanStep) → plan_from p i ks ≡ accepted plan → T (all (λ k. ltb k (actions p)) ks)
  unfolding plan_from all
  some_plan [] i plan e = tt
  some_plan (k ∷ ks) i plan e =
      let (a, q, e₁) = bind_parts (given (action_at p k) 13 i) _ plan e in
      let (rest, r, e₂) = bind_parts (plan_from p (suc i) ks) _ plan e₁ in
      and_T (ltb k (actions p)) _ (lt→ltb k (actions p) (action_below p k a (given_some (action_at p k) 13 i a q))) (some_plan ks (suc i) rest r)

module _ (L : CaseLimits) (question site : List ℕ) where
  pub domain_refuse : (old : List ℕ) (k place : ℕ) → (write_domain L question site old).answer ≡ refused k place → In pddl_numbers k × ((write_domain L question site old).text ≡ old)
  unfolding write_domain
  domain_refuse old = text_refuse Plain _ old (bind_by Plain _ _ (ready_by L question site nothing nothing_by) (λ r. fitting_by (length old) (domain_text r.case)))

  pub domain_length : (old : List ℕ) → length (write_domain L question site old).text ≡ length old
  unfolding write_domain
  domain_length old = text_length _ old (λ t e. let (r, a, f) = bind_parts (ready_for_pddl L question site nothing) _ t e in fits (length old) (domain_text r.case) t f)

  pub instance_refuse : (old : List ℕ) (k place : ℕ) → (write_instance L question site old).answer ≡ refused k place → In pddl_numbers k × ((write_instance L question site old).text ≡ old)
  unfolding write_instance
  instance_refuse old = text_refuse Plain _ old (bind_by Plain _ _ (ready_by L question site nothing nothing_by) (λ r. fitting_by (length old) (instance_text r.case)))

  pub instance_length : (old : List ℕ) → length (write_instance L question site old).text ≡ length old
  unfolding write_instance
  instance_length old = text_length _ old (λ t e. let (r, a, f) = bind_parts (ready_for_pddl L question site nothing) _ t e in fits (length old) (instance_text r.case) t f)

  pub plan_refuse : (steps : ThirdInput) (old : List ℕ) (k place : ℕ) → (write_plan L question site steps old).answer ≡ refused k place → In (13 ∷ pddl_numbers) k × ((write_plan L question site steps old).text ≡ old)
  unfolding write_plan plan_written plan_of
  plan_refuse steps old = text_refuse Writes _ old (bind_by Writes _ _ (weaken plain_writes _ (ready_by L question site (λ _. take_steps steps) (λ _. steps_by steps))) (λ r. bind_by Writes _ _ (plan_by r.problem
      r.third zero) (λ plan. weaken plain_writes _ (fitting_by (length old) (plan_text r.case plan)))))

  pub plan_length : (steps : ThirdInput) (old : List ℕ) → length (write_plan L question site steps old).text ≡ length old
  unfolding write_plan plan_written
  plan_length steps old = text_length _ old (λ t e.
      let (r, a, f) = bind_parts (ready_for_pddl L question site (λ _. take_steps steps)) _ t e in
      let (plan, b, g) = bind_parts (plan_of r.problem r.third) _ t f in
      fits (length old) (plan_text r.case plan) t g)

  pub read_refuse : (plan old : List ℕ) (k place : ℕ) → (read_plan L question site plan old).answer ≡ refused k place → In pddl_numbers k × ((read_plan L question site plan old).steps ≡ old)
  unfolding read_plan plan_read_from plan_steps
  read_refuse plan old k place e = from_this _ (bind_by Plain _ _ (ready_by L question site (λ _. read_plan_lines plan) (λ _. lines_by plan)) (λ r. bind_by Plain _ _ (weaken early_plain _ (room_by (length r.third) (length old))) (λ _. steps_named_by r.case r.problem r.third))) e
    where
      from_this : (m : Result (List ℕ)) → Refuses Plain m → (plan_read_from m old).answer ≡ refused k place → In pddl_numbers k × ((plan_read_from m old).steps ≡ old)
      from_this (refused j at) h e = (subst Plain (refused_number j k at place e) (told Plain (refused j at) j at refl h), refl)
      from_this (accepted ks) h e = absurd (refused_accepted (sym e))

  read_many : (plan old ks : List ℕ) → plan_steps L question site plan (length old) ≡ accepted ks → length ks ≤ length old
  unfolding plan_steps
  read_many plan old ks e =
      let (r, a, f) = bind_parts (ready_for_pddl L question site (λ _. read_plan_lines plan)) _ ks e in
      let (u, b, g) = bind_parts (room_for (length r.third) (length old)) _ ks f in
      let h = has_room (length r.third) (length old) u b in
      let q = steps_many r.case r.problem r.third ks g in
      omega arith

  pub read_length : (plan old : List ℕ) → length (read_plan L question site plan old).steps ≡ length old
  unfolding read_plan plan_read_from
  read_length plan old = from_this (plan_steps L question site plan (length old)) (read_many plan old)
    where
      from_this : (m : Result (List ℕ)) → ((ks : List ℕ) → m ≡ accepted ks → length ks ≤ length old) → length (plan_read_from m old).steps ≡ length old
      from_this (refused k place) h = refl
      from_this (accepted ks) h = written_length ks old (h ks refl)

-- ---- 22, place 0, where the case has types: after the third input, before 11
module _ (L : CaseLimits) (question site : List ℕ) (c : CaseRead) (filed : read_filed L question site ≡ accepted c) (typed : is_empty c.case.question.types ≡ false) where
  typed_ready : {A : Type 0} (third : CaseRead → Result A) (t : A) → third c ≡ accepted t → ready_for_pddl L question site third ≡ refused 22 zero
  unfolding ready_for_pddl asked no_types refuse_if ◌>>=◌
  typed_ready third t e = rw (filed, e, typed) refl

  pub typed_refused : (old : List ℕ) → ((write_domain L question site old).answer ≡ refused 22 zero) × ((write_instance L question site old).answer ≡ refused 22 zero)
  unfolding write_domain write_instance text_from nothing ◌>>=◌
  typed_refused old = (rw (typed_ready nothing tt refl) refl, rw (typed_ready nothing tt refl) refl)

  pub typed_plan : (given : ThirdInput) (steps : List ℕ) → take_steps given ≡ accepted steps → (old : List ℕ) → (write_plan L question site given old).answer ≡ refused 22 zero
  unfolding write_plan plan_written text_from ◌>>=◌
  typed_plan given steps e old = rw (typed_ready (λ _. take_steps given) steps e) refl

  pub typed_read : (plan : List ℕ) (ls : List PlanLine) → read_plan_lines plan ≡ accepted ls → (old : List ℕ) → (read_plan L question site plan old).answer ≡ refused 22 zero
  unfolding read_plan plan_steps plan_read_from ◌>>=◌
  typed_read plan ls e old = rw (typed_ready (λ _. read_plan_lines plan) ls e) refl

-- ---- 23, place 0, where the case has an `every` line and no types: after the third input, unless the case is 11
module _ (L : CaseLimits) (question site : List ℕ) (c : CaseRead) (filed : read_filed L question site ≡ accepted c) (plain : c.case.question.types ≡ []) (k : Relation) (varies : c.case.question.every ≡ some k)
    (within : (ltb L.atoms (atoms (problem_of c.case)) || ltb L.actions (actions (problem_of c.case))) ≡ false) where
  ground_every : {A : Type 0} (f : Problem → Result A) → ((p : Problem) → f p ≡ refused 23 zero) → (ground L c.case >>= f) ≡ refused 23 zero
  unfolding ground refuse_if ◌>>=◌
  ground_every f h = rw within (by_test (too_many_values L (problem_of c.case)))
    where
      by_test : (b : Bool) → ((refuse_if b 23 zero >>= λ _. accepted (problem_of c.case)) >>= f) ≡ refused 23 zero
      by_test true = refl
      by_test false = h (problem_of c.case)

  every_ready : {A : Type 0} (third : CaseRead → Result A) (t : A) → third c ≡ accepted t → ready_for_pddl L question site third ≡ refused 23 zero
  unfolding ready_for_pddl asked no_types refuse_if ◌>>=◌ is_empty
  every_ready third t e = let q : is_empty c.case.question.types ≡ true = ap is_empty plain in rw (filed, e, q) (ground_every _ (λ p. rw (every_fails c.case k varies) refl))

  pub every_refused : (old : List ℕ) → ((write_domain L question site old).answer ≡ refused 23 zero) × ((write_instance L question site old).answer ≡ refused 23 zero)
  unfolding write_domain write_instance text_from nothing ◌>>=◌
  every_refused old = (rw (every_ready nothing tt refl) refl, rw (every_ready nothing tt refl) refl)

  pub every_plan : (given : ThirdInput) (steps : List ℕ) → take_steps given ≡ accepted steps → (old : List ℕ) → (write_plan L question site given old).answer ≡ refused 23 zero
  unfolding write_plan plan_written text_from ◌>>=◌
  every_plan given steps e old = rw (every_ready (λ _. take_steps given) steps e) refl

  pub every_read : (plan : List ℕ) (ls : List PlanLine) → read_plan_lines plan ≡ accepted ls → (old : List ℕ) → (read_plan L question site plan old).answer ≡ refused 23 zero
  unfolding read_plan plan_steps plan_read_from ◌>>=◌
  every_read plan ls e old = rw (every_ready (λ _. read_plan_lines plan) ls e) refl

-- ---- so a call that answers has a case with neither
nil_of : {A : Type 0} (l : List A) → not (is_empty l) ≡ false → l ≡ []
unfolding is_empty
nil_of [] e = refl
nil_of (x ∷ l) e = absurd (subst T e tt)

text_answers : (m : Result (List ℕ)) (old : List ℕ) (many : ℕ) → (text_from m old).answer ≡ accepted many → (t : List ℕ) × (m ≡ accepted t)
unfolding text_from
text_answers (refused k place) old many e = absurd (refused_accepted e)
text_answers (accepted t) old many e = (t, refl)

steps_answer : (m : Result (List ℕ)) (old : List ℕ) (many : ℕ) → (plan_read_from m old).answer ≡ accepted many → (t : List ℕ) × (m ≡ accepted t)
unfolding plan_read_from
steps_answer (refused k place) old many e = absurd (refused_accepted e)
steps_answer (accepted t) old many e = (t, refl)

module _ (L : CaseLimits) (question site : List ℕ) (c : CaseRead) (filed : read_filed L question site ≡ accepted c) where
  abbrev Taken : Type 0
  Taken = (c.case.question.types ≡ []) × (c.case.question.every ≡ none)

  ready_taken : {A : Type 0} (third : CaseRead → Result A) (r : Ready A) → ready_for_pddl L question site third ≡ accepted r → Taken
  unfolding ready_for_pddl asked no_types without_every
  ready_taken third r e =
      let (d, a, e₁) = bind_parts (read_filed L question site) _ r e in
      let (t, b, e₂) = bind_parts (third d) _ r e₁ in
      let (u, h, e₃) = bind_parts (no_types d.case) _ r e₂ in
      let (p, g, e₄) = bind_parts (ground L d.case) _ r e₃ in
      let (v, i, e₅) = bind_parts (without_every d.case) _ r e₄ in
      subst (λ (x : CaseRead). (x.case.question.types ≡ []) × (x.case.question.every ≡ none)) (accepted_eq d c (sym a ∙ filed))
      (nil_of d.case.question.types (not_refused _ 22 zero u h), not_some d.case.question.every (T_of (ap not (not_refused (is_some d.case.question.every) 23 zero v i))))

  pub domain_taken : (old : List ℕ) (many : ℕ) → (write_domain L question site old).answer ≡ accepted many → Taken
  unfolding write_domain
  domain_taken old many e = let (t, q) = text_answers _ old many e in let (r, a, f) = bind_parts (ready_for_pddl L question site nothing) _ t q in ready_taken nothing r a

  pub instance_taken : (old : List ℕ) (many : ℕ) → (write_instance L question site old).answer ≡ accepted many → Taken
  unfolding write_instance
  instance_taken old many e = let (t, q) = text_answers _ old many e in let (r, a, f) = bind_parts (ready_for_pddl L question site nothing) _ t q in ready_taken nothing r a

  pub plan_taken : (given : ThirdInput) (old : List ℕ) (many : ℕ) → (write_plan L question site given old).answer ≡ accepted many → Taken
  unfolding write_plan plan_written
  plan_taken given old many e = let (t, q) = text_answers _ old many e in let (r, a, f) = bind_parts (ready_for_pddl L question site (λ _. take_steps given)) _ t q in ready_taken (λ _. take_steps given) r a

  pub read_taken : (plan old : List ℕ) (many : ℕ) → (read_plan L question site plan old).answer ≡ accepted many → Taken
  unfolding read_plan plan_steps
  read_taken plan old many e = let (t, q) = steps_answer _ old many e in let (r, a, f) = bind_parts (ready_for_pddl L question site (λ _. read_plan_lines plan)) _ t q in ready_taken (λ _. read_plan_lines plan) r a

  -- a text that is not read as lines
  lines_refused : (text : List ℕ) (k at room : ℕ) → read_plan_lines text ≡ refused k at → plan_steps L question site text room ≡ refused k at
  unfolding plan_steps ready_for_pddl asked ◌>>=◌
  lines_refused text k at room q = rw (filed, q) refl

-- ---- an accepted case without types and without an `every` line: what each call gives
module _ (L : CaseLimits) (question site : List ℕ) (c : CaseRead) (p : Problem) (filed : read_filed L question site ≡ accepted c) (grounds : ground L c.case ≡ accepted p) (plain : c.case.question.types ≡ []) (alone : c.case.question.every ≡ none) where
  pub ready : {A : Type 0} (third : CaseRead → Result A) (t : A) → third c ≡ accepted t → ready_for_pddl L question site third ≡ accepted (record { case = c.case; labels = c.labels; problem = p; third = t })
  unfolding ready_for_pddl asked no_types nothing refuse_if ◌>>=◌ is_empty
  ready third t e = let q : is_empty c.case.question.types ≡ true = ap is_empty plain in rw (filed, e, q, grounds, every_passes c.case alone) refl

  roomy : (t : List ℕ) (room : ℕ) → length t ≤ room → fitting room t ≡ accepted t
  unfolding fitting room_for refuse_if ◌>>=◌
  roomy t room h = let e : ltb room (length t) ≡ false = le-ltb room (length t) h in rw e refl

  pub domain_written : (old : List ℕ) → length (domain_text c.case) ≤ length old → write_domain L question site old ≡ record { answer = accepted (length (domain_text c.case)); text = written (domain_text c.case) old }
  unfolding write_domain text_from nothing ◌>>=◌
  domain_written old h = rw (ready nothing tt refl, roomy (domain_text c.case) (length old) h) refl

  pub instance_written : (old : List ℕ) → length (instance_text c.case) ≤ length old → write_instance L question site old ≡ record { answer = accepted (length (instance_text c.case)); text = written (instance_text c.case) old }
  unfolding write_instance text_from nothing ◌>>=◌
  instance_written old h = rw (ready nothing tt refl, roomy (instance_text c.case) (length old) h) refl

  pub plan_written_lem : (given : ThirdInput) (steps : List ℕ) → take_steps given ≡ accepted steps → (plan : List PlanStep) → plan_of p steps ≡ accepted plan → (old : List ℕ) → length (plan_text c.case plan) ≤ length old
      → write_plan L question site given old ≡ record { answer = accepted (length (plan_text c.case plan)); text = written (plan_text c.case plan) old }
  unfolding write_plan plan_written text_from ◌>>=◌
  plan_written_lem given steps e plan q old h = rw (ready (λ _. take_steps given) steps e, q, roomy (plan_text c.case plan) (length old) h) refl

  pub plan_read : (text : List ℕ) (ls : List PlanLine) → read_plan_lines text ≡ accepted ls → (steps : List ℕ) → steps_from c.case p ls ≡ accepted steps → (old : List ℕ) → length ls ≤ length old
      → read_plan L question site text old ≡ record { answer = accepted (length steps); steps = written steps old }
  unfolding read_plan plan_steps plan_read_from room_for refuse_if ◌>>=◌
  plan_read text ls e steps q old h = let r : ltb (length old) (length ls) ≡ false = le-ltb (length old) (length ls) h in rw (ready (λ _. read_plan_lines text) ls e, r, q) refl

  lines_taken : (text : List ℕ) (ls : List PlanLine) (room : ℕ) → read_plan_lines text ≡ accepted ls → plan_steps L question site text room ≡ (room_for (length ls) room >>= λ _. steps_from c.case p ls)
  unfolding plan_steps ◌>>=◌
  lines_taken text ls room q = rw (ready (λ _. read_plan_lines text) ls q) refl

  -- and a plan that is read was read as lines, and these as steps
  pub read_told : (text old : List ℕ) (count : ℕ) → (read_plan L question site text old).answer ≡ accepted count
      → (ls : List PlanLine) × (read_plan_lines text ≡ accepted ls) × ((steps : List ℕ) × (steps_from c.case p ls ≡ accepted steps) × (length steps ≡ count) × ((read_plan L question site text old).steps ≡ written steps old))
  unfolding read_plan plan_read_from
  read_told text old count e = by_result (plan_steps L question site text (length old)) refl e
    where
      by_lines : (r : Result (List PlanLine)) → read_plan_lines text ≡ r → (steps : List ℕ) → plan_steps L question site text (length old) ≡ accepted steps → (ls : List PlanLine) × (read_plan_lines text ≡ accepted ls) × (steps_from c.case p ls ≡ accepted steps)
      by_lines (refused k at) q steps e = absurd (refused_accepted (sym (lines_refused L question site c filed text k at (length old) q) ∙ e))
      by_lines (accepted ls) q steps e = let (u, r, s) = bind_parts (room_for (length ls) (length old)) (λ _. steps_from c.case p ls) steps (sym (lines_taken text ls (length old) q) ∙ e) in (ls, q, s)

      by_result : (m : Result (List ℕ)) → plan_steps L question site text (length old) ≡ m → (plan_read_from m old).answer ≡ accepted count
          → (ls : List PlanLine) × (read_plan_lines text ≡ accepted ls) × ((steps : List ℕ) × (steps_from c.case p ls ≡ accepted steps) × (length steps ≡ count) × ((plan_read_from m old).steps ≡ written steps old))
      by_result (refused k place) q e = absurd (refused_accepted e)
      by_result (accepted steps) q e = let (ls, r, s) = by_lines (read_plan_lines text) refl steps q in (ls, r, (steps, s, accepted_eq (length steps) count e, refl))

-- ---- where the case has no types, a plan that is read as lines and is 22 has a line that is no step
module _ (L : CaseLimits) (question site : List ℕ) (c : CaseRead) (p : Problem) (filed : read_filed L question site ≡ accepted c) (grounds : ground L c.case ≡ accepted p) (plain : c.case.question.types ≡ []) where
  varied_steps : (k : Relation) → c.case.question.every ≡ some k → (text : List ℕ) (ls : List PlanLine) (room : ℕ) → read_plan_lines text ≡ accepted ls → plan_steps L question site text room ≡ refused 23 zero
  unfolding plan_steps ready_for_pddl asked no_types refuse_if ◌>>=◌ is_empty
  varied_steps k i text ls room e = let q : is_empty c.case.question.types ≡ true = ap is_empty plain in rw (filed, e, q, grounds, every_fails c.case k i) refl

  pub read_none : (text old : List ℕ) (place : ℕ) → (read_plan L question site text old).answer ≡ refused 22 place
      → (c.case.question.every ≡ none) × ((ls : List PlanLine) × (read_plan_lines text ≡ accepted ls) × (steps_from c.case p ls ≡ refused 22 place))
  unfolding read_plan plan_read_from room_for refuse_if ◌>>=◌ is_in any
  read_none text old place e = by_lines (read_plan_lines text) refl (steps_refused (plan_steps L question site text (length old)) e)
    where
      steps_refused : (m : Result (List ℕ)) → (plan_read_from m old).answer ≡ refused 22 place → m ≡ refused 22 place
      steps_refused (refused k at) e = let a : k ≡ 22 = cc in let b : at ≡ place = cc in ap₂ refused a b
      steps_refused (accepted ks) e = absurd (refused_accepted (sym e))

      by_room : (ls : List PlanLine) (b : Bool) → (refuse_if b 12 (length ls) >>= λ _. steps_from c.case p ls) ≡ refused 22 place → steps_from c.case p ls ≡ refused 22 place
      by_room ls true e = absurd (omega (arith, refused_number 12 22 (length ls) place e))
      by_room ls false e = e

      by_every : (ls : List PlanLine) → read_plan_lines text ≡ accepted ls → (o : Option Relation) → c.case.question.every ≡ o → plan_steps L question site text (length old) ≡ refused 22 place
          → (c.case.question.every ≡ none) × ((ls : List PlanLine) × (read_plan_lines text ≡ accepted ls) × (steps_from c.case p ls ≡ refused 22 place))
      by_every ls q none i e = (i, (ls, q, by_room ls (ltb (length old) (length ls)) (sym (lines_taken L question site c p filed grounds plain i text ls (length old) q) ∙ e)))
      by_every ls q (some k) i e = absurd (omega (arith, refused_number 23 22 zero place (sym (varied_steps k i text ls (length old) q) ∙ e)))

      by_lines : (r : Result (List PlanLine)) → read_plan_lines text ≡ r → plan_steps L question site text (length old) ≡ refused 22 place
          → (c.case.question.every ≡ none) × ((ls : List PlanLine) × (read_plan_lines text ≡ accepted ls) × (steps_from c.case p ls ≡ refused 22 place))
      by_lines (refused k at) q e = absurd (T_of (subst Sheet (refused_number k 22 at place (sym (lines_refused L question site c filed text k at (length old) q) ∙ e)) (told Sheet (read_plan_lines text) k at q (lines_by text))))
      by_lines (accepted ls) q e = by_every ls q c.case.question.every refl e
