-- Many step lists of one case: each gets what a check of it alone gives, and the call keeps what it is lent.
use Prim.Native.Nat.{ℕ, zero, suc, ◌+◌, ◌≤◌, ◌<◌}
use Rattle.std.specs.Prelude.{◌≡◌, ◌↔◌, Bool, true, drop, if◌then◌else◌}
use Rattle.std.proofs.Math.Path.{refl, sym, ap}
use Rattle.std.proofs.Common.{subst, ◌∙◌, arith, length-drop, length-take-le}
use Rattle.std.proofs.Math.Bool.{false}
use mathlib.Core.List.{List, [], ◌∷◌, map}
use Rattle.std.proofs.Math.Dec.{ltb}
use Rattle.std.proofs.Math.ListN.{length, take}
use borrow.Author.Tests.{lt-ltb, le-ltb, ltb-false}
use Rattle.definitions.specs.Limits.{CaseLimits, step_limit}
use Rattle.definitions.specs.Lists.{any, is_in}
use Rattle.definitions.specs.Refusal.{Result, refused, accepted, ◌>>=◌, refuse_if, ready_numbers, run_numbers}
use Rattle.definitions.specs.Problem.Atoms.{Problem, initial, state_words}
use Rattle.definitions.specs.Problem.Strips.{run, reaches_goal}
use Rattle.definitions.specs.Reply.Outcome.{reply_number, reply_place, CaseRead, Ready, nothing, read_problem, room_for, state_length, written, as_numbers, take_steps, ready_to_run, checked_from, check_steps}
use Rattle.definitions.specs.Reply.Tries.{Try, try_list, tried, ready_to_try, tried_from, try_lists}
use Rattle.laws.specs.Booleans.{T_of}
use Rattle.laws.specs.Results.{bind_parts, is_accepted_lem, not_refused, refused_accepted, refused_number}
use Rattle.laws.specs.Words.{state_length_lem}
use Rattle.demands.specs.Accepting.{run_accepts, run_count}
use Rattle.laws.specs.Asked
use Rattle.laws.specs.Refusals.{In, Refuses, Early, told, run_refuses, asked_by, nothing_by, room_by}
use Rattle.demands.specs.Buffers.{written_length, has_room}

-- no step is refused with number 0
run_not_zero : In run_numbers 0 → ⊥
unfolding is_in any
run_not_zero h = T_of h

-- ---- one list
part_length : (first len : ℕ) (steps : List ℕ) → first + len ≤ length steps → length (take len (drop first steps)) ≡ len
part_length first len steps h = let d = length-drop first steps in length-take-le len (drop first steps) (omega (arith, d, h))

module _ (p : Problem) (steps : List ℕ) (first len : ℕ) where
  -- a list that is all there: 1, or its run
  there : first + len ≤ length steps → try_list p steps first len ≡ (refuse_if (ltb step_limit len) 1 zero >>= λ _. (run p (take len (drop first steps))).answer)
  unfolding try_list room_for refuse_if ◌>>=◌
  there h = let e : ltb (length steps) (first + len) ≡ false = le-ltb (length steps) (first + len) h in rw e refl

  when_accepted : (n : ℕ) → try_list p steps first len ≡ accepted n → (len ≤ step_limit) × (first + len ≤ length steps) × (reaches_goal p (take len (drop first steps)) ≡ true)
  unfolding try_list
  when_accepted n e =
      let (u, a, e₁) = bind_parts (refuse_if (ltb step_limit len) 1 zero) _ n e in
      let (v, b, e₂) = bind_parts (room_for (first + len) (length steps)) _ n e₁ in
      let ks : List ℕ = take len (drop first steps) in
      (ltb-false step_limit len (not_refused (ltb step_limit len) 1 zero u a), has_room (first + len) (length steps) v b, sym (run_accepts p ks) ∙ is_accepted_lem (run p ks).answer n e₂)

  reaching : len ≤ step_limit → first + len ≤ length steps → reaches_goal p (take len (drop first steps)) ≡ true → try_list p steps first len ≡ accepted len
  unfolding refuse_if ◌>>=◌
  reaching a b g = there b ∙ rw (le-ltb step_limit len a) (run_count p (take len (drop first steps)) (T_of g) ∙ ap accepted (part_length first len steps b))

  -- no refusal has the number 0
  not_zero : (k place : ℕ) → try_list p steps first len ≡ refused k place → k ≡ 0 → ⊥
  unfolding try_list room_for refuse_if ◌>>=◌
  not_zero k place e z = by_test (ltb step_limit len) (ltb (length steps) (first + len)) e
    where
      late : (run p (take len (drop first steps))).answer ≡ refused k place → ⊥
      late e = run_not_zero (subst (In run_numbers) z (run_refuses p (take len (drop first steps)) k place e))

      by_test : (b c : Bool) → (refuse_if b 1 zero >>= λ _. refuse_if c 12 (first + len) >>= λ _. (run p (take len (drop first steps))).answer) ≡ refused k place → ⊥
      by_test true c e = let h = refused_number 1 k zero place e in absurd (omega (arith, h, z))
      by_test false true e = let h = refused_number 12 k (first + len) place e in absurd (omega (arith, h, z))
      by_test false false e = late e

  -- it has 0 exactly if it is short enough, all there, and reaches the goal
  pub accepts : (reply_number (try_list p steps first len) ≡ 0) ↔ ((len ≤ step_limit) × (first + len ≤ length steps) × (reaches_goal p (take len (drop first steps)) ≡ true))
  unfolding reply_number
  accepts = (λ e. told (try_list p steps first len) refl e, λ h. let (a, b, g) = h in ap reply_number (reaching a b g))
    where
      told : (r : Result ℕ) → try_list p steps first len ≡ r → reply_number r ≡ 0 → (len ≤ step_limit) × (first + len ≤ length steps) × (reaches_goal p (take len (drop first steps)) ≡ true)
      told (refused k place) e z = absurd (not_zero k place e z)
      told (accepted n) e z = when_accepted n e

  -- and then its place is its length
  pub place_is : reply_number (try_list p steps first len) ≡ 0 → reply_place (try_list p steps first len) ≡ len
  unfolding reply_place
  place_is e = let (a, b, g) = accepts.0 e in ap reply_place (reaching a b g)

-- one that is not all there: 1, or 12 and the sum
pub outside : (p : Problem) (steps : List ℕ) (t : Try) → length steps < t.first + t.len
    → tried p steps t ≡ record { first = t.first; len = t.len; number = if ltb step_limit t.len then 1 else 12; place = if ltb step_limit t.len then 0 else t.first + t.len }
unfolding tried try_list room_for refuse_if ◌>>=◌ reply_number reply_place
outside p steps t h = let e : ltb (length steps) (t.first + t.len) ≡ true = lt-ltb (length steps) (t.first + t.len) h in rw e (by_test (ltb step_limit t.len))
  where
    reply : Bool → Result ℕ
    reply b = refuse_if b 1 zero >>= λ _. ◌>>=◌ {A = Unit {0}} (refused 12 (t.first + t.len)) (λ _. (run p (take t.len (drop t.first steps))).answer)

    by_test : (b : Bool)
        → ◌≡◌ {A = Try} (record { first = t.first; len = t.len; number = reply_number (reply b); place = reply_place (reply b) })
        (record { first = t.first; len = t.len; number = if b then 1 else 12; place = if b then 0 else t.first + t.len })
    by_test true = refl
    by_test false = refl

module _ (L : CaseLimits) (question site : List ℕ) (p : Problem) (is_problem : read_problem L question site ≡ accepted p) (state : List ℕ) (room : state_length p ≤ length state) where
  abbrev rooms : Problem → Result (Unit {0})
  rooms q = room_for (state_length q) (length state)

  has : rooms p ≡ accepted tt
  unfolding room_for refuse_if
  has = let e : ltb (length state) (state_length p) ≡ false = le-ltb (length state) (state_length p) room in rw e refl

  -- a list that is all there gets what checking it alone answers
  checked : (ks : List ℕ) → (check_steps L question site (as_numbers ks) state).answer ≡ (refuse_if (ltb step_limit (length ks)) 1 zero >>= λ _. (run p ks).answer)
  unfolding check_steps ready_to_run take_steps refuse_if checked_from ◌>>=◌
  checked ks = by_test (ltb step_limit (length ks)) refl
    where
      third : CaseRead → Result (List ℕ)
      third c = take_steps (as_numbers ks)

      by_test : (b : Bool) → ltb step_limit (length ks) ≡ b → (check_steps L question site (as_numbers ks) state).answer ≡ (◌>>=◌ {A = Unit {0}} (refuse_if b 1 zero) (λ _. (run p ks).answer))
      by_test true t = let (c, a, g) = Asked.problem_filed L question site p is_problem in rw (Asked.third_refused L question site third nothing nothing rooms c a 1 zero (rw t refl)) refl
      by_test false t = let (c, a, g) = Asked.problem_filed L question site p is_problem in rw (Asked.ready L question site third nothing nothing rooms c a ks (rw t refl) (Asked.untested c.case) p g (Asked.untested c.case) has) refl

  pub alone : (steps : List ℕ) (first len : ℕ) → first + len ≤ length steps → try_list p steps first len ≡ (check_steps L question site (as_numbers (take len (drop first steps))) state).answer
  alone steps first len h =
      let ks : List ℕ = take len (drop first steps) in
      there p steps first len h ∙ ap (λ (k : ℕ). refuse_if (ltb step_limit k) 1 zero >>= λ _. (run p ks).answer) (sym (part_length first len steps h)) ∙ sym (checked ks)

  -- ---- the call
  pub trying : (steps : List ℕ) (tries : List Try) → try_lists L question site steps tries state ≡ record { answer = accepted 0; tries = map (tried p steps) tries; state = written (state_words p (initial p)) state }
  unfolding try_lists ready_to_try tried_from
  trying steps tries = let (c, a, g) = Asked.problem_filed L question site p is_problem in
      rw (Asked.ready L question site nothing nothing nothing rooms c a tt (Asked.untested c) (Asked.untested c.case) p g (Asked.untested c.case) has) refl

-- whatever is handed over: a refusal has a number from before the steps, and leaves both buffers; their lengths stay
module _ (L : CaseLimits) (question site steps : List ℕ) (tries : List Try) (state : List ℕ) where
  pub tries_refuse : (k place : ℕ) → (try_lists L question site steps tries state).answer ≡ refused k place
      → In ready_numbers k × ((try_lists L question site steps tries state).tries ≡ tries) × ((try_lists L question site steps tries state).state ≡ state)
  unfolding try_lists tried_from ready_to_try
  tries_refuse k place e = from_this (ready_to_try L question site (length state)) (asked_by L question site nothing (λ p. room_for (state_length p) (length state)) nothing_by (λ p. room_by (state_length p) (length state))) e
    where
      from_this : (m : Result (Ready (Unit {0}))) → Refuses Early m → (tried_from m steps tries state).answer ≡ refused k place
          → In ready_numbers k × ((tried_from m steps tries state).tries ≡ tries) × ((tried_from m steps tries state).state ≡ state)
      from_this (refused j at) h e = (subst (In ready_numbers) (refused_number j k at place e) (told Early (refused j at) j at refl h), refl, refl)
      from_this (accepted r) h e = absurd (refused_accepted (sym e))

  pub tries_length : (length (try_lists L question site steps tries state).tries ≡ length tries) × (length (try_lists L question site steps tries state).state ≡ length state)
  unfolding try_lists tried_from ready_to_try
  tries_length = from_this (ready_to_try L question site (length state)) room_there
    where
      same : (f : Try → Try) (ts : List Try) → length (map f ts) ≡ length ts
      same f [] = refl
      same f (t ∷ ts) = ap suc (same f ts)

      room_there : (r : Ready (Unit {0})) → ready_to_try L question site (length state) ≡ accepted r → state_length r.problem ≤ length state
      room_there r e = has_room (state_length r.problem) (length state) tt (Asked.parts L question site nothing nothing nothing (λ p. room_for (state_length p) (length state)) r e).has_room

      from_this : (m : Result (Ready (Unit {0}))) → ((r : Ready (Unit {0})) → m ≡ accepted r → state_length r.problem ≤ length state) → (length (tried_from m steps tries state).tries ≡ length tries) × (length (tried_from m steps tries state).state ≡ length state)
      from_this (refused k place) h = (refl, refl)
      from_this (accepted r) h = let p = r.problem in let l = state_length_lem p (initial p) in let q = h r refl in (same (tried p steps) tries, written_length (state_words p (initial p)) state (omega (arith, l, q)))
