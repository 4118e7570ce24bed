-- What an answer with a count tells, whatever the lent lengths: for checking and for reading picks. And that the words of picks depend on
-- the set of picks alone.
use Rattle.std.specs.Prelude.{ℕ, ◌*◌, ◌≡◌, ◌↔◌, Bool, false, ◌&&◌, ltb, length}
use Rattle.std.proofs.Math.Path.{refl, fun_ext}
use Rattle.std.proofs.Common.{sym, ap, ◌∙◌, arith}
use Rattle.std.proofs.Math.Bool.{true, not}
use mathlib.Core.List.{List, [], map}
use borrow.Author.Tests.{not-true}
use Rattle.definitions.specs.Limits.{CaseLimits}
use Rattle.definitions.specs.Lists.{all, any, below, flat_map, is_in}
use Rattle.definitions.specs.Refusal.{Result, refused, accepted, ◌>>=◌, refuse_if, case_numbers, run_numbers}
use Rattle.definitions.specs.Sheet.Relations.{Tuple, is_among}
use Rattle.definitions.specs.Problem.Truth.{Case}
use Rattle.definitions.specs.Problem.Atoms.{Problem, relation_at, tuples_of, places_of, bits_from}
use Rattle.definitions.specs.Problem.Strips.{run, picks_of, reaches_goal}
use Rattle.definitions.specs.Problem.Built.{is_picked, chosen_numbers}
use Rattle.definitions.specs.Reply.Outcome.{ThirdInput, as_numbers, take_steps, CaseRead, read_filed, read_case, ground, read_problem, nothing, room_for, picks_length, relation_words, pick_words, written, state_length, Ready, ready_to_run, checked_from, check_steps, picks_if_accepted, picks_read_from, picks_from_steps}
use Rattle.definitions.specs.Reply.Demand.{is_accepted, case_is_accepted, are_same_picks}
use Rattle.laws.specs.Booleans.{T_of, T_true, T_ext, T_and_l, T_and_r}
use Rattle.laws.specs.Lists.{all_at}
use Rattle.laws.specs.Results.{refused_accepted, accepted_eq, is_accepted_lem, accepted_is}
use Rattle.demands.specs.Accepting.{run_accepts, run_count, lent_steps}
use Rattle.laws.specs.Members.{in_mem}
use Rattle.laws.specs.Asked
use Rattle.laws.specs.Refusals.{In, run_refuses, problem_refuse}
use Rattle.laws.specs.Tuples.{among_mem}

refused_number : {A : Type 0} (k place j at : ℕ) → ◌≡◌ {A = Result A} (refused k place) (refused j at) → k ≡ j
refused_number k place j at e = cc

refused_place : {A : Type 0} (k place j at : ℕ) → ◌≡◌ {A = Result A} (refused k place) (refused j at) → place ≡ at
refused_place k place j at e = cc

-- a run that is accepted, by its count
run_tells : (p : Problem) (steps : List ℕ) (k : ℕ) → (run p steps).answer ≡ accepted k → (reaches_goal p steps ≡ true) × (k ≡ length steps)
run_tells p steps k e =
    let g = sym (run_accepts p steps) ∙ is_accepted_lem (run p steps).answer k e in
    (g, accepted_eq k (length steps) (sym e ∙ run_count p steps (T_of g)))

module _ (L : CaseLimits) (question site : List ℕ) (given : ThirdInput) where
  abbrev steps_of : CaseRead → Result (List ℕ)
  steps_of c = take_steps given

  -- what was read before the steps ran, that they reach the goal, and how many they are
  pub record Tells (k : ℕ) (r : Ready (List ℕ)) : Type 0 where
    pub is_case : read_case L question site ≡ accepted r.case
    pub is_taken : take_steps given ≡ accepted r.third
    pub is_problem : ground L r.case ≡ accepted r.problem
    pub reached : reaches_goal r.problem r.third ≡ true
    pub counted : k ≡ length r.third

  told : (rooms : Problem → Result (Unit {0})) (k : ℕ) (r : Ready (List ℕ)) → ready_to_run L question site given rooms ≡ accepted r → (run r.problem r.third).answer ≡ accepted k → Tells k r
  unfolding ready_to_run
  told rooms k r e a =
      let q = Asked.parts L question site steps_of nothing nothing rooms r e in
      let (goal, count) = run_tells r.problem r.third k a in
      record { is_case = q.is_case; is_taken = q.is_third; is_problem = q.is_problem; reached = goal; counted = count }

  -- checking
  pub check_tells : (state : List ℕ) (k : ℕ) → (check_steps L question site given state).answer ≡ accepted k → (r : Ready (List ℕ)) × Tells k r
  unfolding check_steps checked_from
  check_tells state k e = by_ready (ready_to_run L question site given rooms) refl e
    where
      rooms : Problem → Result (Unit {0})
      rooms p = room_for (state_length p) (length state)

      by_ready : (x : Result (Ready (List ℕ))) → ready_to_run L question site given rooms ≡ x → (checked_from x state).answer ≡ accepted k → (r : Ready (List ℕ)) × Tells k r
      by_ready (refused j place) q a = absurd (refused_accepted a)
      by_ready (accepted r) q a = (r, told rooms k r q a)

  -- reading picks: the words of the picks are at the front of their buffer
  pub read_tells : (picks state : List ℕ) (k : ℕ) → (picks_from_steps L question site given picks state).answer ≡ accepted k
      → (r : Ready (List ℕ)) × Tells k r × ((picks_from_steps L question site given picks state).picks ≡ written (pick_words r.problem (picks_of r.problem r.third)) picks)
  unfolding picks_from_steps picks_read_from picks_if_accepted
  read_tells picks state k e = by_ready (ready_to_run L question site given rooms) refl e
    where
      rooms : Problem → Result (Unit {0})
      rooms p = room_for (picks_length p) (length picks) >>= λ _. room_for (state_length p) (length state)

      by_ready : (x : Result (Ready (List ℕ))) → ready_to_run L question site given rooms ≡ x → (picks_read_from x picks state).answer ≡ accepted k
          → (r : Ready (List ℕ)) × Tells k r × ((picks_read_from x picks state).picks ≡ written (pick_words r.problem (picks_of r.problem r.third)) picks)
      by_ready (refused j place) q a = absurd (refused_accepted a)
      by_ready (accepted r) q a = (r, told rooms k r q a, rw a refl)

-- ---- the same picks have the same words
pub same_among : (P Q : List Tuple) → are_same_picks P Q ≡ true → (t : Tuple) → is_among t P ≡ is_among t Q
unfolding are_same_picks
same_among P Q e t = T_ext (is_among t P) (is_among t Q)
    (λ h. all_at (λ u. is_among u Q) P (T_and_l (all (λ u. is_among u Q) P) _ (T_of e)) t (among_mem t P h))
    (λ h. all_at (λ u. is_among u P) Q (T_and_r (all (λ u. is_among u Q) P) _ (T_of e)) t (among_mem t Q h))

pub same_words : (p : Problem) (P Q : List Tuple) → are_same_picks P Q ≡ true → pick_words p P ≡ pick_words p Q
unfolding pick_words is_picked
same_words p P Q e =
    let picked : (ℕ → ℕ → Bool) = λ r row. is_picked p P r row in
    ap (λ (f : Tuple → Bool). flat_map (λ r. map (λ j. bits_from (λ row. ltb row (tuples_of p.size (relation_at p r)) && f (record { relation = r; places = places_of p.size (relation_at p r).arity row })) (64 * j) 64) (below (relation_words p r))) (chosen_numbers p))
    (fun_ext (same_among P Q e))

-- ---- checking no steps at all: it refuses with a number of the case exactly where a text or 11 does
module _ (L : CaseLimits) (question site : List ℕ) where
  abbrev Late : Type 0
  Late = (state : List ℕ) (k place : ℕ) → (check_steps L question site (as_numbers []) state).answer ≡ refused k place → is_in k case_numbers ≡ false

  abbrev no_steps : CaseRead → Result (List ℕ)
  no_steps c = take_steps (as_numbers [])

  run_late : (k : ℕ) → In run_numbers k → is_in k case_numbers ≡ false
  unfolding is_in any all
  run_late k h = not-true (is_in k case_numbers) (T_true (not (is_in k case_numbers)) (all_at (λ j. not (is_in j case_numbers)) run_numbers tt k (in_mem k run_numbers (T_of h))))

  late_if : (c : CaseRead) (p : Problem) → read_filed L question site ≡ accepted c → ground L c.case ≡ accepted p → Late
  unfolding check_steps ready_to_run checked_from room_for refuse_if is_in any ◌>>=◌
  late_if c p rc g state k place e = by_room (ltb (length state) (state_length p)) refl
    where
      rooms : Problem → Result (Unit {0})
      rooms q = room_for (state_length q) (length state)

      by_room : (b : Bool) → ltb (length state) (state_length p) ≡ b → is_in k case_numbers ≡ false
      by_room true q =
          let r = Asked.room_refused L question site no_steps nothing nothing rooms c rc [] (lent_steps [] (omega arith)) (Asked.untested c.case) p g (Asked.untested c.case) 12 (state_length p) (rw q refl) in
          let n : k ≡ 12 = sym (refused_number 12 (state_length p) k place (rw r at e)) in
          rw n refl
      by_room false q =
          let r = Asked.ready L question site no_steps nothing nothing rooms c rc [] (lent_steps [] (omega arith)) (Asked.untested c.case) p g (Asked.untested c.case) (rw q refl) in
          run_late k (run_refuses p [] k place (rw r at e))

  refused_if : (k place : ℕ) → read_problem L question site ≡ refused k place → (check_steps L question site (as_numbers []) []).answer ≡ refused k place
  unfolding read_problem check_steps ready_to_run checked_from ◌>>=◌
  refused_if k place e = by_case (read_case L question site) refl e
    where
      rooms : Problem → Result (Unit {0})
      rooms q = room_for (state_length q) 0

      by_case : (x : Result Case) → read_case L question site ≡ x → (x >>= ground L) ≡ refused k place → (check_steps L question site (as_numbers []) []).answer ≡ refused k place
      by_case (refused j at) q r =
          let n : j ≡ k = refused_number j at k place r in
          let o : at ≡ place = refused_place j at k place r in
          rw (Asked.case_refused L question site no_steps nothing nothing rooms j at q, n, o) refl
      by_case (accepted c) q r =
          let (labels, f) = Asked.case_filed L question site c q in
          rw (Asked.limits_refused L question site no_steps nothing nothing rooms (record { case = c; labels = labels }) f [] (lent_steps [] (omega arith)) (Asked.untested c) k place r) refl

  pub accepted_checks : (case_is_accepted L question site ≡ true) ↔ Late
  unfolding case_is_accepted is_accepted
  accepted_checks = (
    (λ e. let (p, r) = accepted_is (read_problem L question site) e in let (c, a, g) = Asked.problem_filed L question site p r in late_if c p a g),
    (λ h. by_problem h (read_problem L question site) refl),
  )
    where
      by_problem : Late → (x : Result Problem) → read_problem L question site ≡ x → is_accepted x ≡ true
      by_problem h (refused k place) e = absurd (T_of (sym (h [] k place (refused_if k place e)) ∙ problem_refuse L question site k place e))
      by_problem h (accepted p) e = refl
