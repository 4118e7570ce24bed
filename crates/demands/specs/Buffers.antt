-- Lent buffers, for whatever is handed over: they keep their length, and a refusal leaves them alone unless steps were run.
use Rattle.std.specs.Prelude.{ℕ, ◌≤◌, ◌≡◌, not, ltb, drop}
use Rattle.std.proofs.Math.Path.{refl, subst}
use Rattle.std.proofs.Common.{sym, ap, arith, T_not, length-append, length-drop, ltb-false}
use Rattle.std.proofs.Math.Bool.{true}
use mathlib.Core.List.{List, []}
use Rattle.std.proofs.Math.ListN.{length}
use Rattle.definitions.specs.Limits.{CaseLimits}
use Rattle.definitions.specs.Lists.{is_in, any, all}
use Rattle.definitions.specs.Refusal.{Result, refused, accepted, ◌>>=◌, ready_numbers, run_numbers}
use Rattle.definitions.specs.Sheet.Relations.{Tuple}
use Rattle.definitions.specs.Problem.Atoms.{Problem, problem_of, state_words}
use Rattle.definitions.specs.Problem.Strips.{run, picks_of}
use Rattle.definitions.specs.Problem.Built.{built_steps, bound}
use Rattle.definitions.specs.Reply.Outcome.{CaseRead, read_filed, nothing, room_for, state_length, picks_length, written, pick_words, ThirdInput, take_steps, Ready, ready_to_run, checked_from, check_steps, picks_if_accepted, picks_read_from, picks_from_steps, Plan, plan, built_from, build_steps}
use Rattle.definitions.specs.Problem.Truth.{are_of_kinds}
use Rattle.laws.specs.Results.{bind_parts, not_refused, refused_accepted}
use Rattle.laws.specs.Words.{state_length_lem}
use Rattle.laws.specs.Reader.{FiledFits, filed_fits, gives_if}
use Rattle.laws.specs.Booleans.{T_of}
use Rattle.laws.specs.Lists.{all_at}
use Rattle.laws.specs.Members.{in_mem}
use Rattle.laws.specs.Refusals.{In, run_refuses}
use Rattle.laws.specs.Asked
use Rattle.meaning.specs.Building.{ground_is, picks_given, plan_tells, given_picks, count_case}
use Rattle.meaning.specs.Lent.{pick_words_lem}

-- what is written into the front of a buffer that is long enough leaves its length
pub written_length : (new old : List ℕ) → length new ≤ length old → length (written new old) ≡ length old
unfolding written
written_length new old h = let a = length-append new (drop (length new) old) in let b = length-drop (length new) old in omega arith

pub has_room : (needed room : ℕ) (u : Unit {0}) → room_for needed room ≡ accepted u → needed ≤ room
unfolding room_for
has_room needed room u e = ltb-false room needed (not_refused (ltb room needed) 12 needed u e)

-- a number of a run is none of those before it
pub run_or_ready : (k : ℕ) → In run_numbers k → In ready_numbers k → ⊥
unfolding is_in any all
run_or_ready k h e = T_not (is_in k ready_numbers) (all_at (λ j. not (is_in j ready_numbers)) run_numbers tt k (in_mem k run_numbers (T_of h))) (T_of e)

module _ (L : CaseLimits) (question site : List ℕ) where
  -- ---- checking
  pub ready_room : (given : ThirdInput) (rooms : Problem → Result (Unit {0})) (r : Ready (List ℕ)) → ready_to_run L question site given rooms ≡ accepted r → rooms r.problem ≡ accepted tt
  unfolding ready_to_run
  ready_room given rooms r e = (Asked.parts L question site (λ _. take_steps given) nothing nothing rooms r e).has_room

  module _ (given : ThirdInput) (state : List ℕ) where
    abbrev ready : Result (Ready (List ℕ))
    ready = ready_to_run L question site given (λ p. room_for (state_length p) (length state))

    pub check_length : length (check_steps L question site given state).state ≡ length state
    unfolding check_steps checked_from
    check_length = from_this ready (λ r e. has_room (state_length r.problem) (length state) tt (ready_room given (λ p. room_for (state_length p) (length state)) r e))
      where
        from_this : (m : Result (Ready (List ℕ))) → ((r : Ready (List ℕ)) → m ≡ accepted r → state_length r.problem ≤ length state) → length (checked_from m state).state ≡ length state
        from_this (refused k place) h = refl
        from_this (accepted r) h = let l = state_length_lem r.problem (run r.problem r.third).state in let q = h r refl in written_length (state_words r.problem (run r.problem r.third).state) state (omega arith)

    pub check_leaves : (k place : ℕ) → (check_steps L question site given state).answer ≡ refused k place → In ready_numbers k → (check_steps L question site given state).state ≡ state
    unfolding check_steps checked_from
    check_leaves k place e h = from_this ready e
      where
        from_this : (m : Result (Ready (List ℕ))) → (checked_from m state).answer ≡ refused k place → (checked_from m state).state ≡ state
        from_this (refused j at) e = refl
        from_this (accepted r) e = absurd (run_or_ready k (run_refuses r.problem r.third k place e) h)

  -- ---- reading picks
  module _ (given : ThirdInput) (picks state : List ℕ) where
    abbrev rooms : Problem → Result (Unit {0})
    rooms p = room_for (picks_length p) (length picks) >>= λ _. room_for (state_length p) (length state)

    rooms_both : (p : Problem) → rooms p ≡ accepted tt → (picks_length p ≤ length picks) × (state_length p ≤ length state)
    rooms_both p e = let (u, a, b) = bind_parts (room_for (picks_length p) (length picks)) _ tt e in (has_room (picks_length p) (length picks) u a, has_room (state_length p) (length state) tt b)

    pub read_length : (length (picks_from_steps L question site given picks state).picks ≡ length picks) × (length (picks_from_steps L question site given picks state).state ≡ length state)
    unfolding picks_from_steps picks_read_from picks_if_accepted
    read_length = from_this (ready_to_run L question site given rooms) (λ r e. rooms_both r.problem (ready_room given rooms r e))
      where
        taken : (r : Ready (List ℕ)) (m : Result ℕ) → picks_length r.problem ≤ length picks → length (picks_if_accepted m (pick_words r.problem (picks_of r.problem r.third)) picks) ≡ length picks
        taken r (refused k place) h = refl
        taken r (accepted n) h = let (l, a, b) = pick_words_lem r.problem (picks_of r.problem r.third) [] in written_length (pick_words r.problem (picks_of r.problem r.third)) picks (omega arith)

        from_this : (m : Result (Ready (List ℕ))) → ((r : Ready (List ℕ)) → m ≡ accepted r → (picks_length r.problem ≤ length picks)
            × (state_length r.problem ≤ length state)) → (length (picks_read_from m picks state).picks ≡ length picks)
            × (length (picks_read_from m picks state).state ≡ length state)
        from_this (refused k place) h = (refl, refl)
        from_this (accepted r) h = let l = state_length_lem r.problem (run r.problem r.third).state in let q = h r refl in
            (taken r (run r.problem r.third).answer q.0, written_length (state_words r.problem (run r.problem r.third).state) state (omega (arith, q.1)))

    pub read_leaves : (k place : ℕ) → (picks_from_steps L question site given picks state).answer ≡ refused k place → ((picks_from_steps L question site given picks state).picks ≡ picks) × (In ready_numbers k → (picks_from_steps L question site given picks state).state ≡ state)
    unfolding picks_from_steps picks_read_from picks_if_accepted
    read_leaves k place e = from_this (ready_to_run L question site given rooms) e
      where
        kept : (new : List ℕ) (m : Result ℕ) → m ≡ refused k place → picks_if_accepted m new picks ≡ picks
        kept new (refused j at) e = refl
        kept new (accepted n) e = absurd (refused_accepted (sym e))

        from_this : (m : Result (Ready (List ℕ))) → (picks_read_from m picks state).answer ≡ refused k place → ((picks_read_from m picks state).picks ≡ picks) × (In ready_numbers k → (picks_read_from m picks state).state ≡ state)
        from_this (refused j at) e = (refl, λ h. refl)
        from_this (accepted r) e = (kept (pick_words r.problem (picks_of r.problem r.third)) (run r.problem r.third).answer e, λ h. absurd (run_or_ready k (run_refuses r.problem r.third k place e) h))

  -- ---- building
  module _ (given : ThirdInput) (state steps : List ℕ) where
    pub build_leaves : (k place : ℕ) → (build_steps L question site given state steps).answer ≡ refused k place → ((build_steps L question site given state steps).state ≡ state) × ((build_steps L question site given state steps).steps ≡ steps)
    unfolding build_steps built_from
    build_leaves k place e = by_result (plan L question site given (length state) (length steps)) e
      where
        by_result : (m : Result Plan) → (built_from m state steps).answer ≡ refused k place → ((built_from m state steps).state ≡ state) × ((built_from m state steps).steps ≡ steps)
        by_result (refused j at) e = (refl, refl)
        by_result (accepted b) e = absurd (refused_accepted (sym e))

    pub build_length : L.elements ≤ 64 → (length (build_steps L question site given state steps).state ≡ length state) × (length (build_steps L question site given state steps).steps ≡ length steps)
    unfolding build_steps built_from
    build_length small = by_result (plan L question site given (length state) (length steps)) (λ b e. room b e)
      where
        few : (r : CaseRead) (p : Problem) (F : List Tuple) → FiledFits r → p ≡ problem_of r.case → picks_given r.case r.labels p given ≡ accepted F → are_of_kinds r.case F ≡ true → length (built_steps p F) ≤ bound p
        few r p F A e t k = subst (λ (q : Problem). length (built_steps q F) ≤ bound q) (sym e)
            (let n = count_case r.case A.case_fits F (given_picks r.case A.case_fits r.labels A.labels_fit given F (subst (λ (q : Problem). picks_given r.case r.labels q given ≡ accepted F) e t)) k in omega (arith, n.0, n.1))

        room : (b : Plan) → plan L question site given (length state) (length steps) ≡ accepted b → (state_length b.problem ≤ length state) × (length b.steps ≤ length steps)
        room b e =
            let t = plan_tells L question site given (length state) (length steps) b e in
            let r : CaseRead = record { case = t.case; labels = b.labels } in
            let f = few r b.problem b.picks (gives_if FiledFits (read_filed L question site) r t.is_filed (filed_fits L small question site)) (ground_is L t.case b.problem t.is_problem) t.given t.kinds in
            let l : length b.steps ≡ length (built_steps b.problem b.picks) = ap length t.steps in
            (t.state_room, omega (arith, t.steps_room))

        by_result : (m : Result Plan) → ((b : Plan) → m ≡ accepted b → (state_length b.problem ≤ length state) × (length b.steps ≤ length steps)) → (length (built_from m state steps).state ≡ length state) × (length (built_from m state steps).steps ≡ length steps)
        by_result (refused k place) h = (refl, refl)
        by_result (accepted b) h = let l = state_length_lem b.problem (run b.problem b.steps).state in let q = h b refl in
            (written_length (state_words b.problem (run b.problem b.steps).state) state (omega (arith, q.0)), written_length b.steps steps q.1)
