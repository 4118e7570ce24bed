-- Steps on paper: what a page call replies and leaves, beside checking the same steps; that nothing on a page is cut or lost.
use Rattle.std.specs.Prelude.{ℕ, ◌-◌, ◌≤◌, ◌<◌, ◌≡◌, ◌⊎◌, Bool, not, T}
use Rattle.std.proofs.Math.Path.{refl, sym, ap, subst, fun_ext}
use Rattle.std.proofs.Common.{◌∙◌, arith, le-ltb}
use Rattle.std.proofs.Math.Logic.{⊎_elim}
use Rattle.std.proofs.Math.Bool.{true, false}
use Rattle.std.proofs.Math.Option.{some}
use mathlib.Core.List.{List, [], ◌∷◌, ◌++◌, map, append_assoc}
use Rattle.std.proofs.Math.ListN.{length}
use Rattle.definitions.specs.Limits.{CaseLimits, usual}
use Rattle.definitions.specs.Lists.{any, flat_map, is_in}
use Rattle.definitions.specs.Sheet.Text.{decimal, is_between}
use Rattle.definitions.specs.Refusal.{Result, refused, accepted, ◌>>=◌, refuse_if, ready_numbers, run_numbers}
use Rattle.definitions.specs.Sheet.Relations.{Relation, is_universal}
use Rattle.definitions.specs.Sheet.Sheets.{Label}
use Rattle.definitions.specs.Problem.Truth.{Case}
use Rattle.definitions.specs.Problem.Atoms.{Problem, problem_of, problem_with, relation_at, places_of, state_words}
use Rattle.definitions.specs.Problem.Actions.{Action, begin_proof, prove_goal, round_end, mark_in, mark_out, action_at}
use Rattle.definitions.specs.Problem.Strips.{run}
use Rattle.definitions.specs.Reply.Outcome.{ThirdInput, room_for, state_length, written, Ready, ready_to_run, checked_from, check_steps}
use Rattle.definitions.specs.Reply.Page.{spaces, left, right, kind_word, subject_word, shown_elements, part_word, units, packed, step_head, headed, step_lines, lines_of, pages, page_text, page_of, laid, page_if_laid, paged_from, page_rooms, lay_page}
use Rattle.laws.specs.Results.{accepted_eq, bind_parts, refused_accepted, refused_number}
use Rattle.laws.specs.Words.{state_length_lem}
use Rattle.laws.specs.Refusals.{In, run_refuses}
use Rattle.laws.specs.Reader.{Accepted}
use Rattle.laws.specs.Numbers.{IsAction, action_is}
use Rattle.meaning.specs.Grounded.{good, every_at}
use Rattle.laws.specs.Pages.{joined, packed_groups}
use Rattle.meaning.specs.Shown
use Rattle.demands.specs.Buffers.{written_length, has_room, ready_room, run_or_ready}

-- ---- a step's lines: the head beside the first, and beside all of them, in order and uncut, the units of its elements
module _ (labels : List Label) (p : Problem) (i k : ℕ) (a : Action) where
  pub record Uncut : Type 0 where
    pub first : List (List ℕ)
    pub further : List (List (List ℕ))
    pub lines_are : step_lines labels p i k a ≡ headed (step_head p i k a) (joined first ∷ map joined further)
    pub units_are : units labels (part_word a) (shown_elements p a) ≡ first ++ flat_map (λ (x : List (List ℕ)). x) further

  pub uncut : Uncut
  unfolding step_lines
  uncut =
      let (g, gs, e, f) = packed_groups [] (units labels (part_word a) (shown_elements p a)) in
      record { first = g; further = gs; lines_are = ap (headed (step_head p i k a)) e; units_are = f }

-- ---- what has neither subject nor elements is blank from column 29 on
after_kind : (x y z : List ℕ) → (x ++ (32 ∷ (y ++ (32 ∷ (z ++ (32 ∷ (spaces 12 ++ (32 ∷ [])))))))) ++ spaces 30 ≡ (x ++ (32 ∷ (y ++ (32 ∷ z)))) ++ spaces 44
unfolding spaces
after_kind x y z = simp append_assoc refl

pub bare : (labels : List Label) (p : Problem) (i k : ℕ) (a : Action) → (a ≡ begin_proof) ⊎ ((a ≡ prove_goal) ⊎ (a ≡ round_end))
    → step_lines labels p i k a ≡ ((right 7 (decimal i) ++ (32 ∷ (right 7 (decimal k) ++ (32 ∷ left 12 (kind_word a))))) ++ spaces 44) ∷ []
unfolding step_lines step_head headed units packed left spaces subject_word shown_elements part_word
bare labels p i k a o = ⊎_elim (λ e. so e refl refl refl) (λ o. ⊎_elim (λ e. so e refl refl refl) (λ e. so e refl refl refl) o) o
  where
    so : {b : Action} → a ≡ b → subject_word p b ≡ [] → shown_elements p b ≡ [] → part_word b ≡ [] → step_lines labels p i k a ≡ ((right 7 (decimal i) ++ (32 ∷ (right 7 (decimal k) ++ (32 ∷ left 12 (kind_word a))))) ++ spaces 44) ∷ []
    so {b} e s x q = rw (e, s, x, q) (ap (λ (l : List ℕ). l ∷ []) (after_kind (right 7 (decimal i)) (right 7 (decimal k)) (left 12 (kind_word b))))

-- ---- a mark shows the name of the `every` line and the places of its tuple
module _ (c : Case) (fits : Accepted c) (e : Relation) (is-every : c.question.every ≡ some e) where
  mark_relation : (r : ℕ) → r < length (problem_of c).relations → T (is_universal (relation_at (problem_of c) r).kind) → relation_at (problem_of c) r ≡ e
  unfolding problem_of problem_with
  mark_relation r l u = ap (relation_at (problem_of c)) ((good c fits).every_one r l u).0 ∙ (every_at c fits e is-every).1

  abbrev Shows : ℕ → Action → Type 0
  Shows row a = (subject_word (problem_of c) a ≡ e.name) × (shown_elements (problem_of c) a ≡ places_of c.site.size e.arity row)

  pub mark_shows : (k r row : ℕ) (a : Action) → (a ≡ mark_in r row) ⊎ (a ≡ mark_out r row) → action_at (problem_of c) k ≡ some a → Shows row a
  unfolding IsAction subject_word shown_elements problem_of problem_with
  mark_shows k r row a o h = ⊎_elim
      (λ q. subst (Shows row) (sym q) (let v = subst (IsAction (problem_of c)) q (action_is (problem_of c) k a h) in words (mark_relation r v.0 v.1)))
      (λ q. subst (Shows row) (sym q) (let v = subst (IsAction (problem_of c)) q (action_is (problem_of c) k a h) in words (mark_relation r v.0 v.1)))
      o
    where
      words : relation_at (problem_of c) r ≡ e → ((relation_at (problem_of c) r).name ≡ e.name) × (places_of c.site.size (relation_at (problem_of c) r).arity row ≡ places_of c.site.size e.arity row)
      words f = (ap (λ (x : Relation). x.name) f, ap (λ (x : Relation). places_of c.site.size x.arity row) f)

-- ---- the call, by the cases of its reply
module _ (L : CaseLimits) (question site : List ℕ) (given : ThirdInput) (m : ℕ) (state page : List ℕ) where
  -- a page with room: what comes before the steps is what comes before them in checking
  same_ready : 4380 ≤ length page → ready_to_run L question site given (page_rooms (length state) (length page)) ≡ ready_to_run L question site given (λ p. room_for (state_length p) (length state))
  unfolding page_rooms room_for refuse_if ◌>>=◌
  same_ready h = ap (ready_to_run L question site given) (fun_ext (λ p. by_room (room_for (state_length p) (length state))))
    where
      by_room : (x : Result (Unit {0})) → (x >>= λ _. room_for 4380 (length page)) ≡ x
      by_room (refused k place) = refl
      by_room (accepted u) = rw (le-ltb (length page) 4380 h) refl

  abbrev ready : Result (Ready (List ℕ))
  ready = ready_to_run L question site given (page_rooms (length state) (length page))

  -- refused before the steps run
  pub before : (k place : ℕ) → ready ≡ refused k place → lay_page L question site given m state page ≡ record { answer = refused k place; state = state; page = page }
  unfolding lay_page paged_from
  before k place e = rw e refl

  module _ (r : Ready (List ℕ)) (is_ready : ready ≡ accepted r) where
    abbrev lines : List (List ℕ)
    lines = lines_of r.labels r.problem r.third

    abbrev last : List ℕ
    last = written (state_words r.problem (run r.problem r.third).state) state

    -- a step is refused
    pub in_run : (k place : ℕ) → (run r.problem r.third).answer ≡ refused k place → lay_page L question site given m state page ≡ record { answer = refused k place; state = last; page = page }
    unfolding lay_page paged_from laid page_if_laid ◌>>=◌
    in_run k place e = rw (is_ready, e) refl

    -- all steps are accepted: there is no such page, or it is laid out
    module _ (n : ℕ) (is-run : (run r.problem r.third).answer ≡ accepted n) where
      pub no_page : is_between 1 (pages lines) m ≡ false → lay_page L question site given m state page ≡ record { answer = refused 13 m; state = last; page = page }
      unfolding lay_page paged_from laid page_of page_if_laid refuse_if ◌>>=◌
      no_page e = rw (is_ready, is-run, e) refl

      pub a_page : is_between 1 (pages lines) m ≡ true → lay_page L question site given m state page ≡ record { answer = accepted (length (page_text lines (m - 1))); state = last; page = written (page_text lines (m - 1)) page }
      unfolding lay_page paged_from laid page_of page_if_laid refuse_if ◌>>=◌
      a_page e = rw (is_ready, is-run, e) refl

  -- what is refused once the steps run: a number of a run, and no page
  late_number : (r : Ready (List ℕ)) (k place : ℕ) → laid r m ≡ refused k place → In run_numbers k
  unfolding laid page_of refuse_if is_in any ◌>>=◌
  late_number r k place e = by_run (run r.problem r.third).answer refl e
    where
      by_page : (b : Bool) (t : List ℕ) → (refuse_if b 13 m >>= λ _. accepted t) ≡ refused k place → In run_numbers k
      by_page true t e = subst (In run_numbers) (refused_number 13 k m place e) refl
      by_page false t e = absurd (refused_accepted (sym e))

      by_run : (x : Result ℕ) → (run r.problem r.third).answer ≡ x → (x >>= λ _. page_of (lines_of r.labels r.problem r.third) m) ≡ refused k place → In run_numbers k
      by_run (refused j at) q e = subst (In run_numbers) (refused_number j k at place e) (run_refuses r.problem r.third j at q)
      by_run (accepted n) q e = by_page (not (is_between 1 (pages (lines_of r.labels r.problem r.third)) m)) (page_text (lines_of r.labels r.problem r.third) (m - 1)) e

  -- every refusal leaves the page, and one before the steps run the state too
  pub page_leaves : (k place : ℕ) → (lay_page L question site given m state page).answer ≡ refused k place → ((lay_page L question site given m state page).page ≡ page) × (In ready_numbers k → (lay_page L question site given m state page).state ≡ state)
  unfolding lay_page paged_from page_if_laid ◌>>=◌
  page_leaves k place e = from_this ready e
    where
      by_laid : (r : Ready (List ℕ)) (x : Result (List ℕ)) → laid r m ≡ x → (x >>= λ t. accepted (length t)) ≡ refused k place
          → (page_if_laid x page ≡ page) × (In ready_numbers k → (paged_from (accepted r) m state page).state ≡ state)
      by_laid r (refused j at) q e = (refl, λ h. absurd (run_or_ready k (subst (In run_numbers) (refused_number j k at place e) (late_number r j at q)) h))
      by_laid r (accepted t) q e = absurd (refused_accepted (sym e))

      from_this : (x : Result (Ready (List ℕ))) → (paged_from x m state page).answer ≡ refused k place → ((paged_from x m state page).page ≡ page) × (In ready_numbers k → (paged_from x m state page).state ≡ state)
      from_this (refused j at) e = (refl, λ _. refl)
      from_this (accepted r) e = by_laid r (laid r m) refl e

  -- ---- beside checking: the same state, and where checking refuses the same reply
  pub state_checked : 4380 ≤ length page → (lay_page L question site given m state page).state ≡ (check_steps L question site given state).state
  unfolding lay_page check_steps checked_from paged_from
  state_checked h = rw (same_ready h) (from_this (ready_to_run L question site given (λ p. room_for (state_length p) (length state))))
    where
      from_this : (x : Result (Ready (List ℕ))) → (paged_from x m state page).state ≡ (checked_from x state).state
      from_this (refused k place) = refl
      from_this (accepted r) = refl

  pub refusal_checked : 4380 ≤ length page → (k place : ℕ) → (check_steps L question site given state).answer ≡ refused k place → (lay_page L question site given m state page).answer ≡ refused k place
  unfolding lay_page check_steps paged_from checked_from laid ◌>>=◌
  refusal_checked h k place e = rw (same_ready h) (from_this (ready_to_run L question site given (λ p. room_for (state_length p) (length state))) e)
    where
      from_this : (x : Result (Ready (List ℕ))) → (checked_from x state).answer ≡ refused k place → (paged_from x m state page).answer ≡ refused k place
      from_this (refused j at) e = e
      from_this (accepted r) e = rw e refl

-- ---- by the usual limits: both buffers keep their length, and a page has 4,380 bytes
module _ (question site : List ℕ) (given : ThirdInput) (m : ℕ) (state page : List ℕ) where
  pub page_bytes : (n : ℕ) → (lay_page usual question site given m state page).answer ≡ accepted n → n ≡ 4380
  unfolding lay_page paged_from
  page_bytes n e = from_this (ready_to_run usual question site given (page_rooms (length state) (length page))) refl e
    where
      from_this : (x : Result (Ready (List ℕ))) → ready_to_run usual question site given (page_rooms (length state) (length page)) ≡ x → (paged_from x m state page).answer ≡ accepted n → n ≡ 4380
      from_this (refused j at) q e = absurd (refused_accepted e)
      from_this (accepted r) q e =
          let (t, a, b) = bind_parts (laid r m) _ n e in
          sym (accepted_eq (length t) n b) ∙ Shown.laid_length question site given (page_rooms (length state) (length page)) r q m t a

  pub page_length : (length (lay_page usual question site given m state page).state ≡ length state) × (length (lay_page usual question site given m state page).page ≡ length page)
  unfolding lay_page paged_from page_if_laid page_rooms
  page_length = from_this (ready_to_run usual question site given (page_rooms (length state) (length page))) refl
    where
      by_laid : (r : Ready (List ℕ)) → ready_to_run usual question site given (page_rooms (length state) (length page)) ≡ accepted r → 4380 ≤ length page → (x : Result (List ℕ)) → laid r m ≡ x → length (page_if_laid x page) ≡ length page
      by_laid r q h (refused j at) a = refl
      by_laid r q h (accepted t) a = written_length t page (omega (arith, Shown.laid_length question site given (page_rooms (length state) (length page)) r q m t a))

      from_this : (x : Result (Ready (List ℕ))) → ready_to_run usual question site given (page_rooms (length state) (length page)) ≡ x → (length (paged_from x m state page).state ≡ length state) × (length (paged_from x m state page).page ≡ length page)
      from_this (refused j at) q = (refl, refl)
      from_this (accepted r) q =
          let (u, a, b) = bind_parts (room_for (state_length r.problem) (length state)) _ tt (ready_room usual question site given (page_rooms (length state) (length page)) r q) in
          let l = state_length_lem r.problem (run r.problem r.third).state in
          (written_length (state_words r.problem (run r.problem r.third).state) state (omega (arith, has_room (state_length r.problem) (length state) u a)), by_laid r q (has_room 4380 (length page) tt b) (laid r m) refl)
