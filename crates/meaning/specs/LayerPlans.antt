-- Building layers is building steps with one buffer more: the refusals of both in one order.
use Rattle.std.specs.Prelude.{ℕ, ◌≤◌, ◌≡◌, List}
use Rattle.std.proofs.Math.Path.{refl, ap, fun_ext}
use Rattle.std.proofs.Common.{◌∙◌, le-ltb}
use Rattle.std.proofs.Math.Option.{none}
use Rattle.definitions.specs.Limits.{CaseLimits}
use Rattle.definitions.specs.Refusal.{Result, refused, accepted, ◌>>=◌, refuse_if}
use Rattle.definitions.specs.Sheet.Relations.{Tuple}
use Rattle.definitions.specs.Problem.Truth.{Case}
use Rattle.definitions.specs.Problem.Atoms.{Problem}
use Rattle.definitions.specs.Problem.Built.{built_steps, bound}
use Rattle.definitions.specs.Reply.Outcome.{CaseRead, read_filed, read_case, ground, read_problem, Ready, asked, nothing, without_every, room_for, state_length, ThirdInput, text_picks, picks_room, satisfying, Plan, plan}
use Rattle.definitions.specs.Reply.Layers.{case_window, LayeredPlan, layered_plan}
use Rattle.laws.specs.Asked
use Rattle.meaning.specs.Layered.{built_numbers}

-- a further buffer, asked for last
module _ {A : Type 0} (rooms more : Problem → Result (Unit {0})) where
  abbrev last_room : Result (Ready A) → Result (Ready A)
  last_room x = x >>= λ r. more r.problem >>= λ _. accepted r

  at_rooms : (r : CaseRead) (a : A) (p : Problem) (x : Result (Unit {0}))
      → ((x >>= λ _. more p) >>= λ _. accepted (record { case = r.case; labels = r.labels; problem = p; third = a })) ≡ last_room (x >>= λ _. accepted (record { case = r.case; labels = r.labels; problem = p; third = a }))
  unfolding ◌>>=◌
  at_rooms r a p (refused k place) = refl
  at_rooms r a p (accepted u) = refl

  at_late : (r : CaseRead) (a : A) (p : Problem) (x : Result (Unit {0}))
      → (x >>= λ _. (rooms p >>= λ _. more p) >>= λ _. accepted (record { case = r.case; labels = r.labels; problem = p; third = a })) ≡ last_room (x >>= λ _. rooms p >>= λ _. accepted (record { case = r.case; labels = r.labels; problem = p; third = a }))
  unfolding ◌>>=◌
  at_late r a p (refused k place) = refl
  at_late r a p (accepted u) = at_rooms r a p (rooms p)

  module _ (late : Case → Result (Unit {0})) where
    at_ground : (r : CaseRead) (a : A) (x : Result Problem)
        → (x >>= λ p. late r.case >>= λ _. (rooms p >>= λ _. more p) >>= λ _. accepted (record { case = r.case; labels = r.labels; problem = p; third = a }))
        ≡ last_room (x >>= λ p. late r.case >>= λ _. rooms p >>= λ _. accepted (record { case = r.case; labels = r.labels; problem = p; third = a }))
    unfolding ◌>>=◌
    at_ground r a (refused k place) = refl
    at_ground r a (accepted p) = at_late r a p (late r.case)

    module _ (L : CaseLimits) where
      at_early : (r : CaseRead) (a : A) (x : Result (Unit {0}))
          → (x >>= λ _. ground L r.case >>= λ p. late r.case >>= λ _. (rooms p >>= λ _. more p) >>= λ _. accepted (record { case = r.case; labels = r.labels; problem = p; third = a }))
          ≡ last_room (x >>= λ _. ground L r.case >>= λ p. late r.case >>= λ _. rooms p >>= λ _. accepted (record { case = r.case; labels = r.labels; problem = p; third = a }))
      unfolding ◌>>=◌
      at_early r a (refused k place) = refl
      at_early r a (accepted u) = at_ground r a (ground L r.case)

      module _ (early : Case → Result (Unit {0})) where
        at_third : (r : CaseRead) (x : Result A)
            → (x >>= λ a. early r.case >>= λ _. ground L r.case >>= λ p. late r.case >>= λ _. (rooms p >>= λ _. more p) >>= λ _. accepted (record { case = r.case; labels = r.labels; problem = p; third = a }))
            ≡ last_room (x >>= λ a. early r.case >>= λ _. ground L r.case >>= λ p. late r.case >>= λ _. rooms p >>= λ _. accepted (record { case = r.case; labels = r.labels; problem = p; third = a }))
        unfolding ◌>>=◌
        at_third r (refused k place) = refl
        at_third r (accepted a) = at_early r a (early r.case)

        pub more_room : (question site : List ℕ) (third : CaseRead → Result A)
            → asked L question site third early late (λ p. rooms p >>= λ _. more p) ≡ (asked L question site third early late rooms >>= λ r. more r.problem >>= λ _. accepted r)
        unfolding asked ◌>>=◌
        more_room question site third = at_file (read_filed L question site)
          where
            at_file : (x : Result CaseRead)
                → (x >>= λ r. third r >>= λ a. early r.case >>= λ _. ground L r.case >>= λ p. late r.case >>= λ _. (rooms p >>= λ _. more p) >>= λ _. accepted (record { case = r.case; labels = r.labels; problem = p; third = a }))
                ≡ last_room (x >>= λ r. third r >>= λ a. early r.case >>= λ _. ground L r.case >>= λ p. late r.case >>= λ _. rooms p >>= λ _. accepted (record { case = r.case; labels = r.labels; problem = p; third = a }))
            at_file (refused k place) = refl
            at_file (accepted r) = at_third r (third r)

bind_assoc : {A B C : Type 0} (m : Result A) (f : A → Result B) (g : B → Result C) → ((m >>= f) >>= g) ≡ (m >>= λ x. f x >>= g)
unfolding ◌>>=◌
bind_assoc (refused k place) f g = refl
bind_assoc (accepted a) f g = refl

module _ (L : CaseLimits) (question site : List ℕ) (picks : ThirdInput) (stateRoom stepsRoom endsRoom : ℕ) where
  -- what both ask for before the picks are looked at; layers are not built with an `every` line
  abbrev build_rooms : Problem → Result (Unit {0})
  build_rooms p = picks_room p picks >>= λ _. room_for (state_length p) stateRoom >>= λ _. room_for (bound p) stepsRoom

  abbrev ends_rooms : Problem → Result (Unit {0})
  ends_rooms p = room_for (case_window p).upper endsRoom

  abbrev pub ready_to_build : (Case → Result (Unit {0})) → Result (Ready (List Tuple))
  ready_to_build late = asked L question site (λ c. text_picks c.case c.labels picks) nothing late build_rooms

  abbrev pub made_layers : Problem → List Tuple → LayeredPlan
  made_layers p F = record { problem = p; picks = F; layers = built_numbers p F }

  rooms_are : (p : Problem) → (picks_room p picks >>= λ _. room_for (state_length p) stateRoom >>= λ _. room_for (bound p) stepsRoom >>= λ _. ends_rooms p) ≡ (build_rooms p >>= λ _. ends_rooms p)
  unfolding ◌>>=◌
  rooms_are p = by_picks (picks_room p picks) (room_for (state_length p) stateRoom) (ends_rooms p)
    where
      by_picks : (x y z : Result (Unit {0})) → (x >>= λ _. y >>= λ _. room_for (bound p) stepsRoom >>= λ _. z) ≡ ((x >>= λ _. y >>= λ _. room_for (bound p) stepsRoom) >>= λ _. z)
      by_picks (refused k place) y z = refl
      by_picks (accepted u) (refused k place) z = refl
      by_picks (accepted u) (accepted v) z = refl

  pub layered_is : layered_plan L question site picks stateRoom stepsRoom endsRoom
      ≡ (ready_to_build without_every >>= λ r. ends_rooms r.problem >>= λ _. satisfying r.case r.problem picks r.third >>= λ F. accepted (made_layers r.problem F))
  unfolding layered_plan ◌>>=◌
  layered_is =
      ap (λ (f : Problem → Result (Unit {0})). asked L question site (λ c. text_picks c.case c.labels picks) nothing without_every f >>= λ r. satisfying r.case r.problem picks r.third >>= λ F. accepted (made_layers r.problem F)) (fun_ext rooms_are)
      ∙ ap (λ (x : Result (Ready (List Tuple))). x >>= λ r. satisfying r.case r.problem picks r.third >>= λ F. accepted (made_layers r.problem F)) (more_room build_rooms ends_rooms without_every L nothing question site (λ c. text_picks c.case c.labels picks))
      ∙ by_ready (ready_to_build without_every)
    where
      by_room : (r : Ready (List Tuple)) (x : Result (Unit {0}))
          → ((x >>= λ _. accepted r) >>= λ r. satisfying r.case r.problem picks r.third >>= λ F. accepted (made_layers r.problem F)) ≡ (x >>= λ _. satisfying r.case r.problem picks r.third >>= λ F. accepted (made_layers r.problem F))
      by_room r x = bind_assoc x _ _

      by_ready : (x : Result (Ready (List Tuple)))
          → ((x >>= λ r. ends_rooms r.problem >>= λ _. accepted r) >>= λ r. satisfying r.case r.problem picks r.third >>= λ F. accepted (made_layers r.problem F))
          ≡ (x >>= λ r. ends_rooms r.problem >>= λ _. satisfying r.case r.problem picks r.third >>= λ F. accepted (made_layers r.problem F))
      by_ready (refused k place) = refl
      by_ready (accepted r) = by_room r (ends_rooms r.problem)

  -- without an `every` line, and with room for the ends, as building steps
  pub layered_plan_lem : ((c : Case) → read_case L question site ≡ accepted c → c.question.every ≡ none) → ((p : Problem) → read_problem L question site ≡ accepted p → (case_window p).upper ≤ endsRoom)
      → layered_plan L question site picks stateRoom stepsRoom endsRoom ≡ (plan L question site picks stateRoom stepsRoom >>= λ b. accepted (made_layers b.problem b.picks))
  unfolding plan room_for refuse_if ◌>>=◌
  layered_plan_lem plain h =
      layered_is
      ∙ ap (λ (x : Result (Ready (List Tuple))). x >>= λ r. ends_rooms r.problem >>= λ _. satisfying r.case r.problem picks r.third >>= λ F. accepted (made_layers r.problem F))
      (Asked.late_passed L question site (λ c. text_picks c.case c.labels picks) nothing without_every build_rooms (λ c e. Asked.every_passes c (plain c e)))
      ∙ by_ready (ready_to_build nothing) refl
    where
      by_picks : (r : Ready (List Tuple)) (x : Result (List Tuple)) → (x >>= λ F. accepted (made_layers r.problem F)) ≡ ((x >>= λ F. accepted (record { labels = r.labels; problem = r.problem; picks = F; steps = built_steps r.problem F })) >>= λ (b : Plan). accepted (made_layers b.problem b.picks))
      by_picks r (refused k place) = refl
      by_picks r (accepted F) = refl

      by_ready : (x : Result (Ready (List Tuple))) → ready_to_build nothing ≡ x
          → (x >>= λ r. ends_rooms r.problem >>= λ _. satisfying r.case r.problem picks r.third >>= λ F. accepted (made_layers r.problem F))
          ≡ ((x >>= λ r. satisfying r.case r.problem picks r.third >>= λ F. accepted (record { labels = r.labels; problem = r.problem; picks = F; steps = built_steps r.problem F })) >>= λ (b : Plan). accepted (made_layers b.problem b.picks))
      by_ready (refused k place) e = refl
      by_ready (accepted r) e =
          let q = Asked.parts L question site (λ c. text_picks c.case c.labels picks) nothing nothing build_rooms r e in
          let m = h r.problem (Asked.problem_from L question site r.case r.problem q.is_case q.is_problem) in
          let g : room_for (case_window r.problem).upper endsRoom ≡ accepted tt = there m in
          rw g (by_picks r (satisfying r.case r.problem picks r.third))
        where
          there : {n : ℕ} → n ≤ endsRoom → room_for n endsRoom ≡ accepted tt
          there {n} m = rw (le-ltb endsRoom n m) refl
