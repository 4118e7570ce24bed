-- Two sites that are read as one case, whatever labels each has: every call replies the same.
use Prim.Native.Nat.{ℕ, zero}
use Rattle.std.specs.Prelude.{◌≡◌, not, List, map, length}
use Rattle.std.proofs.Math.Path.{refl, sym, ap}
use Rattle.std.proofs.Common.{◌∙◌}
use Rattle.definitions.specs.Limits.{CaseLimits}
use Rattle.definitions.specs.Refusal.{Result, refused, accepted, ◌>>=◌, refuse_if, given}
use Rattle.definitions.specs.Sheet.Relations.{Tuple}
use Rattle.definitions.specs.Sheet.Sheets.{Label}
use Rattle.definitions.specs.Problem.Truth.{Case, rule_is_true}
use Rattle.definitions.specs.Problem.Atoms.{Problem}
use Rattle.definitions.specs.Problem.Actions.{action_at, action_number}
use Rattle.definitions.specs.Problem.Built.{built_steps, bound}
use Rattle.definitions.specs.Reply.Outcome.{without_every, CaseRead, read_filed, read_case, ground, read_problem, Ready, asked, nothing, room_for, state_length, pick_words, sizes_of, sizes}
use Rattle.definitions.specs.Reply.Outcome.{action, ThirdInput, as_text, as_numbers, take_steps, text_picks, picks_room, take_picks, ready_to_run, checked_from}
use Rattle.definitions.specs.Reply.Outcome.{check_steps, picks_read_from, picks_from_steps, satisfying, Plan, plan, built_from, build_steps}
use Rattle.definitions.specs.Reply.Layers.{case_window, built_layers, take_layers, window_of, layers_checked_from, check_layers, LayeredPlan, layered_plan, layers_built_from, build_layers}
use Rattle.definitions.specs.Reply.Tally.{tally}
use Rattle.definitions.specs.Reply.Judgement.{judge}
use Rattle.definitions.specs.Reply.Tries.{Try, ready_to_try, tried_from, try_lists}
use Rattle.definitions.specs.Reply.Finding.{cells, least_picks, found_words, found_from, find}
use Rattle.definitions.specs.Reply.Monotone.{only_wants_more, monotone}
use Rattle.definitions.specs.Reply.Allowance.{allowed_from, allowances}

-- an answer of `asked` with other labels
unfoldable relabelled : {A : Type 0} → List Label → Result (Ready A) → Result (Ready A)
relabelled labels (refused k place) = refused k place
relabelled labels (accepted r) = accepted (record { case = r.case; labels = labels; problem = r.problem; third = r.third })

-- what does not look at the labels answers the same
blind : {A B : Type 0} (labels : List Label) (f : Result (Ready A) → B) → ((r : Ready A) → f (accepted (record { case = r.case; labels = labels; problem = r.problem; third = r.third })) ≡ f (accepted r)) → (x : Result (Ready A)) → f (relabelled labels x) ≡ f x
unfolding relabelled
blind labels f h (refused k place) = refl
blind labels f h (accepted r) = h r

module _ (L : CaseLimits) (question site other : List ℕ) (r : CaseRead) (labels : List Label) (here : read_filed L question site ≡ accepted r) (there : read_filed L question other ≡ accepted (record { case = r.case; labels = labels })) where
  pub same_case : read_case L question other ≡ read_case L question site
  unfolding read_case ◌>>=◌
  same_case = rw (here, there) refl

  pub same_problem : read_problem L question other ≡ read_problem L question site
  unfolding read_problem
  same_problem = ap (λ (x : Result Case). x >>= ground L) same_case

  pub same_tally : tally L question other ≡ tally L question site
  unfolding tally
  same_tally = rw same_case refl

  module _ {A : Type 0} (late : Case → Result (Unit {0})) (third third' : CaseRead → Result A) (rooms rooms' : Problem → Result (Unit {0})) (t : third r ≡ third' (record { case = r.case; labels = labels })) (m : (p : Problem) → rooms p ≡ rooms' p) where
    by_room : (c : Case) (p : Problem) (a : A) (x y : Result (Unit {0})) → x ≡ y → (y >>= λ _. accepted (record { case = c; labels = labels; problem = p; third = a })) ≡ relabelled labels (x >>= λ _. accepted (record { case = c; labels = r.labels; problem = p; third = a }))
    unfolding relabelled ◌>>=◌
    by_room c p a x y e = rw e (by_result y)
      where
        by_result : (y : Result (Unit {0})) → (y >>= λ _. accepted (record { case = c; labels = labels; problem = p; third = a })) ≡ relabelled labels (y >>= λ _. accepted (record { case = c; labels = r.labels; problem = p; third = a }))
        by_result (refused k place) = refl
        by_result (accepted u) = refl

    asked_same : asked L question other third' nothing late rooms' ≡ relabelled labels (asked L question site third nothing late rooms)
    unfolding asked nothing relabelled ◌>>=◌
    asked_same = rw (here, there, t) (by_result (third' (record { case = r.case; labels = labels })) (ground L r.case) (late r.case))
      where
        by_result : (x : Result A) (g : Result Problem) (l : Result (Unit {0}))
            → (x >>= λ a. g >>= λ p. l >>= λ _. rooms' p >>= λ _. accepted (record { case = r.case; labels = labels; problem = p; third = a })) ≡ relabelled labels (x >>= λ a. g >>= λ p. l >>= λ _. rooms p >>= λ _. accepted (record { case = r.case; labels = r.labels; problem = p; third = a }))
        by_result (refused k place) g l = refl
        by_result (accepted a) (refused k place) l = refl
        by_result (accepted a) (accepted p) (refused k place) = refl
        by_result (accepted a) (accepted p) (accepted u) = by_room r.case p a (rooms p) (rooms' p) (m p)

    -- a reply made of it without the labels
    same_by : {B : Type 0} (f : Result (Ready A) → B) → ((x : Ready A) → f (accepted (record { case = x.case; labels = labels; problem = x.problem; third = x.third })) ≡ f (accepted x))
        → f (asked L question other third' nothing late rooms') ≡ f (asked L question site third nothing late rooms)
    same_by f h = ap f asked_same ∙ blind labels f h (asked L question site third nothing late rooms)

  -- ---- the calls
  pub same_sizes : sizes L question other ≡ sizes L question site
  unfolding sizes nothing ◌>>=◌
  same_sizes = same_by nothing nothing nothing nothing nothing refl (λ p. refl) (λ x. x >>= λ y. accepted (sizes_of y.problem)) (λ x. refl)

  pub same_action : (k : ℕ) → action L question other k ≡ action L question site k
  unfolding action nothing ◌>>=◌
  same_action k = same_by nothing nothing nothing nothing nothing refl (λ p. refl) (λ x. x >>= λ y. given (action_at y.problem k) 13 k) (λ x. refl)

  pub same_check : (steps : ThirdInput) (state : List ℕ) → check_steps L question other steps state ≡ check_steps L question site steps state
  unfolding check_steps ready_to_run checked_from nothing
  same_check steps state = same_by nothing (λ _. take_steps steps) (λ _. take_steps steps) _ _ refl (λ p. refl) (λ x. checked_from x state) (λ x. refl)

  pub same_read : (steps : ThirdInput) (picks state : List ℕ) → picks_from_steps L question other steps picks state ≡ picks_from_steps L question site steps picks state
  unfolding picks_from_steps ready_to_run picks_read_from nothing
  same_read steps picks state = same_by nothing (λ _. take_steps steps) (λ _. take_steps steps) _ _ refl (λ p. refl) (λ x. picks_read_from x picks state) (λ x. refl)

  pub same_tries : (steps : List ℕ) (tries : List Try) (state : List ℕ) → try_lists L question other steps tries state ≡ try_lists L question site steps tries state
  unfolding try_lists ready_to_try tried_from nothing
  same_tries steps tries state = same_by nothing nothing nothing _ _ refl (λ p. refl) (λ x. tried_from x steps tries state) (λ x. refl)

  pub same_allowances : (old : List ℕ) → allowances L question other old ≡ allowances L question site old
  unfolding allowances allowed_from nothing
  same_allowances old = same_by without_every nothing nothing _ _ refl (λ p. refl) (λ x. allowed_from x old) (λ x. refl)

  pub same_window : window_of L question other ≡ window_of L question site
  unfolding window_of nothing ◌>>=◌
  same_window = same_by without_every nothing nothing nothing nothing refl (λ p. refl) (λ x. x >>= λ y. accepted (case_window y.problem)) (λ x. refl)

  pub same_check_layers : (steps ends state : List ℕ) → check_layers L question other steps ends state ≡ check_layers L question site steps ends state
  unfolding check_layers layers_checked_from
  same_check_layers steps ends state = same_by without_every (λ _. take_layers steps ends) (λ _. take_layers steps ends) _ _ refl (λ p. refl) (λ x. layers_checked_from x state) (λ x. refl)

  pub same_found : (old : List ℕ) → find L question other old ≡ find L question site old
  unfolding find found_words found_from nothing ◌>>=◌
  same_found old = same_by without_every nothing nothing _ _ refl (λ p. refl) (λ x. found_from (x >>= λ y. least_picks y.case (cells y.problem) >>= λ F. accepted (pick_words y.problem F)) old) (λ x. refl)

  pub same_monotone : monotone L question other ≡ monotone L question site
  unfolding monotone nothing ◌>>=◌
  same_monotone = same_by nothing nothing nothing nothing nothing refl (λ p. refl) (λ x. x >>= λ y. refuse_if (not (only_wants_more y.case.question)) 24 zero >>= λ _. refuse_if (not (rule_is_true y.case (cells y.problem))) 21 zero >>= λ _. accepted zero) (λ x. refl)

  -- what is handed over as picks, to each of the two: read and taken alike
  module _ (g g' : ThirdInput) (t : text_picks r.case r.labels g ≡ text_picks r.case labels g') (m : (p : Problem) → picks_room p g ≡ picks_room p g') (k : (p : Problem) (F : List Tuple) → take_picks p g F ≡ take_picks p g' F) where
    satisfied : (c : Case) (p : Problem) (F : List Tuple) → satisfying c p g' F ≡ satisfying c p g F
    unfolding satisfying
    satisfied c p F = rw (k p F) refl

    abbrev picked : CaseRead → Result (List Tuple)
    picked c = text_picks c.case c.labels g

    abbrev picked' : CaseRead → Result (List Tuple)
    picked' c = text_picks c.case c.labels g'

    same_build : (state steps : List ℕ) → build_steps L question other g' state steps ≡ build_steps L question site g state steps
    unfolding build_steps plan built_from ◌>>=◌
    same_build state steps =
        taken (asked L question other picked' nothing nothing (rooms g'))
        ∙ same_by nothing picked picked' (rooms g) (rooms g') t (λ p. ap (λ (x : Result (Unit {0})). x >>= λ _. room_for (state_length p) (length state) >>= λ _. room_for (bound p) (length steps)) (m p))
        (λ x. built_from (x >>= λ y. planned y.labels y.problem (satisfying y.case y.problem g y.third)) state steps)
        (λ y. ends y.problem labels y.labels (satisfying y.case y.problem g y.third))
      where
        rooms : ThirdInput → Problem → Result (Unit {0})
        rooms h p = picks_room p h >>= λ _. room_for (state_length p) (length state) >>= λ _. room_for (bound p) (length steps)

        planned : List Label → Problem → Result (List Tuple) → Result Plan
        planned ls p x = x >>= λ F. accepted (record { labels = ls; problem = p; picks = F; steps = built_steps p F })

        ends : (p : Problem) (ls ms : List Label) (x : Result (List Tuple)) → built_from (planned ls p x) state steps ≡ built_from (planned ms p x) state steps
        ends p ls ms (refused j place) = refl
        ends p ls ms (accepted F) = refl

        taken : (x : Result (Ready (List Tuple))) → built_from (x >>= λ y. planned y.labels y.problem (satisfying y.case y.problem g' y.third)) state steps ≡ built_from (x >>= λ y. planned y.labels y.problem (satisfying y.case y.problem g y.third)) state steps
        taken (refused j place) = refl
        taken (accepted y) = ap (λ (x : Result (List Tuple)). built_from (planned y.labels y.problem x) state steps) (satisfied y.case y.problem y.third)

    same_layers : (state steps ends : List ℕ) → build_layers L question other g' state steps ends ≡ build_layers L question site g state steps ends
    unfolding build_layers layered_plan layers_built_from ◌>>=◌
    same_layers state steps ends =
        taken (asked L question other picked' nothing without_every (rooms g'))
        ∙ same_by without_every picked picked' (rooms g) (rooms g') t (λ p. ap (λ (x : Result (Unit {0})). x >>= λ _. room_for (state_length p) (length state) >>= λ _. room_for (bound p) (length steps) >>= λ _. room_for (case_window p).upper (length ends)) (m p))
        (λ x. layers_built_from (x >>= λ y. made y.problem (satisfying y.case y.problem g y.third)) state steps ends) (λ y. refl)
      where
        rooms : ThirdInput → Problem → Result (Unit {0})
        rooms h p = picks_room p h >>= λ _. room_for (state_length p) (length state) >>= λ _. room_for (bound p) (length steps) >>= λ _. room_for (case_window p).upper (length ends)

        made : Problem → Result (List Tuple) → Result LayeredPlan
        made p x = x >>= λ F. accepted (record { problem = p; picks = F; layers = map (map (action_number p)) (built_layers p F) })

        taken : (x : Result (Ready (List Tuple))) → layers_built_from (x >>= λ y. made y.problem (satisfying y.case y.problem g' y.third)) state steps ends ≡ layers_built_from (x >>= λ y. made y.problem (satisfying y.case y.problem g y.third)) state steps ends
        taken (refused j place) = refl
        taken (accepted y) = ap (λ (x : Result (List Tuple)). layers_built_from (made y.problem x) state steps ends) (satisfied y.case y.problem y.third)

    same_judge : judge L question other g' ≡ judge L question site g
    unfolding judge ◌>>=◌
    same_judge =
        taken (asked L question other picked' nothing nothing (λ p. picks_room p g'))
        ∙ same_by nothing picked picked' (λ p. picks_room p g) (λ p. picks_room p g') t m (λ x. x >>= λ y. satisfying y.case y.problem g y.third >>= λ _. accepted zero) (λ y. refl)
      where
        taken : (x : Result (Ready (List Tuple))) → (x >>= λ y. satisfying y.case y.problem g' y.third >>= λ _. accepted zero) ≡ (x >>= λ y. satisfying y.case y.problem g y.third >>= λ _. accepted zero)
        taken (refused j place) = refl
        taken (accepted y) = ap (λ (x : Result (List Tuple)). x >>= λ _. accepted zero) (satisfied y.case y.problem y.third)

  -- lent picks
  pub same_build_words : (words state steps : List ℕ) → build_steps L question other (as_numbers words) state steps ≡ build_steps L question site (as_numbers words) state steps
  unfolding text_picks
  same_build_words words state steps = same_build (as_numbers words) (as_numbers words) refl (λ p. refl) (λ p F. refl) state steps

  pub same_layers_words : (words state steps ends : List ℕ) → build_layers L question other (as_numbers words) state steps ends ≡ build_layers L question site (as_numbers words) state steps ends
  unfolding text_picks
  same_layers_words words state steps ends = same_layers (as_numbers words) (as_numbers words) refl (λ p. refl) (λ p F. refl) state steps ends

  pub same_judge_words : (words : List ℕ) → judge L question other (as_numbers words) ≡ judge L question site (as_numbers words)
  unfolding text_picks
  same_judge_words words = same_judge (as_numbers words) (as_numbers words) refl (λ p. refl) (λ p F. refl)

  -- two texts that are read as the same picks
  module _ (text text' : List ℕ) (F : List Tuple) (a : text_picks r.case r.labels (as_text text) ≡ accepted F) (b : text_picks r.case labels (as_text text') ≡ accepted F) where
    pub same_build_text : (state steps : List ℕ) → build_steps L question other (as_text text') state steps ≡ build_steps L question site (as_text text) state steps
    unfolding picks_room take_picks
    same_build_text state steps = same_build (as_text text) (as_text text') (a ∙ sym b) (λ p. refl) (λ p F. refl) state steps

    pub same_layers_text : (state steps ends : List ℕ) → build_layers L question other (as_text text') state steps ends ≡ build_layers L question site (as_text text) state steps ends
    unfolding picks_room take_picks
    same_layers_text state steps ends = same_layers (as_text text) (as_text text') (a ∙ sym b) (λ p. refl) (λ p F. refl) state steps ends

    pub same_judge_text : judge L question other (as_text text') ≡ judge L question site (as_text text)
    unfolding picks_room take_picks
    same_judge_text = same_judge (as_text text) (as_text text') (a ∙ sym b) (λ p. refl) (λ p F. refl)
