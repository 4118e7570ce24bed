-- Where no element is printed by more than two bytes, every step has one line, and a page's first line is that of its step. Assumes nothing.
use Rattle.std.specs.Prelude.{ℕ, zero, suc, ◌+◌, ◌-◌, ◌*◌, ◌≤◌, ◌<◌, ◌≡◌, refl, Bool, true, false, T, ltb, get_or}
use Rattle.std.proofs.Common.{sym, subst, ◌∙◌, ⊎_elim, add-one, ltb→lt, ltb-true, ltb-false, le-leb}
use Rattle.std.proofs.Math.Path.{ap}
use Rattle.std.proofs.Math.Option.{some}
use mathlib.Core.List.Memᴰ
use mathlib.Core.List.{List, [], ◌∷◌, ◌++◌, map, Memᴰ}
use native.Mathlib.Omega.{arith}
use Rattle.std.proofs.Math.ListN.{length, length-append}
use Rattle.std.proofs.Math.Seq.{length-slice}
use Rattle.definitions.specs.Lists.{option, flat_map}
use Rattle.definitions.specs.Refusal.{accepted}
use Rattle.definitions.specs.Sheet.Sheets.{Label}
use Rattle.definitions.specs.Problem.Tree.{free}
use Rattle.definitions.specs.Problem.Atoms.{Problem, State, initial, relation_at, node_at, places_of}
use Rattle.definitions.specs.Problem.Actions.{Action, set, begin_proof, prove_and, prove_or, prove_exists, prove_forall, prove_goal, round_end, mark_in, mark_out, action_at}
use Rattle.definitions.specs.Problem.Strips.{run_from, run, after}
use Rattle.definitions.specs.Reply.Desk.{said}
use Rattle.definitions.specs.Reply.Page.{free_values, shown_elements, part_word, units, packed, step_head, step_lines}
use Rattle.laws.specs.Decimals.{decimal_length}
use Rattle.laws.specs.Lists.{all_at}
use Rattle.laws.specs.Rows.{length_places, places_below}
use Rattle.laws.specs.Numbers.{IsAction, action_is}
use Rattle.laws.specs.Pages.{joined, commas, units_joined, headed_count, Shown, lines_at}
use Rattle.meaning.specs.Means.{Good}
use Rattle.meaning.specs.Shown.{four_free}
use Rattle.meaning.specs.HeldTuples.{are_taken, first_taken}
use Rattle.print_line.specs.Lines.{spelled, said_by}
use Rattle.print_units.specs.Units.{Short}
use Rattle.print_page.specs.Bodies.{Before, before_none, before_next, Finds, finds_here, finds_none}

-- every step has an action
abbrev pub Taken : Problem → List ℕ → Type 0
Taken p steps = (i : ℕ) → i < length steps → (a : Action) × (action_at p (get_or steps i 0) ≡ some a)

-- every step has one line
abbrev pub OneEach : List Label → Problem → List ℕ → Type 0
OneEach ls p steps = (i : ℕ) → i < length steps → length (lines_at ls p i (get_or steps i 0)) ≡ 1

-- no label of the n elements has more than two bytes
unfoldable pub Narrow : List ℕ → ℕ → Type 0
Narrow labels n = (x : ℕ) → x < n → get_or labels (2 * x + 1) 0 ≤ get_or labels (2 * x) 0 + 2

pub narrow_none : (labels : List ℕ) → Narrow labels 0
unfolding Narrow
narrow_none labels x h = absurd (omega arith)

pub narrow_next : (labels : List ℕ) (x from to : ℕ) → Narrow labels x → from ≡ get_or labels (2 * x) 0 → to ≡ get_or labels (2 * x + 1) 0 → to - from ≤ 2 → Narrow labels (x + 1)
unfolding Narrow
narrow_next labels x from to N a b h y l = by_test (ltb y x) refl
  where
    by_test : (t : Bool) → ltb y x ≡ t → get_or labels (2 * y + 1) 0 ≤ get_or labels (2 * y) 0 + 2
    by_test true q = N y (ltb-true y x q)
    by_test false q = let e : x ≡ y = omega (arith, ltb-false y x q) in subst (λ (z : ℕ). get_or labels (2 * z + 1) 0 ≤ get_or labels (2 * z) 0 + 2) e (omega arith)

-- ---- steps that reach the goal were all taken
taken_from : (p : Problem) (G : Good p) (ks : List ℕ) (s : State) (i n : ℕ) → (run_from p s i ks).answer ≡ accepted n → Taken p ks
unfolding are_taken
taken_from p G [] s i n e j h = absurd (omega arith)
taken_from p G (k ∷ ks) s i n e j h =
    let t = first_taken p G s i k ks (subst (λ r. T (are_taken r)) (sym e) tt) in
    by_index j h (taken_from p G ks (after p s t.action) (suc i) n (sym (ap (λ r. r.answer) t.runs) ∙ e)) (t.action, t.at)
  where
    by_index : (j : ℕ) → j < length (k ∷ ks) → Taken p ks → (a : Action) × (action_at p k ≡ some a) → (a : Action) × (action_at p (get_or (k ∷ ks) j 0) ≡ some a)
    by_index zero h rest here = here
    by_index (suc j) h rest here = rest j (omega arith)

pub all_taken : (p : Problem) (G : Good p) (steps : List ℕ) (n : ℕ) → (run p steps).answer ≡ accepted n → Taken p steps
unfolding run
all_taken p G steps n e = taken_from p G steps (initial p) zero n e

-- ---- units that all fit are one line
packed_one : (line : List ℕ) (us : List (List ℕ)) → length line + length (joined us) ≤ 30 → length (packed line us) ≡ 1
unfolding packed flat_map
packed_one line [] h = refl
packed_one line (u ∷ us) h =
    let m = length-append u (joined us) in
    rw (le-leb (length line + length u) 30 (omega arith)) (packed_one (line ++ u) us (omega (arith, length-append line u)))

module _ (p : Problem) (G : Good p) (ls : List Label) (two : (x : ℕ) → x < p.size → length (said ls x) ≤ 2) where
  places_two : (k row x : ℕ) → Memᴰ x (places_of p.size k row) → length (said ls x) ≤ 2
  places_two k row x m = two x (ltb→lt x p.size (all_at _ (places_of p.size k row) (places_below p.size k row G.element) x m))

  free_two : (v row x : ℕ) → Memᴰ x (free_values p v row) → length (said ls x) ≤ 2
  unfolding free_values
  free_two v row x m = places_two (length (free (node_at p v))) row x m

  more_two : (v row x s : ℕ) → Memᴰ x (p.range s) → (y : ℕ) → Memᴰ y (free_values p v row ++ (x ∷ [])) → length (said ls y) ≤ 2
  more_two v row x s r y m =
      ⊎_elim (λ q. free_two v row y q) (λ q. subst (λ (z : ℕ). length (said ls z) ≤ 2) (sym (Memᴰ.eq_of_singleton q)) (two x ((G.ranged s).small x r))) (Memᴰ.append_cases (free_values p v row) m)

  elements_two : (a : Action) → IsAction p a → (x : ℕ) → Memᴰ x (shown_elements p a) → length (said ls x) ≤ 2
  unfolding IsAction shown_elements
  elements_two (set r row) v x m = places_two (relation_at p r).arity row x m
  elements_two begin_proof v x m = absurd (Memᴰ.not-nil m)
  elements_two (prove_and w row) v x m = free_two w row x m
  elements_two (prove_or w row i) v x m = free_two w row x m
  elements_two (prove_exists w row y) v x m = more_two w row y v.2.1 v.2.4 x m
  elements_two (prove_forall w row y) v x m = more_two w row y v.2.1 v.2.4 x m
  elements_two prove_goal v x m = absurd (Memᴰ.not-nil m)
  elements_two round_end v x m = absurd (Memᴰ.not-nil m)
  elements_two (mark_in r row) v x m = places_two (relation_at p r).arity row x m
  elements_two (mark_out r row) v x m = places_two (relation_at p r).arity row x m

  commas_two : (xs : List ℕ) → ((x : ℕ) → Memᴰ x xs → length (said ls x) ≤ 2) → length (commas (map (said ls) xs)) ≤ 3 * length xs
  unfolding commas
  commas_two [] h = omega arith
  commas_two (x ∷ []) h = omega (arith, h x (Memᴰ.head refl))
  commas_two (x ∷ y ∷ ys) h =
      let m = commas_two (y ∷ ys) (λ z i. h z (Memᴰ.tail i)) in
      omega (arith, h x (Memᴰ.head refl), length-append (said ls x) (44 ∷ commas (map (said ls) (y ∷ ys))))

  -- four values and a part, or five values
  fits : (k : ℕ) (a : Action) → Shown ls p k a → 3 * length (shown_elements p a) + length (part_word a) ≤ 30
  unfolding shown_elements part_word free_values
  fits k (set r row) S = omega (arith, S.few)
  fits k begin_proof S = omega arith
  fits k (prove_and w row) S = omega (arith, S.few)
  fits k (prove_or w row i) S = omega (arith, S.part, length_places p.size (length (free (node_at p w))) row, four_free (node_at p w))
  fits k (prove_exists w row x) S = omega (arith, S.few)
  fits k (prove_forall w row x) S = omega (arith, S.few)
  fits k prove_goal S = omega arith
  fits k round_end S = omega arith
  fits k (mark_in r row) S = omega (arith, S.few)
  fits k (mark_out r row) S = omega (arith, S.few)

  step_one : (i k : ℕ) (a : Action) → action_at p k ≡ some a → Shown ls p k a → length (step_lines ls p i k a) ≡ 1
  unfolding step_lines
  step_one i k a e S =
      let us = units ls (part_word a) (shown_elements p a) in
      headed_count (step_head p i k a) (packed [] us)
      ∙ packed_one [] us (omega (arith, ap length (units_joined ls (part_word a) (shown_elements p a)), length-append (commas (map (said ls) (shown_elements p a))) (part_word a), commas_two (shown_elements p a) (elements_two a (action_is p k a e)), fits k a S))

  pub one_each : ((k : ℕ) (a : Action) → action_at p k ≡ some a → Shown ls p k a) → (steps : List ℕ) → Taken p steps → OneEach ls p steps
  unfolding option
  one_each S steps t i h = let (a, e) = t i h in rw e (step_one i (get_or steps i 0) a e (S (get_or steps i 0) a e))

-- ---- an element that has a short label or none
pub two_bytes : (site labels : List ℕ) (n : ℕ) (ls : List Label) → Short site labels n → n ≤ 64 → Narrow labels n → said_by site labels ≡ said ls → (x : ℕ) → x < n → length (said ls x) ≤ 2
unfolding Narrow said_by spelled
two_bytes site labels n ls S few N e x h = subst (λ (f : ℕ → List ℕ). length (f x) ≤ 2) e (by_end (get_or labels (2 * x + 1) 0) refl)
  where
    by_end : (to : ℕ) → get_or labels (2 * x + 1) 0 ≡ to → length (spelled site x (get_or labels (2 * x) 0) to) ≤ 2
    by_end zero q = omega (arith, decimal_length 1 x (omega arith))
    by_end (suc to) q = omega (arith, length-slice (get_or labels (2 * x) 0) (suc to) site (omega (arith, (S.spans.in_text x h).1)), N x h)

-- ---- so the line of a number is that of the step of that number
module _ (ls : List Label) (p : Problem) (steps : List ℕ) (one : OneEach ls p steps) where
  before_one : (i : ℕ) → i ≤ length steps → Before ls p steps i i
  before_one zero h = before_none ls p steps
  before_one (suc i) h = rw (sym (add-one i)) (before_next ls p steps i i 1 (get_or steps i 0) (omega arith) refl (sym (one i (omega arith))) (before_one i (omega arith)))

  pub jumps_here : (first : ℕ) → first < length steps → Finds ls p steps first first first
  jumps_here first h = finds_here ls p steps first first 1 (get_or steps first 0) first h refl (sym (one first h)) (before_one first (omega arith)) (omega arith)

  pub jumps_past : (first : ℕ) → length steps ≤ first → Finds ls p steps first (length steps) (length steps)
  jumps_past first h = finds_none ls p steps (length steps) (length steps) first (omega arith) (before_one (length steps) (omega arith)) h
