-- Document 02, job 2, "Steps side by side": the window of a case, layers of steps, checking and building them. What may be taken is all
-- that these definitions ask; no step is given a layer in advance.
use Rattle.std.specs.Prelude.{ℕ, zero, suc, ◌+◌, ◌-◌, max, min, Bool, true, not, ◌&&◌, ◌||◌, List, [], ◌∷◌, ◌++◌, map, length, take, drop, eqb, ltb, if◌then◌else◌}
use Rattle.std.proofs.Math.Option.{Option, none, some}
use Rattle.definitions.specs.Limits.{CaseLimits}
use Rattle.definitions.specs.Lists.{Steps, Text, Words, all, any, option, flat_map}
use Rattle.definitions.specs.Refusal.{Result, refused, accepted, ◌>>=◌, refuse_if}
use Rattle.definitions.specs.Sheet.Relations.{Tuple}
use Rattle.definitions.specs.Problem.Tree.{Tree, Trees, leaf, forall_node, exists_node, and_node, or_node, end, ◌then◌}
use Rattle.definitions.specs.Problem.Atoms.{Problem, goal, atom_number, State, initial, state_words}
use Rattle.definitions.specs.Problem.Actions.{Action, action_at, action_number, needs, adds, removes}
use Rattle.definitions.specs.Problem.Strips.{may_take, Run}
use Rattle.definitions.specs.Problem.Built.{built_actions, bound}
use Rattle.definitions.specs.Reply.Outcome.{Ready, asked, nothing, without_every, room_for, state_length, written, ThirdInput, as_numbers, take_steps, text_picks, picks_room, Checked, satisfying}

-- ---- the window of a case: how many layers its plans have at the least, and how many the built ones have at the most

pub record Window : Type 0 where
  pub lower : ℕ
  pub upper : ℕ

-- the greatest and the least of some numbers (0 where there are none: an `and` and an `or` have parts)
unfoldable pub most : List ℕ → ℕ
most [] = zero
most (k ∷ ks) = max k (most ks)

unfoldable pub fewest : List ℕ → ℕ
fewest [] = zero
fewest (k ∷ []) = k
fewest (k ∷ m ∷ ks) = min k (fewest (m ∷ ks))

unfoldable pub wider : ℕ → Window → Window
wider k w = record { lower = k + w.lower; upper = k + w.upper }

-- A literal has [0,0]. `and` is 1 more than the greatest of both ends, `or` 1 more than the least lower and the greatest upper end;
-- `exists` adds 1, and `forall` as many as its variable ranges over.
unfoldable mutual
  pub window : (ℕ → List ℕ) → Tree → Window
  window R (leaf p r ls) = record { lower = zero; upper = zero }
  window R (forall_node d s t) = wider (length (R s)) (window R t)
  window R (exists_node d s t) = wider 1 (window R t)
  window R (and_node ts) = wider 1 (record { lower = most (map (λ (w : Window). w.lower) (windows R ts)); upper = most (map (λ (w : Window). w.upper) (windows R ts)) })
  window R (or_node ts) = wider 1 (record { lower = fewest (map (λ (w : Window). w.lower) (windows R ts)); upper = most (map (λ (w : Window). w.upper) (windows R ts)) })

  pub windows : (ℕ → List ℕ) → Trees → List Window
  windows R end = []
  windows R (t then ts) = window R t ∷ windows R ts

-- "the case adds [2,3]"
unfoldable pub case_window : Problem → Window
case_window p = let w = window p.range p.root in record { lower = w.lower + 2; upper = w.upper + 3 }

-- ---- a layer: steps that may all be taken in the state before it, and of which none removes what another needs or adds. "Another" goes
-- by position: an action that stands twice in a layer counts as two.

unfoldable pub disturbs : Problem → Action → Action → Bool
disturbs p a b = any (λ i. any (eqb i) (map (atom_number p) (needs p b ++ adds p b))) (map (atom_number p) (removes p a))

unfoldable pub are_apart : Problem → List Action → Bool
are_apart p [] = true
are_apart p (a ∷ l) = all (λ b. not (disturbs p a b || disturbs p b a)) l && are_apart p l

unfoldable pub may_take_all : Problem → State → List Action → Bool
may_take_all p s l = all (may_take p s) l && are_apart p l

-- the state after a layer: first everything that is removed goes, then everything that is added comes
unfoldable pub after_all : Problem → State → List Action → State
after_all p s l =
    let gone = flat_map (λ a. map (atom_number p) (removes p a)) l in
    let come = flat_map (λ a. map (atom_number p) (adds p a)) l in
    λ i. (s i && not (any (eqb i) gone)) || any (eqb i) come

-- ---- checking layers one by one: 13 for a layer with a number that is no action's, 14 for one that may not be taken, 15 where the goal
-- does not hold at the end. The place is the layer, from 0, and with 15, or if all is well, how many there are; the state left is the one
-- before the layer that is refused, or the last.

unfoldable pub actions_at : Problem → Steps → Option (List Action)
actions_at p [] = some []
actions_at p (k ∷ ks) = option (action_at p k) none (λ a. option (actions_at p ks) none (λ l. some (a ∷ l)))

unfoldable pub run_layers_from : Problem → State → ℕ → List Steps → Run
run_layers_from p s i [] = record { answer = if s (atom_number p goal) then accepted i else refused 15 i; state = s }
run_layers_from p s i (ks ∷ layers) =
    option (actions_at p ks) (record { answer = refused 13 i; state = s })
    (λ l. if may_take_all p s l then run_layers_from p (after_all p s l) (suc i) layers else record { answer = refused 14 i; state = s })

unfoldable pub run_layers : Problem → List Steps → Run
run_layers p layers = run_layers_from p (initial p) zero layers

-- ---- building layers: the plain builder's steps, in its order, each in the earliest layer it may join, that is the first one that may
-- still be taken with it; if there is none, in a new last layer

unfoldable pub join : Problem → State → Action → List (List Action) → List (List Action)
join p s a [] = (a ∷ []) ∷ []
join p s a (l ∷ ls) = if may_take_all p s (l ++ (a ∷ [])) then (l ++ (a ∷ [])) ∷ ls else l ∷ join p (after_all p s l) a ls

unfoldable pub join_each : Problem → State → List (List Action) → List Action → List (List Action)
join_each p s ls [] = ls
join_each p s ls (a ∷ l) = join_each p s (join p s a ls) l

unfoldable pub built_layers : Problem → List Tuple → List (List Action)
built_layers p picks = join_each p (initial p) [] (built_actions p picks)

-- ---- a layered plan as it is lent: all steps, layer after layer, and for each layer the index after its last step

unfoldable pub flat : {A : Type 0} → List (List A) → List A
flat [] = []
flat (l ∷ ls) = l ++ flat ls

unfoldable pub ends_from : {A : Type 0} → ℕ → List (List A) → List ℕ
ends_from k [] = []
ends_from k (l ∷ ls) = (k + length l) ∷ ends_from (k + length l) ls

unfoldable pub layers_from : ℕ → Steps → List ℕ → List Steps
layers_from k steps [] = []
layers_from k steps (e ∷ es) = take (e - k) steps ∷ layers_from e (drop (e - k) steps) es

-- 3: an end that is below the one before it, with its layer as place; then a last end (0 without layers) that is not the number of
-- steps, with the last layer (0 if none)
unfoldable pub ends_test : ℕ → ℕ → ℕ → List ℕ → Result (Unit {0})
ends_test count k i [] = refuse_if (not (eqb k count)) 3 (i - 1)
ends_test count k i (e ∷ es) = refuse_if (ltb e k) 3 i >>= λ _. ends_test count e (suc i) es

-- the third input of the checker: 1 by the number of steps, then the ends
unfoldable pub take_layers : Steps → List ℕ → Result (List Steps)
take_layers steps ends = do
  ks ← take_steps (as_numbers steps)
  _ ← ends_test (length ks) zero zero ends
  accepted (layers_from zero ks ends)

-- ---- the calls

-- None of the three takes a case with an `every` line, whose plans go back: 23, right after 11 and the case's own 23.

-- the window: question, site, 11, 23
unfoldable pub window_of : CaseLimits → Text → Text → Result Window
window_of L question site = asked L question site nothing nothing without_every nothing >>= λ r. accepted (case_window r.problem)

-- checking: question, site, steps and ends, 11, 23, 12 for the state; then the layers one by one
unfoldable pub layers_checked_from : Result (Ready (List Steps)) → Words → Checked
layers_checked_from (refused k place) state = record { answer = refused k place; state = state }
layers_checked_from (accepted r) state =
    let ran = run_layers r.problem r.third in
    record { answer = ran.answer; state = written (state_words r.problem ran.state) state }

unfoldable pub check_layers : CaseLimits → Text → Text → Steps → (ends : List ℕ) → Words → Checked
check_layers L question site steps ends state =
    layers_checked_from (asked L question site (λ _. take_layers steps ends) nothing without_every (λ p. room_for (state_length p) (length state))) state

-- building: question, site, a text of picks, 11, 23, 12 (lent picks, state, steps, ends; the steps need the bound, the ends the window's upper
-- number), 10, 16, 17
pub record LayeredPlan : Type 0 where
  pub problem : Problem
  pub picks : List Tuple
  pub layers : List Steps

unfoldable pub layered_plan : CaseLimits → Text → Text → ThirdInput → (stateRoom stepsRoom endsRoom : ℕ) → Result LayeredPlan
layered_plan L question site picks stateRoom stepsRoom endsRoom = do
  r ← asked L question site (λ c. text_picks c.case c.labels picks) nothing without_every
      (λ p. picks_room p picks >>= λ _. room_for (state_length p) stateRoom >>= λ _. room_for (bound p) stepsRoom >>= λ _. room_for (case_window p).upper endsRoom)
  tuples ← satisfying r.case r.problem picks r.third
  accepted (record { problem = r.problem; picks = tuples; layers = map (map (action_number r.problem)) (built_layers r.problem tuples) })

pub record LayersBuilt : Type 0 where
  pub answer : Result ℕ
  pub state : Words
  pub steps : Steps
  pub ends : List ℕ

unfoldable pub layers_built_from : Result LayeredPlan → Words → Steps → (ends : List ℕ) → LayersBuilt
layers_built_from (refused k place) state steps ends = record { answer = refused k place; state = state; steps = steps; ends = ends }
layers_built_from (accepted b) state steps ends =
    record {
      answer = accepted (length b.layers);
      state = written (state_words b.problem (run_layers b.problem b.layers).state) state;
      steps = written (flat b.layers) steps;
      ends = written (ends_from zero b.layers) ends;
    }

unfoldable pub build_layers : CaseLimits → Text → Text → ThirdInput → Words → Steps → (ends : List ℕ) → LayersBuilt
build_layers L question site picks state steps ends = layers_built_from (layered_plan L question site picks (length state) (length steps) (length ends)) state steps ends
