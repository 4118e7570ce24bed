-- Document 01, "Actions" (its end) and "The words of demand 3": taking steps, and the picks they set.
use Rattle.std.specs.Prelude.{ℕ, zero, suc, Bool, false, not, ◌&&◌, ◌||◌, List, [], ◌∷◌, map, eqb, if◌then◌else◌}
use Rattle.definitions.specs.Lists.{Steps, all, any, option, flat_map}
use Rattle.definitions.specs.Refusal.{Result, refused, accepted}
use Rattle.definitions.specs.Sheet.Relations.{Tuple}
use Rattle.definitions.specs.Problem.Atoms.{Problem, relation_at, places_of, goal, atom_number, State, initial}
use Rattle.definitions.specs.Problem.Actions.{Action, set, begin_proof, prove_and, prove_or, prove_exists, prove_forall, prove_goal, round_end, mark_in, mark_out, action_at, needs, adds, removes}

-- an action may be taken in a state that has all it needs
unfoldable pub may_take : Problem → State → Action → Bool
may_take p s a = all (λ x. s (atom_number p x)) (needs p a)

-- the state after an action: first what it removes goes, then what it adds comes
unfoldable pub after : Problem → State → Action → State
after p s a =
    let gone = map (atom_number p) (removes p a) in
    let come = map (atom_number p) (adds p a) in
    λ i. (s i && not (any (eqb i) gone)) || any (eqb i) come

-- Steps reach the goal if each is an action's number, each action may be taken in its turn, and the goal holds after the last.
unfoldable pub reaches_from : Problem → State → Steps → Bool
reaches_from p s [] = s (atom_number p goal)
reaches_from p s (k ∷ ks) = option (action_at p k) false (λ a. may_take p s a && reaches_from p (after p s a) ks)

unfoldable pub reaches_goal : Problem → Steps → Bool
reaches_goal p steps = reaches_from p (initial p) steps

-- Checking steps one by one: 13 for a number that is no action's, 14 for an action that may not be taken, 15 where the goal does
-- not hold at the end. The answer, with the step count if all is well, and the state left: for 13 and 14 the one before that step.
pub record Run : Type 0 where
  pub answer : Result ℕ
  pub state : State

unfoldable pub run_from : Problem → State → ℕ → Steps → Run
run_from p s i [] = record { answer = if s (atom_number p goal) then accepted i else refused 15 i; state = s }
run_from p s i (k ∷ ks) =
    option (action_at p k) (record { answer = refused 13 i; state = s })
    (λ a. if may_take p s a then run_from p (after p s a) (suc i) ks else record { answer = refused 14 i; state = s })

unfoldable pub run : Problem → Steps → Run
run p steps = run_from p (initial p) zero steps

-- the picks read from steps: the tuples of their set actions
unfoldable pub pick_of : Problem → Action → List Tuple
pick_of p (set r row) = record { relation = r; places = places_of p.size (relation_at p r).arity row } ∷ []
pick_of p begin_proof = []
pick_of p (prove_and v row) = []
pick_of p (prove_or v row i) = []
pick_of p (prove_exists v row x) = []
pick_of p (prove_forall v row z) = []
pick_of p prove_goal = []
pick_of p round_end = []
pick_of p (mark_in r row) = []
pick_of p (mark_out r row) = []

unfoldable pub picks_of : Problem → Steps → List Tuple
picks_of p steps = flat_map (λ k. option (action_at p k) [] (pick_of p)) steps
