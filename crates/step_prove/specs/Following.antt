-- The builder's progress: the state, the lent steps and how many are written.
use Rattle.std.specs.Prelude.{ℕ, suc, ◌*◌, ◌^◌, ◌≤◌, List, set}
use Rattle.definitions.specs.Problem.Atoms.{Problem, State, atoms}
use Rattle.definitions.specs.Problem.Actions.{Action, actions, action_number}
use Rattle.definitions.specs.Problem.Strips.{after}
use Rattle.problem_table.specs.Of.{Is}

-- the table is the problem's, a state of k words has room for its atoms, and its action numbers fit a step
pub record ReadyToFollow (p : Problem) (w : List ℕ) (k : ℕ) : Type 0 where
  pub is : Is p w
  pub room : atoms p ≤ 64 * k
  pub few : actions p ≤ 2 ^ 32

pub record Out : Type 0 where
  pub state : State
  pub steps : List ℕ
  pub count : ℕ

abbrev pub out : State → List ℕ → ℕ → Out
out s b k = record { state = s; steps = b; count = k }

-- one action more is taken and its number written
unfoldable pub one : Problem → Out → Action → Out
one p o a = record { state = after p o.state a; steps = set o.steps o.count (action_number p a); count = suc o.count }
