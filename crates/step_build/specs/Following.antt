-- What building goes by, the states of its rounds, and what following the built steps is.
use Rattle.std.specs.Prelude.{ℕ, zero, ◌-◌, ◌≤◌, ◌≡◌, Bool, true, List, ◌++◌}
use Rattle.definitions.specs.Sheet.Relations.{Tuple}
use Rattle.definitions.specs.Problem.Truth.{Case, are_picks, are_of_kinds, every_tuples, values, every_value, rule_holds, rule_is_true}
use Rattle.definitions.specs.Problem.Atoms.{problem_of, State, initial}
use Rattle.definitions.specs.Problem.Actions.{begin_proof}
use Rattle.definitions.specs.Problem.Strips.{after}
use Rattle.definitions.specs.Problem.Built.{set_steps, built_actions}
use Rattle.laws.specs.Reader.{Accepted}
use Rattle.meaning.specs.Planning.{taken, rounds_now, round_state, proved_state}
use Rattle.step_prove.specs.Following.{ReadyToFollow, Out, out}
use Rattle.step_build.specs.Ways.{follow}

-- a case with few rounds, picks of its kinds, and a table with words that have room for its states
pub record Building (c : Case) (F : List Tuple) (table : List ℕ) (len : ℕ) : Type 0 where
  pub case : Accepted c
  pub picks : are_picks c F ≡ true
  pub kinds : are_of_kinds c F ≡ true
  pub few : every_tuples c ≤ 8
  pub ready : ReadyToFollow (problem_of c) table len

-- where the proof phase starts, where the round of value k does, and where that asks for its end
abbrev pub begun_from : Case → List Tuple → State
begun_from c F = after (problem_of c) (taken (problem_of c) (initial (problem_of c)) (set_steps (problem_of c) F)) begin_proof

abbrev pub round_at : Case → List Tuple → ℕ → State
round_at c F k = round_state (problem_of c) (begun_from c F) k

abbrev pub proved_at : Case → List Tuple → ℕ → State
proved_at c F k = proved_state (problem_of c) (begun_from c F) k

-- whether the rule is true with value k
abbrev pub round_holds : Case → List Tuple → ℕ → Bool
round_holds c F k = rule_holds c (F ++ every_value c k)

-- from o on the rounds before k lead to o'
pub record RoundsTo (c : Case) (F : List Tuple) (o o' : Out) (k : ℕ) : Type 0 where
  pub begins : o'.state ≡ round_at c F k
  pub rest : follow (problem_of c) o (rounds_now (problem_of c) (begun_from c F) zero (values c)) ≡ follow (problem_of c) o' (rounds_now (problem_of c) (round_at c F k) k (values c - k))

-- whether the rule is true of the picks, and if it is, the state in which the last round asks for its end
pub record Holds (c : Case) (F : List Tuple) (r : Bool) (s : State) : Type 0 where
  pub told : r ≡ rule_is_true c F
  pub ended : r ≡ true → s ≡ proved_at c F (values c - 1)

-- the built steps lead from the initial state to o, written over b
abbrev pub Follows : Case → List Tuple → List ℕ → Out → Type 0
Follows c F b o = follow (problem_of c) (out (initial (problem_of c)) b 0) (built_actions (problem_of c) F) ≡ o
