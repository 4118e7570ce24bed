-- Building from the initial state: what is asked of a case and its picks, and what is given then.
use Rattle.std.specs.Prelude.{ℕ, ◌+◌, ◌/◌, ◌^◌, ◌≤◌, ◌≡◌, true, List, ◌++◌, length, take, drop}
use Rattle.std.proofs.Common.{arith, sym, subst, length-take}
use Rattle.std.proofs.Math.Seq.{length_front}
use Rattle.definitions.specs.Sheet.Relations.{Tuple}
use Rattle.definitions.specs.Problem.Truth.{Case, are_picks, every_tuples}
use Rattle.definitions.specs.Problem.Atoms.{problem_of, atoms, words_for}
use Rattle.definitions.specs.Problem.Actions.{actions}
use Rattle.definitions.specs.Problem.Built.{bound}
use Rattle.laws.specs.Reader.{Accepted}
use Rattle.problem_table.specs.Of.{Is}
use Rattle.step_start.specs.Rows.{atoms_in}
use Rattle.step_start.specs.Initial.{FactsIn}
use Rattle.step_picks.specs.Words.{PicksAre}

-- a table, the facts, the picks and room for the steps are those of a case and of picks of it
pub record Prepared (c : Case) (F : List Tuple) (table facts words : List ℕ) (count room : ℕ) : Type 0 where
  pub case : Accepted c
  pub picks : are_picks c F ≡ true
  pub is : Is (problem_of c) table
  pub facts_in : FactsIn (problem_of c) facts
  pub picked : PicksAre (problem_of c) words F
  pub atoms_are : count ≡ atoms (problem_of c)
  pub few : actions (problem_of c) ≤ 2 ^ 32
  pub few_tuples : every_tuples c ≤ 8
  pub steps_room : bound (problem_of c) ≤ room

-- so many words are enough for the initial state
pub words_enough : (w : List ℕ) (count k : ℕ) → atoms_in w ≡ count → (count + 63) / 64 ≡ k → words_for (atoms_in w) ≤ k
unfolding words_for
words_enough w count k e q = subst (λ (x : ℕ). (x + 63) / 64 ≤ k) (sym e) (omega arith)

-- a table whose front was lent and came back is as long as before
pub front_fits : (k : ℕ) (t new : List ℕ) → length new ≡ length (take k t) → k ≤ length t → k ≤ length (new ++ drop k t)
front_fits k t new e h = subst (λ (n : ℕ). k ≤ n) (sym (length_front t new k e)) h

pub front_short : (k m : ℕ) (t : List ℕ) → k ≤ m → length (take k t) ≤ m
front_short k m t h = omega (arith, length-take k t)
