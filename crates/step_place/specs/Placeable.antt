-- What is asked of a case, of its picks and of the table for the built steps to be placed in layers.
use Rattle.std.specs.Prelude.{ℕ, ◌≤◌, ◌<◌, ◌≡◌, true, List, length}
use Rattle.std.proofs.Math.Option.{none}
use Rattle.definitions.specs.Sheet.Relations.{Tuple}
use Rattle.definitions.specs.Problem.Truth.{Case, are_picks, rule_is_true, first_of_other_kind}
use Rattle.definitions.specs.Problem.Atoms.{problem_of, state_words, atoms as «atoms_of»}
use Rattle.definitions.specs.Problem.Actions.{actions}
use Rattle.definitions.specs.Problem.Strips.{run}
use Rattle.definitions.specs.Problem.Built.{built_steps}
use Rattle.definitions.specs.Reply.Layers.{case_window, flat, ends_from}
use Rattle.definitions.specs.Reply.Outcome.{state_length, written}
use Rattle.meaning.specs.Layered.{built_numbers}
use Rattle.laws.specs.Reader.{Accepted}
use Rattle.problem_table.specs.Of.{Is}

pub record Placeable (c : Case) (F : List Tuple) (table : List ℕ) (atoms : ℕ) : Type 0 where
  pub case : Accepted c
  pub picks : are_picks c F ≡ true
  pub kinds : none ≡ first_of_other_kind c F
  pub holds : rule_is_true c F ≡ true
  pub alone : c.question.every ≡ none
  pub is : Is (problem_of c) table
  pub atoms_are : atoms ≡ «atoms_of» (problem_of c)
  pub few : actions (problem_of c) ≤ 4194304
  pub levels_few : (case_window (problem_of c)).upper < 1024

-- The built steps lent with the state that they leave, and what is left of them and of the ends: those of the built layers.
abbrev pub IsPlaced : (c : Case) (F : List Tuple) (state steps ends : List ℕ) (count r : ℕ) (steps' ends' : List ℕ) → Type 0
IsPlaced c F state steps ends count r steps' ends' = (before old : List ℕ)
    → state ≡ written (state_words (problem_of c) (run (problem_of c) (built_steps (problem_of c) F)).state) before → state_length (problem_of c) ≤ length before
    → steps ≡ written (built_steps (problem_of c) F) old → length (built_steps (problem_of c) F) ≤ length old → count ≡ length (built_steps (problem_of c) F)
    → (case_window (problem_of c)).upper ≤ length ends
    → (r ≡ length (built_numbers (problem_of c) F)) × (steps' ≡ written (flat (built_numbers (problem_of c) F)) old)
    × (ends' ≡ written (ends_from 0 (built_numbers (problem_of c) F)) ends)
