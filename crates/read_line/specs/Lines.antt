-- The lines of a text from a place on, and any sheet read from there with the state reached.
use Rattle.std.specs.Prelude.{ℕ, List, drop}
use Rattle.definitions.specs.Sheet.Text.{Line, split, lines_from}
use Rattle.definitions.specs.Refusal.{Result, ◌>>=◌, read_lines}
use Rattle.definitions.specs.Sheet.Sheets.{Entry, entry_of}

-- the lines of s from the place `at` on
unfoldable pub lines_at : List ℕ → ℕ → List Line
lines_at s at = lines_from at (split 10 (drop at s))

module _ {S : Type 0} (add : S → ℕ → Entry → Result S) where
  unfoldable pub line_by : S → Line → Result S
  line_by st l = entry_of l >>= add st l.at

  unfoldable pub read_at : List ℕ → ℕ → S → Result S
  read_at s at st = read_lines line_by st (lines_at s at)
