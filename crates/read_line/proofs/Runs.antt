-- The loop over the lines of any sheet: reading the whole is reading the rest from a place on with the state reached.
use Prim.Native.Nat.{ℕ, ◌≤◌, ◌<◌}
use mathlib.Core.Path.{◌≡◌, ap, ◌∙◌}
use mathlib.Core.Option.{Option}
use mathlib.Core.List.{List, ◌∷◌}
use lib.ListN.{length}
use borrow.Author.Tests.{lt-ltb, le-ltb}
use Rattle.definitions.specs.Limits.{text_limit}
use Rattle.definitions.specs.Sheet.Text.{Line, lines}
use Rattle.definitions.specs.Refusal.{Result, refused, accepted, ◌>>=◌, refuse_if, given, read_lines, read_text}
use Rattle.definitions.specs.Sheet.Sheets as D
use Rattle.read_line.specs.Lines.{lines_at, line_by, read_at}
use Rattle.read_line.specs.Entries.{entry_in, Reads}
use Rattle.read_line.specs.declared.Entry.{Entry}
use Rattle.read_line.proofs.Fields.{lines_stop}

module _ {S : Type 0} (add : S → ℕ → D.Entry → Result S) where
  pub read_long : (s : List ℕ) (st : S) → text_limit < length s → read_text (line_by add) st s ≡ refused 1 0
  unfolding read_text refuse_if ◌>>=◌
  read_long s st h = rw (lt-ltb text_limit (length s) h)

  pub read_start : (s : List ℕ) (st : S) → length s ≤ text_limit → read_text (line_by add) st s ≡ read_at add s 0 st
  unfolding read_text refuse_if ◌>>=◌ read_at lines_at lines
  read_start s st h = rw (le-ltb text_limit (length s) h)

  pub read_stop : (s : List ℕ) (at : ℕ) (st : S) → at ≡ length s → read_at add s at st ≡ accepted st
  unfolding read_at read_lines
  read_stop s at st q = rw (lines_stop s at q)

  next_of : (s : List ℕ) (at next : ℕ) (st : S) (l : Line) (o : Option D.Entry) → lines_at s at ≡ l ∷ lines_at s next → l.at ≡ at → D.entry_of l ≡ given o 2 at
      → read_at add s at st ≡ ((given o 2 at >>= add st at) >>= read_at add s next)
  unfolding read_at read_lines line_by
  next_of s at next st l o p q r = rw (p, r, q)

  pub read_next : (s : List ℕ) (at next : ℕ) (st : S) (x : Entry) → Reads s at next x
      → read_at add s at st ≡ ((given (entry_in s x) 2 at >>= add st at) >>= read_at add s next)
  unfolding Reads
  read_next s at next st x w = next_of s at next st w.0 (entry_in s x) w.1 w.2 w.3

  -- by what the line gives
  module _ (s : List ℕ) (at next : ℕ) (st : S) (x : Entry) (l : Reads s at next x) where
    pub read_went : (st' : S) → (given (entry_in s x) 2 at >>= add st at) ≡ accepted st' → read_at add s at st ≡ read_at add s next st'
    unfolding ◌>>=◌
    read_went st' e = read_next s at next st x l ∙ ap (λ (r : Result S). r >>= read_at add s next) e

    pub read_halted : (k place : ℕ) → (given (entry_in s x) 2 at >>= add st at) ≡ refused k place → read_at add s at st ≡ refused k place
    unfolding ◌>>=◌
    read_halted k place e = read_next s at next st x l ∙ ap (λ (r : Result S). r >>= read_at add s next) e
