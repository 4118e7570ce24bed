-- `read_plan::is_word_byte` meets its contract. Assumes nothing.
use mathlib.Core.Path.{◌≡◌}
use mathlib.Core.Bool.{Bool, ◌||◌}
use Rattle.definitions.specs.Sheet.Text.{is_small, is_digit, is_between}
use Prim.Native.Nat.{ℕ}
use lib.Dec.{eqb}
use Rattle.std.specs.Char.{is_ascii_digit, is_ascii_lowercase}
use Rattle.definitions.specs.Reply.Pddl.{small, is_word_byte}
use Rattle.read_plan.proofs.is_word_byte.Goals as goal

word_as : (b c : ℕ) (l d : Bool) → c ≡ small b → l ≡ is_ascii_lowercase c → d ≡ is_ascii_digit c → (((l || d) || eqb c 95) || eqb c 45) ≡ is_word_byte (small b)
unfolding is_word_byte is_small is_digit is_between
word_as b c l d e p q = rw (← e, p, q)

pub returns : goal.returns
returns c = word_as c.args.b _ _ _ c.small-c.ensures c.is_ascii_lowercase.ensures.value c.is_ascii_digit.ensures.value
