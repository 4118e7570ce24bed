-- What the lists need of a case that was begun.
use Rattle.std.specs.Prelude.{ℕ, ◌*◌, ◌≤◌, ◌≡◌, List, length, take, Ok, Err}
use Rattle.definitions.specs.Refusal.{Result, refused, accepted}
use Rattle.definitions.specs.Problem.Atoms.{Problem, initial, atoms, state_words}
use Rattle.definitions.specs.Reply.Outcome.{written, Ready as Opens}
use Rattle.bits.specs.Table.{bit}
use Rattle.problem_table.specs.Of.{Is}
use Rattle.problem_action.specs.Decoded.{Grounded}
use Rattle.refusal.specs.Numbers.{number_of}
use Rattle.open_case.specs.Replies.{Reply}

-- the table is some problem's, and the first words of the state are there
pub record ReadyToTry (w state : List ℕ) (words : ℕ) : Type 0 where
  pub grounded : Grounded w
  pub there : words ≤ length state
  pub few : words ≤ 16384

-- they are those of the problem p and of its initial state
pub record Serves (p : Problem) (w state : List ℕ) (words : ℕ) : Type 0 where
  pub is : Is p w
  pub room : atoms p ≤ 64 * words
  pub begins : bit (take words state) ≡ initial p

-- the state's words are lent ones, and the others stay
pub record Tryable (p : Problem) (old : List ℕ) (words : ℕ) (w new : List ℕ) : Type 0 where
  pub state : new ≡ written (state_words p (initial p)) old
  pub ready : ReadyToTry w new words
  pub serves : Serves p w new words

-- a case that is refused leaves the state
abbrev pub BegunBy : Result (Opens (Unit {0})) → (old : List ℕ) → Reply → (w new : List ℕ) → Type 0
BegunBy x old (Ok words) w new = (a : Opens (Unit {0})) × (x ≡ accepted a) × Tryable a.problem old words w new
BegunBy x old (Err e) w new = (x ≡ refused (number_of e.cause) e.place) × (new ≡ old)
