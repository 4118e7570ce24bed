-- What is promised of the initial state, and what of the facts' words it takes.
use Rattle.std.specs.Prelude.{◌≡◌, false, List, ℕ, zero, suc, ◌+◌, ◌*◌, ◌≤◌, ◌<◌, T, ltb, length, get_or, if◌then◌else◌}
use Rattle.definitions.specs.Sheet.Relations.{static, is_chosen, built_in}
use Rattle.definitions.specs.Problem.Atoms.{Problem, relation_at, tuples_of, tuple_holds, initial, atoms, words_for, state_words}
use Rattle.definitions.specs.Reply.Outcome.{state_length, written}
use Rattle.laws.specs.Numbers.{no_relation}
use Rattle.bits.specs.Table.{bit, paste}
use Rattle.problem_table.specs.Of.{Is}
use Rattle.step_start.specs.Rows.{atoms_in}

-- the first word of a relation's facts: each relation from number 5 on has as many words as its tuples need
unfoldable pub fact_word : Problem → ℕ → ℕ
fact_word p zero = zero
fact_word p (suc r) = fact_word p r + (if ltb r 5 then zero else words_for (tuples_of p.size (relation_at p r)))

-- the words f hold the facts of p: the first five relations are the built-in ones, over the site's elements; a bit of each `rel` says
-- whether its tuple is a fact; no tuple of a `choose` is
pub record FactsIn (p : Problem) (f : List ℕ) : Type 0 where
  pub sized : p.source.site.size ≡ p.size
  pub built : (r : ℕ) → r < 5 → relation_at p r ≡ get_or built_in r no_relation
  pub fact : (r row : ℕ) → 5 ≤ r → r < length p.relations → row < tuples_of p.size (relation_at p r)
      → (relation_at p r).kind ≡ static → bit f (64 * fact_word p r + row) ≡ tuple_holds p r row
  pub unpicked : (r row : ℕ) → r < length p.relations → row < tuples_of p.size (relation_at p r)
      → T (is_chosen (relation_at p r).kind) → tuple_holds p r row ≡ false

-- a lent state before and after: its first words are those of the initial state and the others stay; so in a state of just the words
-- that are needed exactly the initial atoms are set
pub record Begins (p : Problem) (old new : List ℕ) : Type 0 where
  pub its_words : new ≡ written (state_words p (initial p)) old
  pub its_bits : bit new ≡ paste (bit old) 0 (initial p) 0 (64 * state_length p)
  pub exact : length old ≡ state_length p → bit new ≡ initial p

unfoldable pub Begun : (w f old new : List ℕ) → Type 0
Begun w f old new = (p : Problem) → Is p w → atoms_in w ≡ atoms p → FactsIn p f → Begins p old new
