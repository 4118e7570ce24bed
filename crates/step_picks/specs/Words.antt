-- Picks as bits in words: each `choose` from a new word on, a tuple by its row.
use Rattle.std.specs.Prelude.{ℕ, zero, suc, ◌+◌, ◌-◌, ◌*◌, ◌<◌, ◌≡◌, Bool, ◌&&◌, List, T, ltb, length, if◌then◌else◌}
use Rattle.bits.specs.Table.{bit}
use Rattle.definitions.specs.Sheet.Relations.{Tuple, is_chosen}
use Rattle.definitions.specs.Problem.Atoms.{Problem, relation_at, tuples_of, words_for}
use Rattle.definitions.specs.Problem.Built.{is_picked}
use Rattle.definitions.specs.Reply.Outcome.{relation_words}
use Rattle.problem_table.specs.declared.RelationLine.{RelationLine}

-- the words of the picks of the relations before r
unfoldable pub word_start : Problem → ℕ → ℕ
word_start p zero = zero
word_start p (suc r) = word_start p r + (if is_chosen (relation_at p r).kind then relation_words p r else zero)

-- the kinds of a `choose`, 1 to 5; and the words of a relation's line
unfoldable pub is_open : ℕ → Bool
is_open kind = ltb 0 kind && ltb kind 6

unfoldable pub words_in : RelationLine → ℕ
words_in x = if is_open x.kind then words_for (x.nots - x.tuples) else zero

-- what words say of the rows of each relation
abbrev pub rows_in : Problem → List ℕ → ℕ → ℕ → Bool
rows_in p words r row = bit words (64 * word_start p r + row)

-- the words are those of picks
abbrev pub PicksAre : Problem → List ℕ → List Tuple → Type 0
PicksAre p words F = (r row : ℕ) → r < length p.relations → T (is_chosen (relation_at p r).kind) → row < tuples_of p.size (relation_at p r) → rows_in p words r row ≡ is_picked p F r row
