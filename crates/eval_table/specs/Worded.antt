-- Words of sixty-four valuations, one for each tuple of a `choose` and one for its not-tuple, at the tuple's bit among the picks.
use Rattle.std.specs.Prelude.{◌≡◌, not, List, ℕ, ◌+◌, ◌*◌, ◌<◌, T, length, get_or}
use Rattle.definitions.specs.Sheet.Relations.{Tuple, is_chosen}
use Rattle.definitions.specs.Problem.Atoms.{Problem, relation_at, tuples_of}
use Rattle.definitions.specs.Problem.Built.{is_picked}
use Rattle.bits.specs.Table.{digit}
use Rattle.step_picks.specs.Words.{word_start}

-- valuation j takes as picked what may be, where a tuple is asked for, and what must be, where its not-tuple is
abbrev pub WordsAre : Problem → (pos neg : List ℕ) → ℕ → (may must : List Tuple) → Type 0
WordsAre p pos neg j may must = (r row : ℕ) → r < length p.relations → T (is_chosen (relation_at p r).kind) → row < tuples_of p.size (relation_at p r)
    → (digit (get_or pos (64 * word_start p r + row) 0) j ≡ is_picked p may r row) × (digit (get_or neg (64 * word_start p r + row) 0) j ≡ not (is_picked p must r row))
