-- The words of the picks, line by line of a table, and what copying them from a state leaves.
use Rattle.std.specs.Prelude.{ℕ, zero, suc, ◌+◌, ◌-◌, ◌≡◌, Bool, ◌&&◌, List, [], ◌++◌, T, ltb}
use Rattle.definitions.specs.Problem.Atoms.{Problem, state_words}
use Rattle.definitions.specs.Problem.Strips.{run, picks_of}
use Rattle.definitions.specs.Reply.Outcome.{written, pick_words}
use Rattle.bits.specs.Table.{words}
use Rattle.meaning.specs.Means.{Good}
use Rattle.meaning.specs.HeldTuples.{are_taken}
use Rattle.problem_table.specs.Lines.{relations_in, relation_line}
use Rattle.problem_table.specs.Of.{Is}
use Rattle.problem_table.specs.declared.RelationLine.{RelationLine}
use Rattle.step_picks.specs.Words.{words_in}

-- the rows of a relation whose tuple holds in a state, and their words
unfoldable pub row_holds : (ℕ → Bool) → RelationLine → ℕ → Bool
row_holds s x row = ltb row (x.nots - x.tuples) && s (x.tuples + row)

unfoldable pub line_words : (ℕ → Bool) → RelationLine → List ℕ
line_words s x = words (row_holds s x) (words_in x)

-- of k relations from r on: the words, and how many there are
unfoldable pub words_from : (ℕ → Bool) → List ℕ → ℕ → ℕ → List ℕ
words_from s w r zero = []
words_from s w r (suc k) = line_words s (relation_line w r) ++ words_from s w (suc r) k

unfoldable pub count_from : List ℕ → ℕ → ℕ → ℕ
count_from w r zero = zero
count_from w r (suc k) = words_in (relation_line w r) + count_from w (suc r) k

unfoldable pub picks_in : List ℕ → ℕ
picks_in w = count_from w 0 (relations_in w)

-- of every problem whose table this is: from the state that steps leave, all of which were taken, come the picks read from them
unfoldable pub Copied : (w state old new : List ℕ) → Type 0
Copied w state old new = (p : Problem) (ks : List ℕ) → Is p w → Good p → T (are_taken (run p ks).answer)
    → state ≡ state_words p (run p ks).state → new ≡ written (pick_words p (picks_of p ks)) old
