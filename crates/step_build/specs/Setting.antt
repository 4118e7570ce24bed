-- Setting the picks as folds over the builder's progress.
use Rattle.std.specs.Prelude.{ℕ, zero, suc, ◌-◌, ◌*◌, Bool, get_or, if◌then◌else◌}
use Rattle.definitions.specs.Sheet.Relations.{is_chosen}
use Rattle.definitions.specs.Problem.Atoms.{Problem, relation_at}
use Rattle.definitions.specs.Problem.Actions.{set, set_rows as settableRows, sets_of}
use Rattle.problem_table.specs.Numbers.{is_whole}
use Rattle.problem_table.specs.declared.RelationLine.{RelationLine}
use Rattle.step_prove.specs.Following.{Out, one}

-- the row that the set action of offset j sets; how many such actions there are, by a relation's line
abbrev pub row_at : Problem → ℕ → ℕ → ℕ
row_at p r j = get_or (settableRows p.size p.range (relation_at p r)) j 0

unfoldable pub set_count : RelationLine → ℕ
set_count k = if is_whole k then k.nots - k.tuples else k.first_count * k.second_count

-- a row of the relation r, if it is picked; those of k set actions from offset j on, f saying which rows are picked
unfoldable pub set_row : Problem → ℕ → Bool → Out → ℕ → Out
set_row p r picked o row = if picked then one p o (set r row) else o

unfoldable pub set_rows : Problem → ℕ → (ℕ → Bool) → Out → ℕ → ℕ → Out
set_rows p r f o j zero = o
set_rows p r f o j (suc k) = set_rows p r f (set_row p r (f (row_at p r j)) o (row_at p r j)) (suc j) k

-- a relation, if it is a `choose`; k relations from r on
unfoldable pub set_relation : Problem → (ℕ → Bool) → Out → ℕ → Out
set_relation p f o r = if is_chosen (relation_at p r).kind then set_rows p r f o zero (sets_of p.size p.range (relation_at p r)) else o

unfoldable pub set_relations : Problem → (ℕ → ℕ → Bool) → Out → ℕ → ℕ → Out
set_relations p f o r zero = o
set_relations p f o r (suc k) = set_relations p f (set_relation p (f r) o r) (suc r) k
