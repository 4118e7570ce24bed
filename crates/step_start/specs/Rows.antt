-- What is written for each relation, by the table of a grounded problem. A state is spoken of by the predicate of its bits.
use Rattle.std.specs.Prelude.{Bool, true, false, not, List, ℕ, zero, suc, ◌+◌, ◌-◌, ◌*◌, ◌/◌, ◌%◌, ◌≤◌, ◌<◌, ltb, eqb, if◌then◌else◌}
use Rattle.definitions.specs.Sheet.Relations.{built_in_holds}
use Rattle.definitions.specs.Problem.Atoms.{words_for}
use Rattle.bits.specs.Table.{bit, paste}
use Rattle.problem_table.specs.Lines.{size_in, relations_in, nodes_in, relation_line, node_line, every_in}
use Rattle.problem_table.specs.declared.RelationLine.{RelationLine}

-- where the atoms end: those of an `every` line's relation come after the nodes, three for each tuple
abbrev pub atoms_in : List ℕ → ℕ
atoms_in w = (node_line w (nodes_in w)).atoms + 3 * every_in w

-- whether a tuple holds while nothing is picked: a built-in one by its two places or its one, one of a `rel` by its bit among the
-- facts, whose words begin with word `first` of f, and none of a `choose` or `every` line
unfoldable pub holds_at : List ℕ → (n r kind first row : ℕ) → Bool
holds_at f n r kind first row =
    if ltb r 3 then built_in_holds n r (row / n) (row % n)
    else if ltb r 5 then built_in_holds n r row 0
    else if eqb kind 0 then bit f (64 * first + row)
    else false

-- what a built-in relation says of a row
unfoldable pub built_in_at : (n r row : ℕ) → Bool
built_in_at n r row = if ltb r 3 then built_in_holds n r (row / n) (row % n) else built_in_holds n r row 0

-- how many tuples and how many free atoms a relation has
unfoldable pub rows_in : RelationLine → ℕ
rows_in k = k.nots - k.tuples

unfoldable pub free_in : (n kind : ℕ) → ℕ
free_in n kind = if ltb kind 2 then 0 else if ltb kind 4 then n else if ltb 5 kind then 0 else 2 * n

-- the state s, but a relation's first c tuples are as they hold while nothing is picked; those of a `choose` stay
unfoldable pub held_put : List ℕ → (n r : ℕ) → RelationLine → (first c : ℕ) → (ℕ → Bool) → ℕ → Bool
held_put f n r k first c s =
    if ltb r 5 then paste s k.tuples (holds_at f n r k.kind first) 0 c
    else if eqb k.kind 0 then paste s k.tuples (holds_at f n r k.kind first) 0 c
    else s

-- and its first c not-tuples are their opposites
unfoldable pub tuples_put : List ℕ → (n r : ℕ) → RelationLine → (first c : ℕ) → (ℕ → Bool) → ℕ → Bool
tuples_put f n r k first c s = paste (held_put f n r k first c s) k.nots (λ row. not (holds_at f n r k.kind first row)) 0 c

-- a state in which all atoms of a relation are as they begin
unfoldable pub relation_put : List ℕ → List ℕ → (r first : ℕ) → (ℕ → Bool) → ℕ → Bool
relation_put f w r first s =
    paste (tuples_put f (size_in w) r (relation_line w r) first (rows_in (relation_line w r)) s) (relation_line w r).free (λ i. true) 0 (free_in (size_in w) (relation_line w r).kind)

-- how many words of facts a relation has, and the first of them
unfoldable pub words_in : List ℕ → ℕ → ℕ
words_in w r = if ltb r 5 then 0 else words_for (rows_in (relation_line w r))

unfoldable pub first_in : List ℕ → ℕ → ℕ
first_in w zero = 0
first_in w (suc r) = first_in w r + words_in w r

-- the atoms of the first r relations
unfoldable pub relations_put : List ℕ → List ℕ → ℕ → (ℕ → Bool) → ℕ → Bool
relations_put f w zero s = s
relations_put f w (suc r) s = relation_put f w r (first_in w r) (relations_put f w r s)

-- so many words have room for a relation's atoms, and for those of all
pub record RelationRoom (w : List ℕ) (len r : ℕ) : Type 0 where
  pub tuples : (relation_line w r).nots + rows_in (relation_line w r) ≤ 64 * len
  pub free : (relation_line w r).free + free_in (size_in w) (relation_line w r).kind ≤ 64 * len

abbrev pub Room : List ℕ → ℕ → Type 0
Room w len = (r : ℕ) → r < relations_in w → RelationRoom w len r
