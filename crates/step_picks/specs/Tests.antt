-- The declared kinds by the table: which kinds break, and the first `choose` that does.
use Rattle.std.specs.Prelude.{ℕ, zero, suc, ◌+◌, Bool, not, ◌&&◌, ◌||◌, List, ltb, if◌then◌else◌}
use Rattle.std.specs.Prelude.{Some, None}
use Rattle.std.specs.Prelude as P
use Rattle.std.proofs.Math.Option.{Option, none, some}
use Rattle.definitions.specs.Lists.{is_in}
use Rattle.definitions.specs.Sheet.Relations.{is_chosen}
use Rattle.definitions.specs.Problem.Atoms.{Problem, relation_at}
use Rattle.problem_table.specs.Lines.{members_in, is_placeless}
use Rattle.problem_table.specs.declared.RelationLine.{RelationLine}
use Rattle.meaning.specs.KindRows.{is_crowded, is_stray, breaks}
use Rattle.step_picks.specs.Words.{is_open}

-- the elements that the places of a function kind go over
abbrev pub firsts_in : List ℕ → RelationLine → List ℕ
firsts_in w k = members_in w k.firsts k.first_count

abbrev pub seconds_in : List ℕ → RelationLine → List ℕ
seconds_in w k = members_in w k.seconds k.second_count

abbrev pub are_inside : List ℕ → RelationLine → (x y : ℕ) → Bool
are_inside w k x y = is_in x (firsts_in w k) && is_in y (seconds_in w k)

-- kinds 2 to 5 are function kinds, 4 and 5 injective
unfoldable pub crowds_by : ℕ → ℕ → (ℕ → Bool) → Bool
crowds_by kind n f = not (is_placeless kind) && (is_crowded f n n 1 || (ltb 3 kind && is_crowded f n 1 n))

unfoldable pub breaks_by : ℕ → (xs ys : List ℕ) → ℕ → (ℕ → Bool) → Bool
breaks_by kind xs ys n f = crowds_by kind n f || (not (is_placeless kind) && is_stray f n xs ys)

unfoldable pub chosen_by : ℕ → ℕ
chosen_by kind = if is_open kind then 1 else zero

-- whether a relation's picks break its kind; f says which rows of each relation are picked
abbrev pub broken_at : Problem → (ℕ → ℕ → Bool) → ℕ → Bool
broken_at p f r = breaks (relation_at p r).kind (p.range (relation_at p r).firsts) (p.range (relation_at p r).seconds) p.size (f r)

-- of k relations from r on, the index of the first that breaks its kind, where the first `choose` has index i
unfoldable pub broken_from : Problem → (ℕ → ℕ → Bool) → ℕ → ℕ → ℕ → Option ℕ
broken_from p f r zero i = none
broken_from p f r (suc k) i =
    if broken_at p f r then some i else broken_from p f (suc r) k (i + (if is_chosen (relation_at p r).kind then 1 else zero))

-- what is found, or that nothing is, as the code tells it
unfoldable pub told : P.Option ℕ → Option ℕ
told None = none
told (Some i) = some i
