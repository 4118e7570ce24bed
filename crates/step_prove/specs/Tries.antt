-- The actions for an atom of a node by the numbers of the table, and the first of them that passes a test.
use Rattle.std.specs.Prelude.{ℕ, zero, suc, ◌+◌, ◌-◌, ◌/◌, ◌%◌, ◌^◌, ◌<◌, ◌≤◌, ◌≡◌, Bool, true, false, List, [], ◌∷◌, eqb, length, get_or, take, drop, set, if◌then◌else◌}
use Rattle.definitions.specs.Lists.{all, is_in, rank}
use Rattle.definitions.specs.Problem.Atoms.{places_of}
use Rattle.definitions.specs.Problem.Actions.{values_in}
use Rattle.rows.specs.Values.{value_in}
use Rattle.problem_table.specs.Lines.{size_in, range_in}
use Rattle.problem_table.specs.Numbers.{and_needs, or_needs, exists_needs, forall_needs}
use Rattle.problem_table.specs.declared.NodeLine.{NodeLine}
use Rattle.problem_table.specs.declared.Act.{Act}
use Rattle.problem_table.specs.declared.Act.TheVariants.{And, Or, Exists, Forall}

-- the i-th action of a row of a node, by its kind and the members of its range
unfoldable pub act_by : (kind : ℕ) → List ℕ → (node row i : ℕ) → Act
act_by kind ms node row i =
    if eqb kind 0 then Forall (record { node = node; row = row; choice = get_or ms i 0 })
    else if eqb kind 1 then Exists (record { node = node; row = row; choice = get_or ms i 0 })
    else if eqb kind 2 then And (record { node = node; row = row })
    else Or (record { node = node; row = row; choice = i })

-- what it needs, by the node's line
unfoldable pub need_by : (n : ℕ) → List ℕ → NodeLine → (row i : ℕ) → List ℕ
need_by n w v row i =
    if eqb v.kind 0 then forall_needs n w v row (get_or (range_in w v) i 0)
    else if eqb v.kind 1 then exists_needs n w v row (get_or (range_in w v) i 0)
    else if eqb v.kind 2 then and_needs n w v row
    else or_needs n w v row i

-- the part of a `forall` at the i-th member, and unless that is the first, "true up to the member before", the atom `prior`
unfoldable pub chained : (ℕ → Bool) → (part i prior : ℕ) → Bool
chained s part i prior = if s part then (if eqb i 0 then true else s prior) else false

-- the way to the atom j of a node: the row of values, the first of the row's actions to try and how many there are, and how many
-- actions each row has. A `forall` has an action for each atom at a member of its range, and none for the others
pub record Way : Type 0 where
  pub row : ℕ
  pub base : ℕ
  pub tries : ℕ
  pub choices : ℕ

unfoldable pub way_by : (n kind many : ℕ) → List ℕ → (j : ℕ) → Way
way_by n kind many ms j =
    if eqb kind 0 then record { row = j / n; base = rank ms (j % n); tries = if is_in (j % n) ms then 1 else zero; choices = length ms }
    else if eqb kind 1 then record { row = j; base = 0; tries = length ms; choices = length ms }
    else if eqb kind 2 then record { row = j; base = 0; tries = 1; choices = 1 }
    else record { row = j; base = 0; tries = many; choices = many }

-- by the node's line
abbrev pub way_at : List ℕ → NodeLine → ℕ → Way
way_at w v j = way_by (size_in w) v.kind v.many (range_in w v) j

-- the way to the only atom of a row
pub record FlatAt (y : Way) (j : ℕ) : Type 0 where
  pub row : y.row ≡ j
  pub base : y.base ≡ 0

-- the first of k numbers from a on that passes; the one past them where none does
unfoldable pub first_from : (ℕ → Bool) → ℕ → ℕ → ℕ
first_from f a zero = a
first_from f a (suc k) = if f a then a else first_from f (suc a) k

-- the first action on a way whose needs all hold; of all for the atom j
abbrev pub first_at : (ℕ → Bool) → (n : ℕ) → List ℕ → NodeLine → Way → ℕ
first_at s n w v y = first_from (λ i. all s (need_by n w v y.row (y.base + i))) 0 y.tries

abbrev pub first_by : (ℕ → Bool) → (n : ℕ) → List ℕ → NodeLine → ℕ → ℕ
first_by s n w v j = first_at s n w v (way_by n v.kind v.many (range_in w v) j)

-- the first `width` numbers are the places of a row
abbrev pub Digits : (n width row : ℕ) → List ℕ → Type 0
Digits n width row ds = (q : ℕ) → q < width → get_or ds q 0 ≡ row / n ^ (width - suc q) % n

-- the other numbers are 0
abbrev pub Rest : ℕ → List ℕ → Type 0
Rest width ds = (q : ℕ) → width ≤ q → get_or ds q 0 ≡ 0

-- the values of the places from i on, by level
abbrev pub Spread : (n width row : ℕ) → List ℕ → ℕ → List ℕ → Type 0
Spread n width row levels i values = value_in values ≡ values_in (drop i (take width levels)) (places_of n (width - i) row)

-- the four places by level, the last written first
abbrev pub spread_of : List ℕ → List ℕ → List ℕ
spread_of ls ds = set (set (set (set (0 ∷ 0 ∷ 0 ∷ 0 ∷ []) (get_or ls 3 0) (get_or ds 3 0)) (get_or ls 2 0) (get_or ds 2 0)) (get_or ls 1 0) (get_or ds 1 0)) (get_or ls 0 0) (get_or ds 0 0)
