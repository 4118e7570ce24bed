-- The lines of nodes and parts, and what is read off them.
use Rattle.std.specs.Prelude.{◌≡◌, Bool, true, false, not, List, [], ◌∷◌, ℕ, ◌+◌, ◌-◌, ◌*◌, ◌/◌, ◌%◌, ◌^◌, ◌≤◌, ◌<◌, eqb, ltb, length, get_or, if◌then◌else◌}
use Rattle.definitions.specs.Lists.{any, below}
use Rattle.definitions.specs.Sheet.Relations.{built_in_holds}
use Rattle.definitions.specs.Problem.Actions.{Values, with_value}
use Rattle.bits.specs.Table.{digit, bit}
use Rattle.problem_table.specs.Lines.{part_number}
use Rattle.problem_table.specs.declared.PartLine.{PartLine}
use Rattle.eval_rule.specs.declared.NodeAt.{NodeAt}
use Rattle.eval_rule.specs.declared.PartAt.{PartAt}

-- where lines stand: 64 of nodes, 64 of parts and the root's, then the ranges of 9 sorts
abbrev pub node_place : ℕ → ℕ
node_place v = 7 * v

abbrev pub part_place : ℕ → ℕ
part_place i = 448 + 7 * i

-- the first range is that of all elements, sort 0
abbrev pub ranges_place : ℕ
ranges_place = 903

abbrev pub range_place : ℕ → ℕ
range_place s = ranges_place + 64 * s

abbrev pub lines_length : ℕ
lines_length = 1479

unfoldable pub node_in : List ℕ → ℕ → NodeAt
node_in w v =
    record {
      kind = get_or w (node_place v) 0;
      level = get_or w (node_place v + 1) 0;
      join = get_or w (node_place v + 2) 0;
      first = get_or w (node_place v + 3) 0;
      many = get_or w (node_place v + 4) 0;
      range = get_or w (node_place v + 5) 0;
      count = get_or w (node_place v + 6) 0;
    }

unfoldable pub part_in : List ℕ → ℕ → PartAt
part_in w i = record { tag = get_or w (part_place i) 0; which = get_or w (part_place i + 1) 0 }

unfoldable pub line_in : List ℕ → ℕ → PartLine
line_in w i =
    record {
      start = get_or w (part_place i + 2) 0;
      weights = get_or w (part_place i + 3) 0 ∷ get_or w (part_place i + 4) 0 ∷ get_or w (part_place i + 5) 0 ∷ get_or w (part_place i + 6) 0 ∷ [];
    }

-- ---- literals
unfoldable pub literal_at : (facts picks : List ℕ) → (n which k : ℕ) → Bool
literal_at facts picks n which k =
    if ltb which 3 then built_in_holds n which (k / n) (k % n)
    else if ltb which 5 then built_in_holds n which k 0
    else if eqb which 5 then bit facts k
    else if eqb which 6 then bit picks k
    else digit (which - 7) k

unfoldable pub agree : Bool → Bool → Bool
agree true b = b
agree false b = not b

unfoldable pub leaf_at : (facts picks : List ℕ) → ℕ → Values → PartAt → PartLine → Bool
leaf_at facts picks n e q line = agree (literal_at facts picks n q.which (part_number e line)) (eqb q.tag 1)

-- ---- a node as a search: the element of a turn, and the values in it
abbrev pub element_in : List ℕ → (range turn : ℕ) → ℕ
element_in w range turn = get_or w (range + turn) 0

unfoldable pub value_of : (kind element old : ℕ) → ℕ
value_of kind element old = if ltb kind 2 then element else old

abbrev pub values_of : (kind level : ℕ) → Values → ℕ → Values
values_of kind level e element = with_value e level (value_of kind element (e level))

-- a part is the same at every value of a level where its numbers do not grow with it; it is known once it is among the first `seen`
unfoldable pub fixed_in : List ℕ → (i level : ℕ) → Bool
fixed_in w i level = eqb (get_or (line_in w i).weights level 0) 0

unfoldable pub known : Bool → (i seen : ℕ) → Bool
known fixed i seen = if fixed then ltb i seen else false

-- what is decided by whether something is found
unfoldable pub decided : Bool → Bool → Bool
decided sought true = sought
decided sought false = not sought

-- the parts joined, by their truth; a quantifier over elements, by the truth of what is under it
unfoldable pub joined : Bool → (ℕ → Bool) → ℕ → Bool
joined joins f many = decided joins (any (λ i. agree (f i) joins) (below many))

unfoldable pub bound : Bool → (ℕ → Bool) → List ℕ → Bool
bound sought f xs = decided sought (any (λ x. agree (f x) sought) xs)

-- ---- ranges; a part that is a node comes after its own
pub record NodeSound (n : ℕ) (w : List ℕ) (v : ℕ) (x : NodeAt) : Type 0 where
  pub level : x.level < 4
  pub parts : x.first + x.many ≤ 64
  pub inside : x.range + x.count ≤ lines_length
  pub element : (i : ℕ) → i < x.count → element_in w x.range i < n
  pub rises : (i : ℕ) → i < x.many → (part_in w (x.first + i)).tag ≡ 0 → (v < (part_in w (x.first + i)).which) × ((part_in w (x.first + i)).which < 64)

pub record SoundLines (n : ℕ) (w : List ℕ) : Type 0 where
  pub whole : length w ≡ lines_length
  pub some : 0 < n
  pub size : n ≤ 64
  pub entry : (i : ℕ) → get_or w i 0 ≤ 2 ^ 32
  pub node : (v : ℕ) → v < 64 → NodeSound n w v (node_in w v)
  pub root : (part_in w 64).tag ≡ 0 → (part_in w 64).which < 64
