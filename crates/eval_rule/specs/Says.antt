-- Of which tree the lines are, where the truth of a tree, and of a literal by its line, is any that agree.
use Rattle.std.specs.Prelude.{◌≡◌, Bool, true, not, List, [], ℕ, zero, ◌+◌, ◌-◌, ◌<◌, length, get_or, eqb}
use Rattle.definitions.specs.Problem.Tree.{Tree, leaf, Part, nodes}
use Rattle.definitions.specs.Problem.Actions.{Values, with_value}
use Rattle.problem_table.specs.Lines.{members_in}
use Rattle.problem_table.specs.Of.{no_part}
use Rattle.problem_table.specs.declared.PartLine.{PartLine}
use Rattle.definitions.specs.Lists.{any, from}
use Rattle.eval_rule.specs.Lines.{node_in, part_in, line_in, agree, values_of, fixed_in, decided, joined, bound}
use Rattle.eval_rule.specs.declared.NodeAt.{NodeAt}
use Rattle.eval_rule.specs.declared.PartAt.{PartAt}

-- the truth of a tree at values, as a whole (`tree_holds` of some picks, say); and that of a literal, read off its line
abbrev pub Truth : Type 0
Truth = Values → Tree → Bool

abbrev pub Leaf : Type 0
Leaf = Values → PartAt → PartLine → Bool

abbrev pub no_values : Values
no_values = λ _. 0

-- node v of a tree
unfoldable pub node_of : Tree → ℕ → Tree
node_of root v = get_or (nodes root) v (leaf true zero [])

module _ (H : Truth) (root : Tree) (n : ℕ) (w : List ℕ) (leaf : Leaf) where
  -- the part is the tree u, whose preorder number is v: a node by that number, a literal by its truth at any values
  pub record PartSays (q : PartAt) (line : PartLine) (v : ℕ) (u : Tree) : Type 0 where
    pub node : q.tag ≡ 0 → (q.which ≡ v) × (v < length (nodes root)) × (node_of root v ≡ u)
    pub literal : (q.tag ≡ 0 → ⊥) → (e : Values) → ((l : ℕ) → e l < n) → leaf e q line ≡ H e u

  -- the truth of node u by the parts of its line
  unfoldable pub truth_by : NodeAt → Values → List Part → Bool
  truth_by x e ps =
      bound (eqb x.kind 1)
      (λ element. joined (eqb x.join 1) (λ i. H (values_of x.kind x.level e element) (get_or ps i no_part).tree) x.many)
      (members_in w x.range x.count)

  pub record NodeSays (u : Tree) (x : NodeAt) : Type 0 where
    pub parts : List Part
    pub part : (i : ℕ) → i < x.many → PartSays (part_in w (x.first + i)) (line_in w (x.first + i)) (get_or parts i no_part).node (get_or parts i no_part).tree
    pub truth : (e : Values) → H e u ≡ truth_by x e parts
    pub still : (i : ℕ) → i < x.many → fixed_in w (x.first + i) x.level ≡ true → (e : Values) (y z : ℕ)
        → H (with_value e x.level y) (get_or parts i no_part).tree ≡ H (with_value e x.level z) (get_or parts i no_part).tree

  pub record Says : Type 0 where
    pub node : (v : ℕ) → v < length (nodes root) → NodeSays (node_of root v) (node_in w v)
    pub top : PartSays (part_in w 64) (line_in w 64) 0 root

  pub record Asked (v : ℕ) : Type 0 where
    pub says : Says
    pub inside : v < length (nodes root)

-- ---- node v as a search, where its parts are ps: part i at values, what is under the quantifier at values, what is left of the turns,
-- what is left of the parts
module _ (H : Truth) (ps : List Part) where
  unfoldable pub cell_of : Values → ℕ → Bool
  cell_of θ i = H θ (get_or ps i no_part).tree

  module _ (kind level many : ℕ) (joins sought : Bool) where
    unfoldable pub under_of : Values → Bool
    under_of θ = joined joins (cell_of θ) many

    abbrev pub TurnsLeft : Tree → Values → (ℕ → ℕ) → (turns turn : ℕ) → Type 0
    TurnsLeft u e element turns turn =
        H e u ≡ decided sought (any (λ y. agree (under_of (values_of kind level e (element y))) sought) (from turn (turns - turn)))

    abbrev pub PartsLeft : Values → ℕ → Type 0
    PartsLeft θ i = under_of θ ≡ decided joins (any (λ j. agree (cell_of θ j) joins) (from i (many - i)))

-- ... for every tree that the lines are of
module _ (n : ℕ) (w : List ℕ) (leaf : Leaf) (v : ℕ) where
  abbrev pub parts_in : {H : Truth} {root : Tree} → Asked H root n w leaf v → List Part
  parts_in h = (h.says.node v h.inside).parts

  abbrev pub IsNode : Values → Bool → Type 0
  IsNode e r = (H : Truth) (root : Tree) → Asked H root n w leaf v → r ≡ H e (node_of root v)

  abbrev pub IsCell : Values → ℕ → Bool → Type 0
  IsCell θ i b = (H : Truth) (root : Tree) (h : Asked H root n w leaf v) → b ≡ cell_of H (parts_in h) θ i

  module _ (kind level many : ℕ) (joins sought : Bool) where
    abbrev pub AllTurns : Values → (ℕ → ℕ) → (turns turn : ℕ) → Type 0
    AllTurns e element turns turn = (H : Truth) (root : Tree) (h : Asked H root n w leaf v)
        → TurnsLeft H (parts_in h) kind level many joins sought (node_of root v) e element turns turn

    abbrev pub AllParts : Values → ℕ → Type 0
    AllParts θ i = (H : Truth) (root : Tree) (h : Asked H root n w leaf v) → PartsLeft H (parts_in h) kind level many joins sought θ i

    abbrev pub Under : Values → Bool → Type 0
    Under θ b = (H : Truth) (root : Tree) (h : Asked H root n w leaf v) → under_of H (parts_in h) kind level many joins sought θ ≡ b

  -- the fixed parts are the same at every value of the level; the first `seen` of them decide nothing
  module _ (level first many : ℕ) where
    abbrev pub Still : Type 0
    Still = (H : Truth) (root : Tree) (h : Asked H root n w leaf v) (i : ℕ) → i < many → fixed_in w (first + i) level ≡ true → (e : Values) (y z : ℕ)
        → cell_of H (parts_in h) (with_value e level y) i ≡ cell_of H (parts_in h) (with_value e level z) i

    abbrev pub Passed : Bool → Values → ℕ → Type 0
    Passed joins e seen = (H : Truth) (root : Tree) (h : Asked H root n w leaf v) (j : ℕ) → j < seen → fixed_in w (first + j) level ≡ true → (y : ℕ)
        → cell_of H (parts_in h) (with_value e level y) j ≡ not joins
