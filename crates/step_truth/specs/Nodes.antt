-- What filling the atoms of a node is: a state that knows the later nodes comes to know this one.
use Rattle.std.specs.Prelude.{ℕ, zero, ◌*◌, ◌<◌, ◌≤◌, ◌≡◌, length}
use mathlib.Core.List.{List, Memᴰ}
use Rattle.definitions.specs.Lists.{is_in}
use Rattle.definitions.specs.Sheet.Relations.{Tuple}
use Rattle.definitions.specs.Problem.Atoms.{Problem, State, node_at, node_width, atoms}
use Rattle.bits.specs.Table.{digit, bit}
use Rattle.meaning.specs.Means.{Good}
use Rattle.meaning.specs.Deciding.{Decided, Knows}
use Rattle.meaning.specs.Planning.{rows_to, NoNode}
use Rattle.problem_table.specs.Lines.{node_line}
use Rattle.problem_table.specs.Of.{Is}
use Rattle.problem_table.specs.declared.NodeLine.{NodeLine}

-- the table is the problem's, and a state of k words has room for its atoms
pub record Fillable (p : Problem) (w : List ℕ) (k : ℕ) : Type 0 where
  pub is : Is p w
  pub room : atoms p ≤ 64 * k

-- x is the line of the node v in such a table, and the node has so many atoms
pub record Filling (p : Problem) (w : List ℕ) (k v : ℕ) (x : NodeLine) (width : ℕ) : Type 0 where
  pub ready : Fillable p w k
  pub here : v < length p.node_list
  pub line : x ≡ node_line w v
  pub wide : width ≡ node_width p.size (node_at p v)

-- from s on, what s' has come to know as D says, with every other number as it was
abbrev pub Knowing : (p : Problem) → Good p → List Tuple → Decided → (s s' : State) → Type 0
Knowing p G F D s s' = Knows p F D s' × ((i : ℕ) → NoNode p G F i → s' i ≡ s i)

-- all later nodes are known, of this one no row; then all its rows are
abbrev pub NodeFilled : List ℕ → NodeLine → ℕ → (state state' : List ℕ) → Type 0
NodeFilled w x width state state' = (p : Problem) (G : Good p) (F : List Tuple) (v : ℕ) → Filling p w (length state) v x width
    → Knows p F (rows_to p G F v zero) (bit state) → Knowing p G F (rows_to p G F v width) (bit state) (bit state')

-- the digits of a word are the members of a range
abbrev pub IsWord : ℕ → List ℕ → Type 0
IsWord w ms = ((k : ℕ) → k < 64 → digit w k ≡ is_in k ms) × ((m : ℕ) → Memᴰ m ms → m < 64)
