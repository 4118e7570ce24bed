-- The numbers of the nodes' steps as lists, and what writing some of them is.
use Rattle.std.specs.Prelude.{ℕ, zero, ◌+◌, ◌*◌, ◌/◌, ◌^◌, ◌≤◌, ◌<◌, ◌≡◌, Bool, List, [], ◌∷◌, ◌++◌, map, length, take, if◌then◌else◌}
use Rattle.std.proofs.lemmas.List.Edits.{sets}
use Rattle.definitions.specs.Lists.{filter}
use Rattle.definitions.specs.Sheet.Relations.{Tuple}
use Rattle.definitions.specs.Problem.Atoms.{Problem, State, node_at, node_width}
use Rattle.definitions.specs.Problem.Actions.{actions, action_number}
use Rattle.definitions.specs.Problem.Built.{is_true_at, step_for, node_steps}
use Rattle.meaning.specs.Means.{Good}
use Rattle.meaning.specs.Deciding.{Knows}
use Rattle.meaning.specs.Planning.{nodes_from}
use Rattle.problem_table.specs.Lines.{node_line}
use Rattle.problem_table.specs.Of.{Is}
use Rattle.problem_table.specs.declared.NodeLine.{NodeLine}

-- of the true ones of some rows of a node
unfoldable pub row_numbers : Problem → List Tuple → ℕ → List ℕ → List ℕ
row_numbers p F v rows = map (λ j. action_number p (step_for p F v (node_at p v) j)) (filter (is_true_at p F (node_at p v)) rows)

-- of the first v nodes, the last of them first
unfoldable pub node_numbers : Problem → List Tuple → ℕ → List ℕ
node_numbers p F v = map (action_number p) (node_steps p F zero (take v p.node_list))

-- one, if its atom is true
abbrev pub link_numbers : Bool → ℕ → List ℕ
link_numbers b k = if b then k ∷ [] else []

-- from entry `at` on, numbers are written; the next goes to at'
abbrev pub Wrote : List ℕ → ℕ → List ℕ → List ℕ → ℕ → Type 0
Wrote b at l b' at' = (b' ≡ sets b at l) × (at' ≡ at + length l)

-- an atom of a `forall` where a row of n elements starts
abbrev pub Whole : ℕ → ℕ → Type 0
Whole n j = j ≡ j / n * n

-- the table is the problem's, its action numbers fit a step, and the state knows all nodes
pub record Readable (p : Problem) (G : Good p) (F : List Tuple) (w : List ℕ) (s : State) : Type 0 where
  pub is : Is p w
  pub few : actions p ≤ 2 ^ 32
  pub known : Knows p F (nodes_from p G F zero) s

-- x is the line of the node v in such a table, and the node has so many atoms
pub record Reading (p : Problem) (G : Good p) (F : List Tuple) (w : List ℕ) (v : ℕ) (x : NodeLine) (width : ℕ) (s : State) : Type 0 where
  pub ready : Readable p G F w s
  pub here : v < length p.node_list
  pub line : x ≡ node_line w v
  pub wide : width ≡ node_width p.size (node_at p v)

-- of the first `past` nodes those from v on are written
abbrev pub PartWrote : Problem → List Tuple → (past v : ℕ) → List ℕ → ℕ → List ℕ → ℕ → Type 0
PartWrote p F past v b at b' at' = (done : List ℕ) × Wrote b at done b' at' × (done ++ node_numbers p F v ≡ node_numbers p F past)
