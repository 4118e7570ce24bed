-- What is promised of the relations by number.
use Rattle.std.specs.Prelude.{◌≡◌, List, [], ℕ, zero, ◌+◌, ◌≤◌, ◌<◌, length, get_or}
use Rattle.definitions.specs.Sheet.Relations.{Relation, static}
use Rattle.read_names.specs.Signatures.{all_of, HasFirsts, HasSeconds}
use Rattle.read_names.specs.declared.Signature.{Signature}
use Rattle.problem_table.specs.Of.{kind_number}
use Rattle.problem_layout.specs.declared.Relations.{Relations}

-- a signature of as many relations as there may be, whose arities and sorts are in range
pub record Declared (g : Signature) : Type 0 where
  pub rels : g.rels ≤ 8
  pub chosen : g.chosen ≤ 4
  pub every : g.every ≤ 1
  pub arity : (i : ℕ) → i < g.rels + g.chosen + g.every → get_or g.arity i 0 ≤ 4
  pub sorts : (i : ℕ) → i < g.rels + g.chosen + g.every → (get_or g.firsts i 0 ≤ 8) × (get_or g.seconds i 0 ≤ 8)

abbrev pub no_relation : Relation
no_relation = record { name = []; arity = zero; kind = static; firsts = zero; seconds = zero }

-- the relations by number are all those of the signature, whatever text its names are spans of
pub record Numbered (g : Signature) (r : Relations) : Type 0 where
  pub count : (q : List ℕ) → r.count ≡ length (all_of q g)
  pub arity : (q : List ℕ) (i : ℕ) → i < r.count → get_or r.arity i 0 ≡ (get_or (all_of q g) i no_relation).arity
  pub kind : (q : List ℕ) (i : ℕ) → i < r.count → get_or r.kind i 0 ≡ kind_number (get_or (all_of q g) i no_relation).kind
  pub firsts : (q : List ℕ) (i : ℕ) → i < r.count → get_or r.firsts i 0 ≡ (get_or (all_of q g) i no_relation).firsts
  pub seconds : (q : List ℕ) (i : ℕ) → i < r.count → get_or r.seconds i 0 ≡ (get_or (all_of q g) i no_relation).seconds

-- t is the sort of a place of relation r, whichever of the two places `sorts` are of
unfoldable pub SortAt : List ℕ → ℕ → ℕ → Type 0
SortAt sorts r t = (g : Signature) → r < 5 + (g.rels + g.chosen + g.every) → g.every ≤ 1 → (g.firsts ≡ sorts → HasFirsts g r t) × (g.seconds ≡ sorts → HasSeconds g r t)
