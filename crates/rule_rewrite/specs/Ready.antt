-- What the walk asks of a place of the text, and what it gives. Definitions only.
use Rattle.std.specs.Prelude.{ℕ, zero, suc, ◌+◌, ◌≤◌, ◌≡◌, Bool, true, false, List, ◌∷◌, ◌++◌, map, length, drop, take, set, eqb, if◌then◌else◌}
use Rattle.std.proofs.Math.Seq.{slice}
use Rattle.definitions.specs.Lists.{same, option, position}
use Rattle.definitions.specs.Sheet.Relations.{Relation}
use Rattle.definitions.specs.Sheet.Formula.{Quantified, variables_of, Formula, Formulas, write, write_vars, write_typed, write_more, write_list, write_parts}
use Rattle.definitions.specs.Sheet.Formula.{WellFormed, AllWellFormed, Variables, AllQuantified, type_number, sort_of, Join, ands, ors, Quant, somes, everys}
use Rattle.definitions.specs.Sheet.Formula.{forms, forms_all, nesting, nesting_all, is_known, are_known}
use Rattle.definitions.specs.Sheet.Parsing.{Head, is_and, is_or, is_exists, is_forall}
use Rattle.definitions.specs.Problem.Tree.{nodes, nodes_all, how_many}
use Rattle.read_names.specs.Signatures.{Lent, all_of, types_of, NoFurther}
use Rattle.read_names.specs.declared.Signature.{Signature}
use Rattle.read_rule.specs.Seen.{names}
use Rattle.read_rule.specs.declared.Scope.{Scope}
use Rattle.rule_nodes.specs.Postorder.{post, post_all, Rows, rows_in, leaf_row}
use Rattle.rule_nodes.specs.declared.Row.{Row}
use Rattle.rule_rewrite.specs.Trees.{tree_in, trees_in}
use Rattle.rule_rewrite.specs.Sizes.{FewPlaces}
use Rattle.rule_rewrite.specs.declared.Bound.{Bound}
use Rattle.rule_rewrite.specs.declared.Leaf.{Leaf}

abbrev pub as_join : Bool → Join
as_join true = ands
as_join false = ors

abbrev pub as_quant : Bool → Quant
as_quant true = somes
as_quant false = everys

abbrev pub join_head : Bool → Head
join_head true = is_and
join_head false = is_or

abbrev pub quant_head : Bool → Head
quant_head true = is_exists
quant_head false = is_forall

-- the level of a variable in a scope
abbrev pub level_of : List (List ℕ) → List ℕ → ℕ
level_of scope v = option (position (same v) scope) zero (λ k. k)

-- the sort of a variable that ends at e, its type standing after a colon up to `end`
unfoldable pub sort_in : (types : List (List ℕ)) → List ℕ → ℕ → ℕ → ℕ
sort_in types s e end = if eqb e end then zero else option (type_number types (slice (e + 1) end s)) zero suc

-- ---- tables of rows
abbrev pub pushed : Rows → Row → Rows
pushed t row = record { at = set t.at t.len row; len = t.len + 1; nodes = t.nodes }

abbrev pub numbered : Rows → ℕ → Rows
numbered t k = record { at = t.at; len = t.len; nodes = t.nodes + k }

-- u has these rows and n nodes more than t
pub record Adds (t : Rows) (rows : List Row) (n : ℕ) (u : Rows) : Type 0 where
  pub is : rows_in u ≡ rows_in t ++ rows
  pub len : u.len ≡ t.len + length rows
  pub nodes : u.nodes ≡ t.nodes + n
  pub long : length u.at ≡ 64

-- ---- a formula that was accepted, n rows and m nodes being there already
pub record Fine (rs : List Relation) (scope : List (List ℕ)) (n m : ℕ) (f : Formula) : Type 0 where
  pub depth : ℕ
  pub good : WellFormed depth f
  pub rows : n + forms f ≤ 64
  pub nodes : m + forms f ≤ 64
  pub deep : length scope + nesting f ≤ 4
  pub known : is_known rs f ≡ true

pub record AllFine (rs : List Relation) (scope : List (List ℕ)) (n m : ℕ) (fs : Formulas) : Type 0 where
  pub depth : ℕ
  pub good : AllWellFormed depth fs
  pub rows : n + forms_all fs ≤ 64
  pub nodes : m + forms_all fs ≤ 64
  pub deep : length scope + nesting_all fs ≤ 4
  pub known : are_known rs fs ≡ true

-- the relations are few, and so are their places; types too, and no other entry names one; there is space for all rows
pub record Fixed (s : List ℕ) (g : Signature) (t : Rows) : Type 0 where
  pub few : g.rels + g.chosen + g.every ≤ 13
  pub one : g.every ≤ 1
  pub places : FewPlaces (all_of s g)
  pub types : g.types ≤ 8
  pub no_further : NoFurther g.to g.types
  pub long : length t.at ≡ 64

-- such a formula is written at `at`
pub record ReadyAt (s : List ℕ) (at : ℕ) (g : Signature) (sc : Scope) (t : Rows) : Type 0 where
  pub f : Formula
  pub rest : List ℕ
  pub is : drop at s ≡ write f ++ rest
  pub fine : Fine (all_of s g) (names s sc) t.len t.nodes f
  pub fixed : Fixed s g t

-- ... further parts, and the bracket after them
pub record PartsReady (s : List ℕ) (at : ℕ) (g : Signature) (sc : Scope) (t : Rows) : Type 0 where
  pub fs : Formulas
  pub rest : List ℕ
  pub is : drop at s ≡ write_parts fs ++ (41 ∷ rest)
  pub fine : AllFine (all_of s g) (names s sc) t.len t.nodes fs
  pub fixed : Fixed s g t

-- ... both over a signature whose names and count are lent
pub record ReadyIn (s : List ℕ) (at : ℕ) (from to : List ℕ) (m : ℕ) (sc : Scope) (t : Rows) : Type 0 where
  pub g : Signature
  pub lent : Lent g from to m
  pub ready : ReadyAt s at g sc t

pub record PartsReadyIn (s : List ℕ) (at : ℕ) (from to : List ℕ) (m : ℕ) (sc : Scope) (t : Rows) : Type 0 where
  pub g : Signature
  pub lent : Lent g from to m
  pub ready : PartsReady s at g sc t

-- ... a quantifier's variables, and its bracket and space
pub record ListReady (s : List ℕ) (at : ℕ) (sc : Scope) : Type 0 where
  pub q : Quantified
  pub qs : List Quantified
  pub rest : List ℕ
  pub is : drop at s ≡ write_typed q ++ (write_more qs ++ (41 ∷ 32 ∷ rest))
  pub words : AllQuantified (q ∷ qs)
  pub fits : sc.n + length (q ∷ qs) ≤ 4

-- ... a literal's variables, and its bracket, `n` levels being there already
pub record VarsReady (s : List ℕ) (at : ℕ) (sc : Scope) (n : ℕ) : Type 0 where
  pub vs : List (List ℕ)
  pub rest : List ℕ
  pub is : drop at s ≡ write_vars vs ++ (41 ∷ rest)
  pub words : Variables vs
  pub fits : n + length vs ≤ 3
  pub small : sc.n ≤ 4

-- ---- what is given: the place after, and the rows of the tree
pub record Walked (b : Bool) (s : List ℕ) (at : ℕ) (g : Signature) (sc : Scope) (t : Rows) (f : Formula) (after : ℕ) (u : Rows) : Type 0 where
  pub place : after ≡ at + length (write f)
  pub adds : Adds t (post t.nodes (tree_in b (all_of s g) (types_of s g) (names s sc) f)) (length (nodes (tree_in b (all_of s g) (types_of s g) (names s sc) f))) u

pub record WalkedParts (b : Bool) (s : List ℕ) (at : ℕ) (g : Signature) (sc : Scope) (t : Rows) (many : ℕ) (fs : Formulas) (after count : ℕ) (u : Rows) : Type 0 where
  pub place : after ≡ at + length (write_parts fs)
  pub adds : Adds t (post_all t.nodes (trees_in b (all_of s g) (types_of s g) (names s sc) fs)) (length (nodes_all (trees_in b (all_of s g) (types_of s g) (names s sc) fs))) u
  pub counted : count ≡ many + how_many (trees_in b (all_of s g) (types_of s g) (names s sc) fs)

-- ... whatever was written there, over whatever signature
abbrev pub Walks : Bool → List ℕ → ℕ → (from to : List ℕ) → ℕ → Scope → Rows → ℕ → Rows → Type 0
Walks b s at from to m sc t after u = (w : ReadyIn s at from to m sc t) → Walked b s at w.g sc t w.ready.f after u

abbrev pub WalksParts : Bool → List ℕ → ℕ → (from to : List ℕ) → ℕ → Scope → Rows → ℕ → ℕ → ℕ → Rows → Type 0
WalksParts b s at from to m sc t many after count u = (w : PartsReadyIn s at from to m sc t) → WalkedParts b s at w.g sc t many w.ready.fs after count u

pub record Opened (s : List ℕ) (at : ℕ) (types : List (List ℕ)) (sc : Scope) (before : List ℕ) (qs : List Quantified) (r : Bound) : Type 0 where
  pub place : r.at ≡ at + (length (write_list qs) + 2)
  pub scope : names s r.scope ≡ names s sc ++ variables_of qs
  pub count : r.scope.n ≡ sc.n + length qs
  pub sorts : take r.scope.n r.sorts ≡ take sc.n before ++ map (sort_of types) qs

pub record Filled (s : List ℕ) (at : ℕ) (sc : Scope) (p : Bool) (k : ℕ) (ls : List ℕ) (vs : List (List ℕ)) (r : Leaf) : Type 0 where
  pub place : r.at ≡ at + length (write_vars vs)
  pub row : r.row ≡ leaf_row p k (ls ++ map (λ v. level_of (names s sc) v) vs)
