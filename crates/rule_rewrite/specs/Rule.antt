-- A rule that was accepted, its totalities, and the question that its table is of. Definitions only.
use Rattle.std.specs.Prelude.{ℕ, ◌+◌, ◌≤◌, ◌≡◌, true, List, [], ◌∷◌, length, if◌then◌else◌}
use Rattle.std.proofs.Math.Option.{some}
use Rattle.std.proofs.Math.Seq.{slice}
use Rattle.definitions.specs.Sheet.Relations.{is_total}
use Rattle.definitions.specs.Sheet.Formula.{Formula}
use Rattle.definitions.specs.Sheet.Parsing.{read_formula}
use Rattle.definitions.specs.Sheet.Sheets.{Question, relations_of}
use Rattle.definitions.specs.Problem.Tree.{Tree, Trees, leaf, forall_node, exists_node, end, ◌then◌, as_is, totalities, joined, tree_of}
use Rattle.read_text.specs.Spans.{kind_of}
use Rattle.read_names.specs.Signatures.{SoundSignature, all_of, rels_of, chosen_of, every_of, types_of}
use Rattle.read_names.specs.declared.Signature.{Signature}
use Rattle.read_rule.specs.Seen.{rule_number}
use Rattle.rule_nodes.specs.Tables.{IsTable, Fits}
use Rattle.rule_nodes.specs.declared.Nodes.{Nodes}
use Rattle.rule_nodes.specs.Whole.{Of}
use Rattle.rule_nodes.specs.Postorder.{Rows}

-- "for all a some b" of a relation, a and b of the sorts of its places; what a relation adds by the number of its kind
abbrev pub totality_of : (relation firsts seconds : ℕ) → Tree
totality_of r x y = forall_node 0 x (exists_node 1 y (leaf true r (0 ∷ 1 ∷ [])))

unfoldable pub one_totality : (kind relation firsts seconds : ℕ) → Trees
one_totality k r x y = if is_total (kind_of k) then totality_of r x y then end else end

-- the rule from `at` to `stop` of a question's text was not refused
pub record Accepted (s : List ℕ) (at stop : ℕ) (g : Signature) : Type 0 where
  pub low : at ≤ stop
  pub high : stop ≤ length s
  pub sound : SoundSignature s g
  pub fine : rule_number (all_of s g) (types_of s g) (chosen_of s g) (slice at stop s) ≡ 0

-- the tree of the rule that is the formula f, with its totalities
abbrev pub root_of : List ℕ → Signature → Formula → Tree
root_of s g f = joined (as_is (all_of s g) (types_of s g) [] f) (totalities (5 + g.rels) (chosen_of s g))

-- the question that has these relations, these types and this rule
pub record IsQuestion (s : List ℕ) (at stop : ℕ) (g : Signature) (q : Question) : Type 0 where
  pub rels : q.rels ≡ rels_of s g
  pub types : q.types ≡ types_of s g
  pub chosen : q.chosen ≡ chosen_of s g
  pub every : q.every ≡ every_of s g
  pub rule : read_formula (slice at stop s) ≡ some q.rule.formula

-- the rows are those of the rule's tree, and the table holds them
pub record RowsOf (s : List ℕ) (at stop : ℕ) (g : Signature) (r : Rows) : Type 0 where
  pub long : length r.at ≡ 64
  pub few : r.len ≤ 64
  pub of : (f : Formula) → read_formula (slice at stop s) ≡ some f → Of (length (all_of s g)) (root_of s g f) r

-- the table is the question's
pub record TableOf (s : List ℕ) (at stop : ℕ) (g : Signature) (r : Nodes) : Type 0 where
  pub fits : Fits r
  pub is : (q : Question) → IsQuestion s at stop g q → IsTable (length (relations_of q)) (tree_of q) r
