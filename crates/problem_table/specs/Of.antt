-- Of which problem a table is.
use Rattle.std.specs.Prelude.{◌≡◌, true, List, [], ℕ, suc, ◌+◌, ◌*◌, ◌≤◌, ◌<◌, T, length, get_or, take}
use Rattle.std.proofs.Math.Option.{Option, none, some}
use Rattle.definitions.specs.Sheet.Relations.{Kind, static, plain, Fun, PFun, Inj, PInj, universal, is_universal, is_function, Relation}
use Rattle.definitions.specs.Lists.{is_some}
use Rattle.definitions.specs.Sheet.Sheets.{every_number}
use Rattle.definitions.specs.Problem.Tree.{Tree, leaf, Part, parts, node_sort, free}
use Rattle.definitions.specs.Problem.Atoms.{Problem, relation_at, node_at, node_start, tuple_start, tuples_of, atom_number}
use Rattle.definitions.specs.Problem.Actions.{Action, set, begin_proof, prove_and, prove_or, prove_exists, prove_forall, prove_goal, round_end, mark_in, mark_out, set_start, proof_start, Values, values_at, part_atom}
use Rattle.laws.specs.Members.{IsRange}
use Rattle.rule_nodes.specs.Tables.{node_kind, node_level}
use Rattle.problem_table.specs.Lines.{size_in, relations_in, nodes_in, relation_line, node_line, part_line, part_number, members_in, range_in}
use Rattle.problem_table.specs.Numbers.{row_values}
use Rattle.problem_table.specs.declared.RelationLine.{RelationLine}
use Rattle.problem_table.specs.declared.NodeLine.{NodeLine}
use Rattle.problem_table.specs.declared.PartLine.{PartLine}
use Rattle.problem_table.specs.declared.Act.{Act}
use Rattle.problem_table.specs.declared.Act.TheVariants.{Set, Begin, And, Or, Exists, Forall, Goal, RoundEnd, MarkIn, MarkOut, Nothing}

unfoldable pub kind_number : Kind → ℕ
kind_number static = 0
kind_number plain = 1
kind_number Fun = 2
kind_number PFun = 3
kind_number Inj = 4
kind_number PInj = 5
kind_number universal = 6

-- the part is the tree u, whose preorder number is v: at any values it gives the number of u's atom
unfoldable pub IsPart : Problem → PartLine → ℕ → Tree → Type 0
IsPart p q v u = (e : Values) → part_number e q ≡ atom_number p (part_atom p.size p.range e v u)

abbrev pub no_part : Part
no_part = record { node = 0; tree = leaf true 0 [] }

-- the relation of an `every` line, where there is one, is the last, and no other is of its kind; it has its tuples over the site's elements
pub record EveryLast (p : Problem) : Type 0 where
  pub sized : p.source.site.size ≡ p.size
  pub last : T (is_some p.source.question.every) → suc (every_number p.source.question) ≡ length p.relations
  pub line : (e : Relation) → p.source.question.every ≡ some e → (relation_at p (every_number p.source.question) ≡ e) × T (is_universal e.kind)
  pub alone : (r : ℕ) → r < length p.relations → T (is_universal (relation_at p r).kind) → (r ≡ every_number p.source.question) × T (is_some p.source.question.every)

-- a function kind has two places, and the ranges of their sorts
pub record IsRelation (p : Problem) (w : List ℕ) (r : ℕ) (k : RelationLine) : Type 0 where
  pub tuples : k.tuples ≡ tuple_start p r
  pub nots : k.nots ≡ tuple_start p r + tuples_of p.size (relation_at p r)
  pub free : k.free ≡ tuple_start p r + 2 * tuples_of p.size (relation_at p r)
  pub kind : k.kind ≡ kind_number (relation_at p r).kind
  pub pairs : T (is_function (relation_at p r).kind) → (relation_at p r).arity ≡ 2
  pub firsts : T (is_function (relation_at p r).kind) → members_in w k.firsts k.first_count ≡ p.range (relation_at p r).firsts
  pub seconds : T (is_function (relation_at p r).kind) → members_in w k.seconds k.second_count ≡ p.range (relation_at p r).seconds

pub record IsNode (p : Problem) (w : List ℕ) (v : ℕ) (u : Tree) (x : NodeLine) : Type 0 where
  pub atoms : x.atoms ≡ node_start p v
  pub kind : x.kind ≡ node_kind u
  pub level : x.level ≡ node_level u
  pub width : x.width ≡ length (free u)
  pub levels : take x.width x.levels ≡ free u
  pub values : (row : ℕ) → row_values p.size x row ≡ values_at p.size u row
  pub many : x.many ≡ length (parts v u)
  pub range : node_kind u < 2 → range_in w x ≡ p.range (node_sort u)
  pub part : (i : ℕ) → i < length (parts v u) → IsPart p (part_line w (x.first + i)) (get_or (parts v u) i no_part).node (get_or (parts v u) i no_part).tree

-- the table is that of the problem
pub record Is (p : Problem) (w : List ℕ) : Type 0 where
  pub size : size_in w ≡ p.size
  pub element : 0 < p.size
  pub ranges : (s : ℕ) → IsRange p.size (p.range s)
  pub relations : relations_in w ≡ length p.relations
  pub nodes : nodes_in w ≡ length p.node_list
  pub sets : (r : ℕ) → r ≤ length p.relations → (relation_line w r).sets ≡ set_start p r
  pub relation : (r : ℕ) → r < length p.relations → IsRelation p w r (relation_line w r)
  pub acts : (v : ℕ) → v ≤ length p.node_list → (node_line w v).acts ≡ proof_start p v
  pub node : (v : ℕ) → v < length p.node_list → IsNode p w v (node_at p v) (node_line w v)
  pub ends : (node_line w (length p.node_list)).atoms ≡ node_start p (length p.node_list)
  pub root : IsPart p (part_line w 64) 0 p.root
  pub every : EveryLast p

-- ---- an action, as the code says it
unfoldable pub said : Action → Act
said (set r row) = Set (record { relation = r; row = row })
said begin_proof = Begin
said (prove_and v row) = And (record { node = v; row = row })
said (prove_or v row i) = Or (record { node = v; row = row; choice = i })
said (prove_exists v row x) = Exists (record { node = v; row = row; choice = x })
said (prove_forall v row z) = Forall (record { node = v; row = row; choice = z })
said prove_goal = Goal
said round_end = RoundEnd
said (mark_in r row) = MarkIn (record { relation = r; row = row })
said (mark_out r row) = MarkOut (record { relation = r; row = row })

unfoldable pub act_of : Option Action → Act
act_of none = Nothing
act_of (some a) = said a
