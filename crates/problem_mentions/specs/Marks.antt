-- Marks by the tables: which nodes have a literal of relation r below them, found from the last node up, and the atoms of these.
use Rattle.std.specs.Prelude.{Bool, false, ◌||◌, List, ℕ, zero, suc, ◌+◌, ◌-◌, ◌^◌, eqb, ltb, get_or, set, replicate, if◌then◌else◌}
use Rattle.rule_nodes.specs.Tables.{no_node, no_part}
use Rattle.rule_nodes.specs.declared.PartRow.{PartRow}
use Rattle.rule_nodes.specs.declared.Nodes.{Nodes}
use Rattle.problem_layout.specs.Laid.{node_width}

-- a part is a literal of relation r, or a node that is marked
unfoldable pub part_hits : List Bool → ℕ → PartRow → Bool
part_hits marks r q = if ltb q.tag 2 then eqb q.which r else get_or marks q.which false

-- one of the k parts from `first` on is
unfoldable pub hits : List PartRow → List Bool → ℕ → ℕ → ℕ → Bool
hits ps marks r first zero = false
hits ps marks r first (suc k) = hits ps marks r first k || part_hits marks r (get_or ps (first + k) no_part)

abbrev pub row_hits : Nodes → List Bool → ℕ → ℕ → Bool
row_hits t marks r v = hits t.parts marks r (get_or t.rows v no_node).first (get_or t.rows v no_node).many

abbrev pub row_width : ℕ → Nodes → ℕ → ℕ
row_width n t v = node_width n (n ^ (get_or t.rows v no_node).width) (get_or t.rows v no_node).kind

-- the marks once the last d nodes have theirs, and one more than the atoms of those that are marked
unfoldable pub marks_after : Nodes → ℕ → ℕ → List Bool
marks_after t r zero = replicate 64 false
marks_after t r (suc d) = set (marks_after t r d) (t.count - suc d) (row_hits t (marks_after t r d) r (t.count - suc d))

unfoldable pub atoms_after : ℕ → Nodes → ℕ → ℕ → ℕ
atoms_after n t r zero = 1
atoms_after n t r (suc d) = atoms_after n t r d + (if row_hits t (marks_after t r d) r (t.count - suc d) then row_width n t (t.count - suc d) else 0)
