-- The numbers of each line, by the relations and the node table.
use Rattle.std.specs.Prelude.{◌≡◌, List, [], ◌∷◌, ℕ, zero, suc, ◌+◌, ◌-◌, ◌*◌, ◌^◌, ◌≤◌, ◌<◌, eqb, ltb, length, get_or, take, if◌then◌else◌}
use Rattle.definitions.specs.Lists.{any}
use Rattle.definitions.specs.Problem.Atoms.{words_for}
use Rattle.rule_nodes.specs.Tables.{no_part, no_node}
use Rattle.rule_nodes.specs.declared.PartRow.{PartRow}
use Rattle.rule_nodes.specs.declared.NodeRow.{NodeRow}
use Rattle.rule_nodes.specs.declared.Nodes.{Nodes}
use Rattle.rows.specs.Values.{weight_of}
use Rattle.problem_table.specs.declared.PartLine.{PartLine}
use Rattle.problem_layout.specs.declared.Relations.{Relations}
use Rattle.problem_layout.specs.Laid.{range_by, count_at}
use Rattle.eval_rule.specs.Lines.{ranges_place, range_place, lines_length, node_in, part_in, line_in}
use Rattle.eval_rule.specs.declared.NodeAt.{NodeAt}
use Rattle.eval_rule.specs.declared.PartAt.{PartAt}

-- how many of a relation's words are words of facts, and how many of picks; and how many stand before relation r
unfoldable pub fact_words : (r words : ℕ) → ℕ
fact_words r words = if ltb r 5 then zero else words

unfoldable pub choose_words : (kind words : ℕ) → ℕ
choose_words kind words = if eqb kind 0 then zero else if eqb kind 6 then zero else words

unfoldable pub fact_sum : ℕ → Relations → ℕ → ℕ
fact_sum n g zero = zero
fact_sum n g (suc r) = fact_sum n g r + fact_words r (words_for (n ^ get_or g.arity r 0))

unfoldable pub choose_sum : ℕ → Relations → ℕ → ℕ
choose_sum n g zero = zero
choose_sum n g (suc r) = choose_sum n g r + choose_words (get_or g.kind r 0) (words_for (n ^ get_or g.arity r 0))

-- where the tuples of a relation are: a built-in one by its number, a `rel` among facts (5), a `choose` among picks (6), that of an `every` line
-- in its value (7 and that); the first bit
unfoldable pub source_of : (value r kind : ℕ) → ℕ
source_of value r kind = if ltb r 5 then r else if eqb kind 0 then 5 else if eqb kind 6 then 7 + value else 6

unfoldable pub first_bit : (r kind facts picks : ℕ) → ℕ
first_bit r kind facts picks = if ltb r 5 then zero else if eqb kind 0 then 64 * facts else if eqb kind 6 then zero else 64 * picks

abbrev pub bit_of : ℕ → Relations → ℕ → ℕ
bit_of n g r = first_bit r (get_or g.kind r 0) (fact_sum n g r) (choose_sum n g r)

-- the line of a part
unfoldable pub part_of : ℕ → Relations → PartRow → PartAt
part_of value g q = if ltb q.tag 2 then record { tag = suc q.tag; which = source_of value q.which (get_or g.kind q.which 0) } else record { tag = 0; which = q.which }

unfoldable pub line_of : ℕ → Relations → PartRow → PartLine
line_of n g q =
    let w = weight_of n (take q.width q.levels) in
    record { start = if ltb q.tag 2 then bit_of n g q.which else 0; weights = w 0 ∷ w 1 ∷ w 2 ∷ w 3 ∷ [] }

-- how many turns a quantifier of a level makes over its part: one serves for all `count` elements of its range where the level is not
-- free there
unfoldable pub turns_of : (count level : ℕ) → PartRow → ℕ
turns_of count level q = if any (eqb level) (take q.width q.levels) then count else 1

-- the line of a node: a join by its own parts, a quantifier by its part, or by the parts of the join that its part is; a quantifier goes
-- over the first `turns` elements of its sort
unfoldable pub own_line : ℕ → NodeRow → NodeAt
own_line turns x =
    if ltb x.kind 2 then record { kind = x.kind; level = x.level; join = 1; first = x.first; many = x.many; range = range_place x.sort; count = turns }
    else record { kind = 2; level = 0; join = x.kind - 2; first = x.first; many = x.many; range = range_place x.sort; count = 1 }

unfoldable pub block_line : ℕ → NodeRow → PartRow → NodeRow → NodeAt
block_line turns x q y =
    if ltb x.kind 2 then (if ltb q.tag 2 then own_line turns x else if ltb y.kind 2 then own_line turns x
    else record { kind = x.kind; level = x.level; join = y.kind - 2; first = y.first; many = y.many; range = range_place x.sort; count = turns })
    else own_line turns x

unfoldable pub node_of : ℕ → Nodes → NodeRow → NodeAt
node_of count t x = let q = get_or t.parts x.first no_part in block_line (turns_of count x.level q) x q (get_or t.rows q.which no_node)

-- the lines are those of the table, for a value of the `every` relation, with the ranges of k types and the counts of all sorts; past the last node stand zeros
pub record Lined (n value : ℕ) (members : List ℕ) (k : ℕ) (counts : List ℕ) (g : Relations) (t : Nodes) (w : List ℕ) : Type 0 where
  pub whole : length w ≡ lines_length
  pub entry : (i : ℕ) → get_or w i 0 ≤ 2 ^ 32
  pub node : (v : ℕ) → v < t.count → node_in w v ≡ node_of (count_at counts t v) t (get_or t.rows v no_node)
  pub rest : (v : ℕ) → t.count ≤ v → v < 64 → node_in w v ≡ record { kind = 0; level = 0; join = 0; first = 0; many = 0; range = 0; count = 0 }
  pub part : (i : ℕ) → i < t.placed → (part_in w i ≡ part_of value g (get_or t.parts i no_part)) × (line_in w i ≡ line_of n g (get_or t.parts i no_part))
  pub top : (part_in w 64 ≡ part_of value g t.root) × (line_in w 64 ≡ line_of n g t.root)
  pub range : (s i : ℕ) → s ≤ k → i < length (range_by n members s) → get_or w (range_place s + i) 0 ≡ get_or (range_by n members s) i 0
  pub low : (i : ℕ) → ranges_place ≤ i → get_or w i 0 < n
