-- What is promised of a layout.
use Rattle.std.specs.Prelude.{◌≡◌, Bool, true, false, ◌&&◌, List, ℕ, zero, suc, ◌+◌, ◌-◌, ◌*◌, ◌^◌, ◌≤◌, ◌<◌, T, eqb, ltb, length, get_or, set, if◌then◌else◌}
use Rattle.bits.specs.Table.{bit}
use Rattle.definitions.specs.Lists.{filter, below, greatest}
use Rattle.definitions.specs.Sheet.Relations.{is_function}
use Rattle.definitions.specs.Problem.Tree.{nodes}
use Rattle.definitions.specs.Problem.Atoms.{Problem, relation_at, tuples_of, tuple_start, relation_start, node_start, atoms}
use Rattle.definitions.specs.Problem.Actions.{actions, set_start, proof_start}
use Rattle.laws.specs.Members.{IsRange}
use Rattle.laws.specs.Sorts.{Sorted}
use Rattle.rule_nodes.specs.Tables.{IsTable, no_node}
use Rattle.rule_nodes.specs.declared.Nodes.{Nodes}
use Rattle.rows.specs.Values.{Most}
use Rattle.problem_table.specs.Of.{kind_number, EveryLast}
use Rattle.problem_layout.specs.declared.Relations.{Relations}
use Rattle.problem_layout.specs.declared.Ranges.{Ranges}
use Rattle.problem_layout.specs.declared.Layout.{Layout}

-- ---- by the number of a kind; the relation of an `every` line has no set actions, no picks, and its atoms behind the nodes
unfoldable pub relation_width : (n size kind : ℕ) → ℕ
relation_width n size kind = if ltb kind 2 then size + size else (if ltb kind 4 then size + size + n else (if ltb kind 6 then size + size + n + n else 0))

-- of a function kind by how many elements its places have
unfoldable pub set_width : (size firsts seconds kind : ℕ) → ℕ
set_width size firsts seconds zero = 0
set_width size firsts seconds (suc zero) = size
set_width size firsts seconds (suc (suc k)) = if ltb k 4 then firsts * seconds else 0

unfoldable pub most_width : (n size kind : ℕ) → ℕ
most_width n size zero = 0
most_width n size (suc zero) = size
most_width n size (suc (suc k)) = if ltb k 4 then n else 0

unfoldable pub node_width : (n rows kind : ℕ) → ℕ
node_width n rows zero = rows * n
node_width n rows (suc k) = rows

unfoldable pub choices_of : (count kind many : ℕ) → ℕ
choices_of count zero many = count
choices_of count (suc zero) many = count
choices_of count (suc (suc zero)) many = 1
choices_of count (suc (suc (suc k))) many = many

-- ---- what a variable of a sort goes over, by the words of members: bit x of word k says that element x is of type k
unfoldable pub range_by : ℕ → List ℕ → ℕ → List ℕ
range_by n w zero = below n
range_by n w (suc k) = filter (λ x. bit w (64 * k + x)) (below n)

-- the counts and the greatest elements of sorts 0 to k
pub record RangesAre (n : ℕ) (w : List ℕ) (k : ℕ) (r : Ranges) : Type 0 where
  pub count : (s : ℕ) → s ≤ k → get_or r.count s 0 ≡ length (range_by n w s)
  pub top : (s : ℕ) → s ≤ k → get_or r.top s 0 ≡ greatest (range_by n w s)

-- ... and of every sort, so that they are in range
pub record RangesFit (n : ℕ) (r : Ranges) : Type 0 where
  pub whole : get_or r.count 0 0 ≡ n
  pub count : Most r.count 64
  pub top : (s : ℕ) → get_or r.top s 0 < n

-- the relations fit their arrays, and no arity, kind or sort is out of range
pub record RelationsFit (g : Relations) : Type 0 where
  pub count : g.count ≤ 18
  pub arity : Most g.arity 4
  pub kind : Most g.kind 6
  pub firsts : Most g.firsts 8
  pub seconds : Most g.seconds 8

-- ---- starts by the tables: the sum of the widths before
unfoldable pub relation_sum : ℕ → Relations → ℕ → ℕ
relation_sum n g zero = 3
relation_sum n g (suc r) = relation_sum n g r + relation_width n (n ^ get_or g.arity r 0) (get_or g.kind r 0)

-- how many elements the first and the second place of relation r have
abbrev pub firsts_at : List ℕ → Relations → ℕ → ℕ
firsts_at counts g r = get_or counts (get_or g.firsts r 0) 0

abbrev pub seconds_at : List ℕ → Relations → ℕ → ℕ
seconds_at counts g r = get_or counts (get_or g.seconds r 0) 0

unfoldable pub set_sum : ℕ → List ℕ → Relations → ℕ → ℕ
set_sum n counts g zero = 0
set_sum n counts g (suc r) = set_sum n counts g r + set_width (n ^ get_or g.arity r 0) (firsts_at counts g r) (seconds_at counts g r) (get_or g.kind r 0)

unfoldable pub pick_sum : ℕ → Relations → ℕ → ℕ
pick_sum n g zero = 0
pick_sum n g (suc r) = pick_sum n g r + most_width n (n ^ get_or g.arity r 0) (get_or g.kind r 0)

unfoldable pub node_sum : ℕ → Nodes → ℕ → ℕ → ℕ
node_sum n t from zero = from
node_sum n t from (suc v) = node_sum n t from v + node_width n (n ^ (get_or t.rows v no_node).width) (get_or t.rows v no_node).kind

-- how many elements the sort of node v has, and how many actions the node has at each value of its free variables
abbrev pub count_at : List ℕ → Nodes → ℕ → ℕ
count_at counts t v = get_or counts (get_or t.rows v no_node).sort 0

abbrev pub choices_at : List ℕ → Nodes → ℕ → ℕ
choices_at counts t v = choices_of (count_at counts t v) (get_or t.rows v no_node).kind (get_or t.rows v no_node).many

unfoldable pub act_sum : ℕ → List ℕ → Nodes → ℕ → ℕ → ℕ
act_sum n counts t from zero = from
act_sum n counts t from (suc v) = act_sum n counts t from v + (n ^ (get_or t.rows v no_node).width) * choices_at counts t v

pub record RelationsLaid (n : ℕ) (counts : List ℕ) (g : Relations) (i : ℕ) (rel neg dom sets : List ℕ) (at st : ℕ) : Type 0 where
  pub rel_long : length rel ≡ 19
  pub neg_long : length neg ≡ 18
  pub dom_long : length dom ≡ 18
  pub at_is : at ≡ relation_sum n g i
  pub set_is : st ≡ set_sum n counts g i
  pub rel_at : (r : ℕ) → r ≤ i → get_or rel r 0 ≡ relation_sum n g r
  pub neg_at : (r : ℕ) → r < i → get_or neg r 0 ≡ relation_sum n g r + n ^ get_or g.arity r 0
  pub dom_at : (r : ℕ) → r < i → get_or dom r 0 ≡ relation_sum n g r + (n ^ get_or g.arity r 0 + n ^ get_or g.arity r 0)
  pub set_at : (r : ℕ) → r ≤ i → get_or sets r 0 ≡ set_sum n counts g r
  pub rel_most : Most rel at
  pub neg_rest : (r : ℕ) → i ≤ r → get_or neg r 0 ≡ 0
  pub dom_rest : (r : ℕ) → i ≤ r → get_or dom r 0 ≡ 0
  pub set_most : Most sets st

pub record NodesLaid (n : ℕ) (counts : List ℕ) (t : Nodes) (from first : ℕ) (v : ℕ) (node act : List ℕ) (at acts : ℕ) : Type 0 where
  pub at_is : at ≡ node_sum n t from v
  pub act_is : acts ≡ act_sum n counts t first v
  pub node_at_lem : (r : ℕ) → r ≤ v → get_or node r 0 ≡ node_sum n t from r
  pub act_at : (r : ℕ) → r ≤ v → get_or act r 0 ≡ act_sum n counts t first r
  pub node_most : Most node at
  pub act_most : Most act acts

-- whether the last relation is that of an `every` line; where it is, its atoms start at `end`
unfoldable pub has_last : Relations → Bool
has_last g = ltb 0 g.count && eqb (get_or g.kind (g.count - 1) 0) 6

pub record LastLaid (n : ℕ) (g : Relations) (end : ℕ) (rel neg dom rel' neg' dom' : List ℕ) : Type 0 where
  pub none : has_last g ≡ false → (rel' ≡ rel) × (neg' ≡ neg) × (dom' ≡ dom)
  pub here : has_last g ≡ true → (rel' ≡ set rel (g.count - 1) end) × (neg' ≡ set neg (g.count - 1) (end + n ^ get_or g.arity (g.count - 1) 0))
      × (dom' ≡ set dom (g.count - 1) (end + (n ^ get_or g.arity (g.count - 1) 0 + n ^ get_or g.arity (g.count - 1) 0)))

-- ---- of which problem the elements, the words of members of k types, the relations and the node table are
pub record Inputs (p : Problem) (n : ℕ) (w : List ℕ) (k : ℕ) (g : Relations) (t : Nodes) : Type 0 where
  pub size : n ≡ p.size
  pub list : p.node_list ≡ nodes p.root
  pub ranges : (s : ℕ) → s ≤ k → p.range s ≡ range_by n w s
  pub ranged : (s : ℕ) → IsRange p.size (p.range s)
  pub sorted : Sorted k p.root
  pub count : g.count ≡ length p.relations
  pub arity : (r : ℕ) → r < g.count → get_or g.arity r 0 ≡ (relation_at p r).arity
  pub kind : (r : ℕ) → r < g.count → get_or g.kind r 0 ≡ kind_number (relation_at p r).kind
  pub pairs : (r : ℕ) → r < g.count → T (is_function (relation_at p r).kind) → (relation_at p r).arity ≡ 2
  pub firsts : (r : ℕ) → r < g.count → get_or g.firsts r 0 ≡ (relation_at p r).firsts
  pub seconds : (r : ℕ) → r < g.count → get_or g.seconds r 0 ≡ (relation_at p r).seconds
  pub placed : (r : ℕ) → r < g.count → ((relation_at p r).firsts ≤ k) × ((relation_at p r).seconds ≤ k)
  pub tree : IsTable g.count p.root t
  pub every : EveryLast p

-- every start is the problem's
pub record Starts (p : Problem) (l : Layout) : Type 0 where
  pub rel : (r : ℕ) → r < length p.relations → get_or l.rel r 0 ≡ tuple_start p r
  pub rel_end : get_or l.rel (length p.relations) 0 ≡ relation_start p (length p.relations)
  pub neg : (r : ℕ) → r < length p.relations → get_or l.neg r 0 ≡ tuple_start p r + tuples_of p.size (relation_at p r)
  pub dom : (r : ℕ) → r < length p.relations → get_or l.dom r 0 ≡ tuple_start p r + 2 * tuples_of p.size (relation_at p r)
  pub set : (r : ℕ) → r ≤ length p.relations → get_or l.set r 0 ≡ set_start p r
  pub node : (v : ℕ) → v ≤ length p.node_list → get_or l.node v 0 ≡ node_start p v
  pub act : (v : ℕ) → v ≤ length p.node_list → get_or l.act v 0 ≡ proof_start p v

-- no entry is above b
pub record Small (l : Layout) (b : ℕ) : Type 0 where
  pub rel : Most l.rel b
  pub neg : Most l.neg b
  pub dom : Most l.dom b
  pub set : Most l.set b
  pub node : Most l.node b
  pub act : Most l.act b

-- no atom or action of a problem that is laid out has a number above this, whatever the limits
abbrev pub number_limit : ℕ
number_limit = 8388608

pub record Laid (p : Problem) (l : Layout) : Type 0 where
  pub starts : Starts p l
  pub small : (b : ℕ) → atoms p ≤ b → actions p ≤ b → Small l b
