-- One turn of each loop that fills the table, and its end.
use Rattle.std.specs.Prelude.{◌≡◌, List, [], ◌∷◌, ◌++◌, ℕ, ◌+◌, ◌^◌, ◌≤◌, ◌<◌, length, get_or, set}
use Rattle.std.proofs.Math.Path.{refl, ap}
use Rattle.std.proofs.Common.{sym, ap₂, ◌∙◌, subst, arith, add-one}
use Rattle.std.proofs.Math.Decide.{dec_lt}
use Rattle.std.proofs.Math.Seq.{paste, paste-suc}
use Rattle.definitions.specs.Lists.{below}
use Rattle.laws.specs.Lists.{length_below, get_or_below}
use Rattle.rule_nodes.specs.Tables.{no_part}
use Rattle.rule_nodes.specs.declared.NodeRow.{NodeRow}
use Rattle.rule_nodes.specs.declared.Nodes.{Nodes}
use Rattle.rows.specs.Values.{Most}
use Rattle.problem_table.specs.Lines.{table_length, root_place, relation_place, node_place, part_place}
use Rattle.problem_layout.specs.declared.Relations.{Relations}
use Rattle.problem_layout.specs.declared.Layout.{Layout}
use Rattle.problem_layout.specs.Filled.{relations_place, nodes_place, parts_place, relation_length, node_length, splice, tab, place_start, place_count, relation_numbers, relation_end, range_start, range_count, node_from, node_end, node_numbers, numbers_in, part_numbers, relation_lines, node_lines, part_lines}
use Rattle.problem_layout.specs.SpliceLaws.{splice_all, tab_next, tab_end, each_most}
use Rattle.problem_layout.specs.PartLaws.{length_part}
use Rattle.problem_layout.specs.FilledLaws.{length_relation, length_relation_end, length_node, length_node_end}
use Rattle.problem_layout.specs.Laid.{firsts_at, seconds_at, number_limit}

module _ (counts : List ℕ) (g : Relations) (l : Layout) (w d z : List ℕ) (len : length d ≡ table_length) where
  pub relation_turn : (r a x b y : ℕ) → r < 18 → a ≡ place_start (get_or g.kind r 0) (get_or g.firsts r 0) → x ≡ place_count (firsts_at counts g r) (get_or g.kind r 0)
      → b ≡ place_start (get_or g.kind r 0) (get_or g.seconds r 0) → y ≡ place_count (seconds_at counts g r) (get_or g.kind r 0) → w ≡ splice relations_place (tab (relation_numbers counts g l) r) d
      → z ≡ splice (relation_place r) (get_or l.set r 0 ∷ get_or l.rel r 0 ∷ get_or l.neg r 0 ∷ get_or l.dom r 0 ∷ get_or g.kind r 0 ∷ a ∷ x ∷ b ∷ y ∷ []) w
      → z ≡ splice relations_place (tab (relation_numbers counts g l) (r + 1)) d
  unfolding relation_numbers
  relation_turn r a x b y h ea ex eb ey e q =
      tab_next (relation_numbers counts g l) relation_length (length_relation counts g l) relations_place r (relation_numbers counts g l r) w d z (omega arith) refl e (rw (ea, ex, eb, ey) at q)

  pub relation_last : (r : ℕ) → r ≤ 18 → r ≡ g.count → w ≡ splice relations_place (tab (relation_numbers counts g l) r) d
      → z ≡ splice (relation_place r) (get_or l.set r 0 ∷ get_or l.rel r 0 ∷ 0 ∷ 0 ∷ 0 ∷ 0 ∷ 0 ∷ 0 ∷ 0 ∷ []) w → z ≡ splice relations_place (relation_lines counts g l) d
  unfolding relation_lines relation_end
  relation_last r b h e q =
      q ∙ tab_end (relation_numbers counts g l) relation_length (length_relation counts g l) relations_place r (relation_end l r) w d (omega (arith, length_relation_end l r)) e
      ∙ ap (λ (k : ℕ). splice relations_place (tab (relation_numbers counts g l) k ++ relation_end l k) d) h

module _ (counts : List ℕ) (t : Nodes) (l : Layout) (w d z : List ℕ) (len : length d ≡ table_length) where
  pub node_turn : (v : ℕ) (line : List ℕ) → v < 64 → line ≡ node_numbers counts t l v → w ≡ splice nodes_place (tab (node_numbers counts t l) v) d → z ≡ splice (node_place v) line w → z ≡ splice nodes_place (tab (node_numbers counts t l) (v + 1)) d
  node_turn v line h = tab_next (node_numbers counts t l) node_length (length_node counts t l) nodes_place v line w d z (omega arith)

  pub node_last : (v : ℕ) → v ≤ 64 → v ≡ t.count → w ≡ splice nodes_place (tab (node_numbers counts t l) v) d → z ≡ splice (node_place v) (get_or l.act v 0 ∷ get_or l.node v 0 ∷ 0 ∷ 0 ∷ 0 ∷ 0 ∷ 0 ∷ 0 ∷ 0 ∷ 0 ∷ 0 ∷ 0 ∷ 0 ∷ []) w → z ≡ splice nodes_place (node_lines counts t l) d
  unfolding node_lines node_end
  node_last v b h e q =
      q ∙ tab_end (node_numbers counts t l) node_length (length_node counts t l) nodes_place v (node_end l v) w d (omega (arith, length_node_end l v)) e
      ∙ ap (λ (k : ℕ). splice nodes_place (tab (node_numbers counts t l) k ++ node_end l k) d) h

-- a node's line from its bytes
pub node_line_lem : (n act node : ℕ) (x : NodeRow) (a b c d e f g h i r k s : ℕ) → (a ≡ x.kind) × (a < 256) → (b ≡ x.level) × (b < 256) → (c ≡ x.first) × (c < 256) → (d ≡ x.many) × (d < 256) → (e ≡ x.width) × (e < 256)
    → (f ≡ get_or x.levels 0 0) × (f < 256) → (g ≡ get_or x.levels 1 0) × (g < 256) → (h ≡ get_or x.levels 2 0) × (h < 256) → (i ≡ get_or x.levels 3 0) × (i < 256)
    → (s ≡ x.sort) × (s < 256) → (r ≡ range_start a s) × (r ≤ 2 ^ 32) → (k ≡ range_count n a) × (k ≤ 64) → act ≤ number_limit → node ≤ number_limit
    → (act ∷ node ∷ a ∷ b ∷ c ∷ d ∷ e ∷ f ∷ g ∷ h ∷ i ∷ r ∷ k ∷ [] ≡ node_from n act node x) × Most (act ∷ node ∷ a ∷ b ∷ c ∷ d ∷ e ∷ f ∷ g ∷ h ∷ i ∷ r ∷ k ∷ []) (2 ^ 32)
unfolding node_from
node_line_lem n act node x a b c d e f g h i r k s p₁ p₂ p₃ p₄ p₅ p₆ p₇ p₈ p₉ p₀ p₁₀ p₁₁ u v = (
  rw (p₁₀.0, p₀.0, p₁₁.0, p₁.0, p₂.0, p₃.0, p₄.0, p₅.0, p₆.0, p₇.0, p₈.0, p₉.0) refl,
  each_most (2 ^ 32) (act ∷ node ∷ a ∷ b ∷ c ∷ d ∷ e ∷ f ∷ g ∷ h ∷ i ∷ r ∷ k ∷ [])
      (omega arith, (omega arith, (omega arith, (omega arith, (omega arith, (omega arith, (omega arith, (omega arith, (omega arith, (omega arith, (omega arith, (omega arith, (omega arith, tt))))))))))))),
)

module _ (n : ℕ) (t : Nodes) (tops rel neg node w d z : List ℕ) (len : length d ≡ table_length) where
  pub part_turn : (i : ℕ) (line : List ℕ) → i < 64 → line ≡ numbers_in n tops rel neg node (get_or t.parts i no_part) → w ≡ splice parts_place (tab (λ (i : ℕ). numbers_in n tops rel neg node (get_or t.parts i no_part)) i) d
      → z ≡ splice (part_place i) line w → z ≡ splice parts_place (tab (λ (i : ℕ). numbers_in n tops rel neg node (get_or t.parts i no_part)) (i + 1)) d
  part_turn i line h = tab_next (λ (i : ℕ). numbers_in n tops rel neg node (get_or t.parts i no_part)) 5 (λ i. length_part n tops rel neg node (get_or t.parts i no_part)) parts_place i line w d z (omega arith)

pub part_last : (n : ℕ) (tops : List ℕ) (t : Nodes) (l : Layout) (w d z : List ℕ) (i : ℕ) (line : List ℕ) → i ≡ t.placed → line ≡ part_numbers n tops l t.root
    → w ≡ splice parts_place (tab (λ (i : ℕ). part_numbers n tops l (get_or t.parts i no_part)) i) d → z ≡ splice root_place line w → z ≡ splice root_place (part_numbers n tops l t.root) (splice parts_place (part_lines n tops t l) d)
unfolding part_lines
part_last n tops t l w d z i line h c e q = q ∙ ap₂ (splice root_place) c (rw h at e)

-- the range of all elements, element after element, from a place on
module _ (place : ℕ) (d w : List ℕ) (n i : ℕ) where
  pub range_turn : place + n ≤ length d → i < n → w ≡ paste d place (below n) i → set w (place + i) i ≡ paste d place (below n) (i + 1)
  range_turn h k e =
      ap (λ (x : List ℕ). set x (place + i) i) e ∙ ap (set (paste d place (below n) i) (place + i)) (sym (get_or_below n i k))
      ∙ paste-suc d place (below n) i 0 (omega arith) (omega (arith, length_below n)) ∙ ap (paste d place (below n)) (sym (add-one i))

  pub range_end : i ≤ n → n ≤ i → w ≡ paste d place (below n) i → w ≡ splice place (below n) d
  range_end h k e = e ∙ splice_all d place (below n) i (omega (arith, length_below n)) (omega (arith, length_below n))

-- what holds of all before the next and of the next holds of all up to it
pub one_more : (P : ℕ → Type 0) (v : ℕ) → ((u : ℕ) → u < v → P u) → P v → (u : ℕ) → u < v + 1 → P u
one_more P v h q u l = from_this (dec_lt u v)
  where
    from_this : Dec (u < v) → P u
    from_this (yes k) = h u k
    from_this (no k) = let e : v ≡ u = omega arith in subst P e q
