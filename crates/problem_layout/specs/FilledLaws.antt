-- The filled table is that of the problem, and its numbers are in range.
use Rattle.std.specs.Prelude.{◌≡◌, ℕ, zero, suc, ◌+◌, ◌-◌, ◌*◌, ◌^◌, ◌≤◌, ◌<◌, length, take, drop, set, replicate, Bool, ltb, T as Holds, if◌then◌else◌}
use Rattle.std.proofs.Math.Path.{refl, ap, ap₂}
use Rattle.std.proofs.Common.{sym, ◌∙◌, subst, length-set, get_or-set_same, get_or-set_other, get_or-drop, lt-ltb}
use mathlib.Core.List.{List, [], ◌∷◌, map}
use Rattle.std.proofs.Math.Decide.{dec_lt}
use native.Mathlib.Omega.{arith}
use Rattle.std.proofs.Math.ListN.{get_or, length-append, get_or-eq_default}
use Rattle.std.proofs.Math.Bool.{true, false}
use Rattle.std.proofs.Math.Option.{Option, none, some as «some_of»}
use Rattle.definitions.specs.Lists.{option, is_some, below, greatest}
use Rattle.definitions.specs.Sheet.Relations.{Kind, static, plain, Fun, PFun, Inj, PInj, universal, is_universal, is_function, Relation}
use Rattle.definitions.specs.Sheet.Sheets.{every_number}
use Rattle.definitions.specs.Problem.Truth.{every_tuples}
use Rattle.laws.specs.Booleans.{T_true, T_false}
use Rattle.definitions.specs.Problem.Tree.{Tree, Part, parts, free, node_sort}
use Rattle.definitions.specs.Problem.Atoms.{Problem, relation_at, tuples_of, places_of, node_at, node_start, last_start, atoms}
use Rattle.definitions.specs.Problem.Actions.{values_in, values_at}
use Rattle.laws.specs.Lists.{length_below}
use Rattle.laws.specs.Numbers.{atoms_end, last_next, last_width, last_width_lem}
use Rattle.rule_nodes.specs.Bounds.{in_parts}
use Rattle.rule_nodes.specs.Tables.{Levels, head_in, head_of, IsNode as IsRow, no_part, no_node, NodeFits as RowFits, Fits as TreeFits}
use Rattle.rule_nodes.specs.declared.PartRow.{PartRow}
use Rattle.rule_nodes.specs.declared.NodeRow.{NodeRow}
use Rattle.rule_nodes.specs.declared.Nodes.{Nodes}
use Rattle.rows.specs.Values.{Most}
use Rattle.problem_table.specs.Lines.{table_length, root_place, ranges_place, range_place, relation_place, node_place, part_place, nodes_in, is_placeless, every_in, relation_line, node_line, part_line, members_in, range_in, NodeFits, SpanFits, RangeFits, PlacesFit, Fits}
use Rattle.problem_table.specs.Numbers.{row_values}
use Rattle.problem_table.specs.Of.{kind_number, IsPart, no_part as noTreePart, IsRelation, IsNode, Is}
use Rattle.problem_table.specs.OfLaws.{every_count, every_kind}
use Rattle.problem_table.specs.declared.NodeLine.{NodeLine}
use Rattle.problem_table.specs.declared.PartLine.{PartLine}
use Rattle.problem_layout.specs.Laid.{range_by, RangesFit, RangesAre, firsts_at, seconds_at, count_at, RelationsFit, Inputs, Starts, Small, number_limit}
use Rattle.problem_layout.specs.SortLaws.{sort_within, part_sorted}
use Rattle.problem_layout.specs.StartsAre.{lasts_none, firsts_count, seconds_count, count_is, node_is, many_are, node_sort_lem, count_of}
use Rattle.problem_layout.specs.declared.Relations.{Relations}
use Rattle.problem_layout.specs.declared.Ranges.{Ranges}
use Rattle.problem_layout.specs.declared.Layout.{Layout}
use Rattle.problem_layout.specs.Filled.{relations_place, nodes_place, parts_place, relation_length, node_length, splice, tab, place_start, place_count}
use Rattle.problem_layout.specs.Filled.{relation_numbers, relation_end, range_start, range_count, node_from, node_end, node_numbers, part_numbers}
use Rattle.problem_layout.specs.Filled.{relation_lines, node_lines, part_lines, with_ranges, table_of, Filled}
use Rattle.problem_layout.specs.SpliceLaws.{ZeroFrom, length_splice, read_in, read_before, read_from, zeros_after, length_tab, tab_at, lines_at, end_at, tab_most, append_most, each_most}
use Rattle.problem_layout.specs.PartLaws.{length_part, line_of, part_is}
use Rattle.problem_layout.specs.RangeLaws.{length_ranges, before_ranges, in_ranges, ranges_low, map_places}

-- ---- lengths of lines
pub length_relation : (counts : List ℕ) (g : Relations) (l : Layout) (r : ℕ) → length (relation_numbers counts g l r) ≡ relation_length
unfolding relation_numbers
length_relation counts g l r = refl

pub length_relation_end : (l : Layout) (r : ℕ) → length (relation_end l r) ≡ relation_length
unfolding relation_end
length_relation_end l r = refl

pub length_node : (counts : List ℕ) (t : Nodes) (l : Layout) (v : ℕ) → length (node_numbers counts t l v) ≡ node_length
unfolding node_from
length_node counts t l v = refl

pub length_node_end : (l : Layout) (v : ℕ) → length (node_end l v) ≡ node_length
unfolding node_end
length_node_end l v = refl

-- ---- bounds of lines
place_start_most : (kind sort : ℕ) → sort ≤ 8 → place_start kind sort ≤ 2 ^ 32
unfolding place_start
place_start_most kind sort h = by_test (is_placeless kind)
  where
    by_test : (b : Bool) → (if b then 0 else range_place sort) ≤ 2 ^ 32
    by_test true = omega arith
    by_test false = omega arith

place_count_most : (count kind : ℕ) → count ≤ 64 → place_count count kind ≤ 2 ^ 32
unfolding place_count
place_count_most count kind h = by_test (is_placeless kind)
  where
    by_test : (b : Bool) → (if b then 0 else count) ≤ 2 ^ 32
    by_test true = omega arith
    by_test false = omega arith

relation_most : (counts : List ℕ) (g : Relations) (l : Layout) (r : ℕ) → Most counts 64 → RelationsFit g → Small l number_limit → Most (relation_numbers counts g l r) (2 ^ 32)
unfolding relation_numbers
relation_most counts g l r few f s =
    each_most (2 ^ 32) (relation_numbers counts g l r) (
      omega (arith, s.set r),
      (
        omega (arith, s.rel r),
        (
          omega (arith, s.neg r),
          (
            omega (arith, s.dom r),
            (
              omega (arith, f.kind r),
              (
                place_start_most (get_or g.kind r 0) (get_or g.firsts r 0) (f.firsts r),
                (
                  place_count_most (firsts_at counts g r) (get_or g.kind r 0) (few (get_or g.firsts r 0)),
                  (place_start_most (get_or g.kind r 0) (get_or g.seconds r 0) (f.seconds r), (place_count_most (seconds_at counts g r) (get_or g.kind r 0) (few (get_or g.seconds r 0)), tt)),
                ),
              ),
            ),
          ),
        ),
      ),
    )

relation_end_most : (l : Layout) (r : ℕ) → Small l number_limit → Most (relation_end l r) (2 ^ 32)
unfolding relation_end
relation_end_most l r s = each_most (2 ^ 32) (relation_end l r) (omega (arith, s.set r), (omega (arith, s.rel r), (omega arith, (omega arith, (omega arith, (omega arith, (omega arith, (omega arith, (omega arith, tt)))))))))

node_end_most : (l : Layout) (v : ℕ) → Small l number_limit → Most (node_end l v) (2 ^ 32)
unfolding node_end
node_end_most l v s =
    each_most (2 ^ 32) (node_end l v)
    (omega (arith, s.act v), (omega (arith, s.node v), (omega arith, (omega arith, (omega arith, (omega arith, (omega arith, (omega arith, (omega arith, (omega arith, (omega arith, (omega arith, (omega arith, tt)))))))))))))

-- ---- the first width of the four levels are those of the row
four_take : (k : ℕ) (ls : List ℕ) → k ≤ 4 → k ≤ length ls → take k (get_or ls 0 0 ∷ get_or ls 1 0 ∷ get_or ls 2 0 ∷ get_or ls 3 0 ∷ []) ≡ take k ls
four_take zero ls h q = refl
four_take (suc zero) (a ∷ ls) h q = refl
four_take (suc (suc zero)) (a ∷ b ∷ ls) h q = refl
four_take (suc (suc (suc zero))) (a ∷ b ∷ c ∷ ls) h q = refl
four_take (suc (suc (suc (suc zero)))) (a ∷ b ∷ c ∷ d ∷ ls) h q = refl
four_take (suc zero) [] h q = absurd (omega arith)
four_take (suc (suc zero)) [] h q = absurd (omega arith)
four_take (suc (suc zero)) (a ∷ []) h q = absurd (omega arith)
four_take (suc (suc (suc zero))) [] h q = absurd (omega arith)
four_take (suc (suc (suc zero))) (a ∷ []) h q = absurd (omega arith)
four_take (suc (suc (suc zero))) (a ∷ b ∷ []) h q = absurd (omega arith)
four_take (suc (suc (suc (suc zero)))) [] h q = absurd (omega arith)
four_take (suc (suc (suc (suc zero)))) (a ∷ []) h q = absurd (omega arith)
four_take (suc (suc (suc (suc zero)))) (a ∷ b ∷ []) h q = absurd (omega arith)
four_take (suc (suc (suc (suc zero)))) (a ∷ b ∷ c ∷ []) h q = absurd (omega arith)
four_take (suc (suc (suc (suc (suc k))))) ls h q = absurd (omega arith)

taken : (k : ℕ) (ls : List ℕ) → length (take k ls) ≡ k → k ≤ length ls
taken zero ls e = omega arith
taken (suc k) [] e = absurd (omega arith)
taken (suc k) (x ∷ ls) e = let q = taken k ls (omega arith) in omega arith

-- ---- the head of one part among those of a node
heads_at : (ps : List PartRow) (m : ℕ) (qs : List Part) → map head_in (take m ps) ≡ map head_of qs → (i : ℕ) → i < length qs → head_in (get_or ps i no_part) ≡ head_of (get_or qs i noTreePart)
heads_at ps m [] e i h = absurd (omega arith)
heads_at ps zero (q ∷ qs) e i h = let z = ap length e in absurd (omega (arith, z))
heads_at [] (suc m) (q ∷ qs) e i h = let z = ap length e in absurd (omega (arith, z))
heads_at (x ∷ ps) (suc m) (q ∷ qs) e zero h = cc
heads_at (x ∷ ps) (suc m) (q ∷ qs) e (suc i) h = let b : map head_in (take m ps) ≡ map head_of qs = cc in heads_at ps m qs b i (omega arith)

-- ---- a node's line, from its row
abbrev line_from : (act node range count : ℕ) → NodeRow → NodeLine
line_from act node range count x =
    record {
      acts = act;
      atoms = node;
      kind = x.kind;
      level = x.level;
      first = x.first;
      many = x.many;
      width = x.width;
      levels = get_or x.levels 0 0 ∷ get_or x.levels 1 0 ∷ get_or x.levels 2 0 ∷ get_or x.levels 3 0 ∷ [];
      range = range;
      count = count;
    }

line_fits : (act node range count placed : ℕ) (x : NodeRow) → placed ≤ 64 → RowFits placed x → NodeFits (line_from act node range count x)
line_fits act node range count placed x h f = record { width = f.width; levels = four_levels x.levels f.levels; level = f.level; parts = omega (arith, f.parts) }
  where
    four_levels : (ls : List ℕ) → Levels ls → Levels (get_or ls 0 0 ∷ get_or ls 1 0 ∷ get_or ls 2 0 ∷ get_or ls 3 0 ∷ [])
    four_levels ls h zero = h 0
    four_levels ls h (suc zero) = h 1
    four_levels ls h (suc (suc zero)) = h 2
    four_levels ls h (suc (suc (suc zero))) = h 3
    four_levels ls h (suc (suc (suc (suc i)))) = omega arith

none_fits : (placed : ℕ) → RowFits placed no_node
none_fits placed = record { width = omega arith; levels = λ i. omega arith; level = omega arith; sort = omega arith; parts = omega arith }

zeros_at : (k j : ℕ) → get_or (replicate {A = ℕ} k 0) j 0 ≡ 0
zeros_at zero j = refl
zeros_at (suc k) zero = refl
zeros_at (suc k) (suc j) = zeros_at k j

-- past its first two numbers the line past the last relation has zeros, and that past the last node
relation_zero : (l : Layout) (r j : ℕ) → 2 ≤ j → get_or (relation_end l r) j 0 ≡ 0
unfolding relation_end
relation_zero l r zero h = absurd (omega arith)
relation_zero l r (suc zero) h = absurd (omega arith)
relation_zero l r (suc (suc j)) h = zeros_at 7 j

end_zero : (l : Layout) (v j : ℕ) → 2 ≤ j → get_or (node_end l v) j 0 ≡ 0
unfolding node_end
end_zero l v zero h = absurd (omega arith)
end_zero l v (suc zero) h = absurd (omega arith)
end_zero l v (suc (suc j)) h = zeros_at 11 j

module _ (n : ℕ) (ws : List ℕ) (types : ℕ) (ranges : Ranges) (g : Relations) (t : Nodes) (l : Layout) (d : List ℕ) (len : length d ≡ table_length) (zeros : Most d 0) (ty : types ≤ 8) (fr : RangesFit n ranges) (fg : RelationsFit g) (ft : TreeFits t) (some : 0 < n) (small : n ≤ 64) where
  abbrev R : List ℕ
  R = relation_lines ranges.count g l

  abbrev N : List ℕ
  N = node_lines ranges.count t l

  abbrev P : List ℕ
  P = part_lines n ranges.top t l

  abbrev T₀ : List ℕ
  T₀ = set (set (set d 0 n) 1 g.count) 2 t.count

  abbrev T₁ : List ℕ
  T₁ = splice relations_place R T₀

  abbrev T₂ : List ℕ
  T₂ = splice nodes_place N T₁

  abbrev T₃ : List ℕ
  T₃ = splice parts_place P T₂

  abbrev Q : List ℕ
  Q = part_numbers n ranges.top l t.root

  abbrev T₄ : List ℕ
  T₄ = splice root_place Q T₃

  abbrev T : List ℕ
  T = with_ranges ranges_place n ws types T₄

  -- ---- lengths
  length_R : length R ≡ relation_length * g.count + relation_length
  unfolding relation_lines
  length_R =
      length-append (tab (relation_numbers ranges.count g l) g.count) (relation_end l g.count)
      ∙ ap₂ (λ (x y : ℕ). x + y) (length_tab (relation_numbers ranges.count g l) relation_length (length_relation ranges.count g l) g.count) (length_relation_end l g.count)

  length_N : length N ≡ node_length * t.count + node_length
  unfolding node_lines
  length_N =
      length-append (tab (node_numbers ranges.count t l) t.count) (node_end l t.count)
      ∙ ap₂ (λ (x y : ℕ). x + y) (length_tab (node_numbers ranges.count t l) node_length (length_node ranges.count t l) t.count) (length_node_end l t.count)

  length_P : length P ≡ 5 * t.placed
  unfolding part_lines
  length_P = length_tab (λ (i : ℕ). part_numbers n ranges.top l (get_or t.parts i no_part)) 5 (λ i. length_part n ranges.top l.rel l.neg l.node (get_or t.parts i no_part)) t.placed

  length_Q : length Q ≡ 5
  length_Q = length_part n ranges.top l.rel l.neg l.node t.root

  length_T₀ : length T₀ ≡ table_length
  length_T₀ = length-set (set (set d 0 n) 1 g.count) 2 t.count ∙ length-set (set d 0 n) 1 g.count ∙ length-set d 0 n ∙ len

  room₁ : relations_place + length R ≤ length T₀
  room₁ = omega (arith, length_R, length_T₀, fg.count)

  length_T₁ : length T₁ ≡ table_length
  length_T₁ = length_splice relations_place R T₀ room₁ ∙ length_T₀

  room₂ : nodes_place + length N ≤ length T₁
  room₂ = omega (arith, length_N, length_T₁, ft.few)

  length_T₂ : length T₂ ≡ table_length
  length_T₂ = length_splice nodes_place N T₁ room₂ ∙ length_T₁

  room₃ : parts_place + length P ≤ length T₂
  room₃ = omega (arith, length_P, length_T₂, ft.few_parts)

  length_T₃ : length T₃ ≡ table_length
  length_T₃ = length_splice parts_place P T₂ room₃ ∙ length_T₂

  room₄ : root_place + length Q ≤ length T₃
  room₄ = omega (arith, length_Q, length_T₃)

  length_T₄ : length T₄ ≡ table_length
  length_T₄ = length_splice root_place Q T₃ room₄ ∙ length_T₃

  room₅ : ranges_place + 64 * types + 64 ≤ length T₄
  room₅ = omega (arith, length_T₄, ty)

  length_T : length T ≡ table_length
  length_T = length_ranges ranges_place n ws small types T₄ room₅ ∙ length_T₄

  -- ---- zeros where nothing was written yet
  zero_T₀ : ZeroFrom relations_place T₀
  zero_T₀ i h =
      get_or-set_other (set (set d 0 n) 1 g.count) 2 i t.count 0 (λ e. omega arith) ∙ get_or-set_other (set d 0 n) 1 i g.count 0 (λ e. omega arith)
      ∙ get_or-set_other d 0 i n 0 (λ e. omega arith) ∙ omega (arith, zeros i)

  zero_T₁ : ZeroFrom nodes_place T₁
  zero_T₁ = zeros_after relations_place R T₀ room₁ nodes_place (omega (arith, length_R, fg.count)) zero_T₀

  zero_T₂ : ZeroFrom parts_place T₂
  zero_T₂ = zeros_after nodes_place N T₁ room₂ parts_place (omega (arith, length_N, ft.few)) zero_T₁

  zero_T₃ : ZeroFrom root_place T₃
  zero_T₃ = zeros_after parts_place P T₂ room₃ root_place (omega (arith, length_P, ft.few_parts)) zero_T₂

  zero_T₄ : ZeroFrom ranges_place T₄
  zero_T₄ = zeros_after root_place Q T₃ room₄ ranges_place (omega (arith, length_Q)) zero_T₃

  -- ---- what stands where
  in_R : (j : ℕ) → j < 171 → get_or T (relations_place + j) 0 ≡ get_or R j 0
  in_R j h =
      before_ranges ranges_place n ws small types T₄ room₅ (relations_place + j) (omega arith)
      ∙ read_before root_place Q T₃ room₄ (relations_place + j) (omega arith) ∙ read_before parts_place P T₂ room₃ (relations_place + j) (omega arith)
      ∙ read_before nodes_place N T₁ room₂ (relations_place + j) (omega arith)
      ∙ read_from relations_place R T₀ room₁ zero_T₀ j

  in_N : (j : ℕ) → j < 845 → get_or T (nodes_place + j) 0 ≡ get_or N j 0
  in_N j h = before_ranges ranges_place n ws small types T₄ room₅ (nodes_place + j) (omega arith) ∙ read_before root_place Q T₃ room₄ (nodes_place + j) (omega arith) ∙ read_before parts_place P T₂ room₃ (nodes_place + j) (omega arith) ∙ read_from nodes_place N T₁ room₂ zero_T₁ j

  in_P : (j : ℕ) → j < 320 → get_or T (parts_place + j) 0 ≡ get_or P j 0
  in_P j h = before_ranges ranges_place n ws small types T₄ room₅ (parts_place + j) (omega arith) ∙ read_before root_place Q T₃ room₄ (parts_place + j) (omega arith) ∙ read_from parts_place P T₂ room₃ zero_T₂ j

  in_Q : (j : ℕ) → j < 5 → get_or T (root_place + j) 0 ≡ get_or Q j 0
  in_Q j h = before_ranges ranges_place n ws small types T₄ room₅ (root_place + j) (omega arith) ∙ read_in root_place Q T₃ room₄ j (omega (arith, length_Q))

  in_M : (s i : ℕ) → s ≤ types → i < length (range_by n ws s) → get_or T (range_place s + i) 0 ≡ get_or (range_by n ws s) i 0
  in_M = in_ranges ranges_place n ws small types T₄ room₅

  low_M : (i : ℕ) → ranges_place ≤ i → get_or T i 0 < n
  low_M = ranges_low ranges_place n ws small types T₄ room₅ some zero_T₄

  at_head : (i : ℕ) → i < 3 → get_or T i 0 ≡ get_or T₀ i 0
  at_head i h =
      before_ranges ranges_place n ws small types T₄ room₅ i (omega arith) ∙ read_before root_place Q T₃ room₄ i (omega arith) ∙ read_before parts_place P T₂ room₃ i (omega arith) ∙ read_before nodes_place N T₁ room₂ i (omega arith) ∙ read_before relations_place R T₀ room₁ i h

  size_at : get_or T 0 0 ≡ n
  size_at =
      at_head 0 (omega arith) ∙ get_or-set_other (set (set d 0 n) 1 g.count) 2 0 t.count 0 (λ e. omega arith)
      ∙ get_or-set_other (set d 0 n) 1 0 g.count 0 (λ e. omega arith) ∙ get_or-set_same d 0 n 0 (omega (arith, len))

  relations_at : get_or T 1 0 ≡ g.count
  relations_at =
      at_head 1 (omega arith) ∙ get_or-set_other (set (set d 0 n) 1 g.count) 2 1 t.count 0 (λ e. omega arith)
      ∙ get_or-set_same (set d 0 n) 1 g.count 0 (omega (arith, len, length-set d 0 n))

  nodes_at : get_or T 2 0 ≡ t.count
  nodes_at =
      at_head 2 (omega arith)
      ∙ get_or-set_same (set (set d 0 n) 1 g.count) 2 t.count 0 (omega (arith, len, length-set d 0 n, length-set (set d 0 n) 1 g.count))

  -- ---- lines
  relation_at_lem : (r j i : ℕ) → r < g.count → j < relation_length → i ≡ relations_place + (relation_length * r + j) → get_or T i 0 ≡ get_or (relation_numbers ranges.count g l r) j 0
  unfolding relation_lines
  relation_at_lem r j i h k e =
      ap (λ (x : ℕ). get_or T x 0) e ∙ in_R (relation_length * r + j) (omega (arith, fg.count))
      ∙ lines_at (relation_numbers ranges.count g l) relation_length (length_relation ranges.count g l) g.count (relation_end l g.count) r j h k

  relation_past : (j i : ℕ) → relation_length * g.count + j < 171 → i ≡ relations_place + (relation_length * g.count + j) → get_or T i 0 ≡ get_or (relation_end l g.count) j 0
  unfolding relation_lines
  relation_past j i k e =
      ap (λ (x : ℕ). get_or T x 0) e ∙ in_R (relation_length * g.count + j) k ∙ end_at (relation_numbers ranges.count g l) relation_length (length_relation ranges.count g l) g.count (relation_end l g.count) j

  node_at_lem : (v j i : ℕ) → v < t.count → j < node_length → i ≡ nodes_place + (node_length * v + j) → get_or T i 0 ≡ get_or (node_numbers ranges.count t l v) j 0
  unfolding node_lines
  node_at_lem v j i h k e =
      ap (λ (x : ℕ). get_or T x 0) e ∙ in_N (node_length * v + j) (omega (arith, ft.few))
      ∙ lines_at (node_numbers ranges.count t l) node_length (length_node ranges.count t l) t.count (node_end l t.count) v j h k

  -- from the line past the last node on
  node_past : (j i : ℕ) → node_length * t.count + j < 845 → i ≡ nodes_place + (node_length * t.count + j) → get_or T i 0 ≡ get_or (node_end l t.count) j 0
  unfolding node_lines
  node_past j i k e =
      ap (λ (x : ℕ). get_or T x 0) e ∙ in_N (node_length * t.count + j) k ∙ end_at (node_numbers ranges.count t l) node_length (length_node ranges.count t l) t.count (node_end l t.count) j

  part_at : (k j i : ℕ) → k < t.placed → j < 5 → i ≡ parts_place + (5 * k + j) → get_or T i 0 ≡ get_or (part_numbers n ranges.top l (get_or t.parts k no_part)) j 0
  unfolding part_lines
  part_at k j i h q e =
      ap (λ (x : ℕ). get_or T x 0) e ∙ in_P (5 * k + j) (omega (arith, ft.few_parts))
      ∙ tab_at (λ (i : ℕ). part_numbers n ranges.top l (get_or t.parts i no_part)) 5 (λ i. length_part n ranges.top l.rel l.neg l.node (get_or t.parts i no_part)) t.placed k j h q

  root_at : (j i : ℕ) → j < 5 → i ≡ root_place + j → get_or T i 0 ≡ get_or Q j 0
  root_at j i h e = ap (λ (x : ℕ). get_or T x 0) e ∙ in_Q j h

  -- what the code reads as a line
  sets_at : (r : ℕ) → r ≤ g.count → (relation_line T r).sets ≡ get_or l.set r 0
  unfolding relation_line relation_numbers relation_end
  sets_at r h = from_this (dec_lt r g.count)
    where
      from_this : Dec (r < g.count) → get_or T (relation_place r) 0 ≡ get_or l.set r 0
      from_this (yes q) = relation_at_lem r 0 (relation_place r) q (omega arith) (omega arith)
      from_this (no q) = let e : r ≡ g.count = omega arith in rw e (relation_past 0 (relation_place g.count) (omega (arith, fg.count)) (omega arith))

  tuples_at : (r : ℕ) → r < g.count → (relation_line T r).tuples ≡ get_or l.rel r 0
  unfolding relation_line relation_numbers
  tuples_at r h = relation_at_lem r 1 (relation_place r + 1) h (omega arith) (omega arith)

  nots_at : (r : ℕ) → r < g.count → (relation_line T r).nots ≡ get_or l.neg r 0
  unfolding relation_line relation_numbers
  nots_at r h = relation_at_lem r 2 (relation_place r + 2) h (omega arith) (omega arith)

  free_at : (r : ℕ) → r < g.count → (relation_line T r).free ≡ get_or l.dom r 0
  unfolding relation_line relation_numbers
  free_at r h = relation_at_lem r 3 (relation_place r + 3) h (omega arith) (omega arith)

  kind_at : (r : ℕ) → r < g.count → (relation_line T r).kind ≡ get_or g.kind r 0
  unfolding relation_line relation_numbers
  kind_at r h = relation_at_lem r 4 (relation_place r + 4) h (omega arith) (omega arith)

  -- the ranges of the two places of relation r
  places_at : (r : ℕ) → r < g.count
      → ((relation_line T r).firsts ≡ place_start (get_or g.kind r 0) (get_or g.firsts r 0)) × ((relation_line T r).first_count ≡ place_count (firsts_at ranges.count g r) (get_or g.kind r 0))
      × ((relation_line T r).seconds ≡ place_start (get_or g.kind r 0) (get_or g.seconds r 0)) × ((relation_line T r).second_count ≡ place_count (seconds_at ranges.count g r) (get_or g.kind r 0))
  unfolding relation_line relation_numbers
  places_at r h = (
    relation_at_lem r 5 (relation_place r + 5) h (omega arith) (omega arith),
    relation_at_lem r 6 (relation_place r + 6) h (omega arith) (omega arith),
    relation_at_lem r 7 (relation_place r + 7) h (omega arith) (omega arith),
    relation_at_lem r 8 (relation_place r + 8) h (omega arith) (omega arith),
  )

  -- past the last relation they are empty
  places_past : (r : ℕ) → g.count ≤ r → r < 18 → ((relation_line T r).firsts ≡ 0) × ((relation_line T r).first_count ≡ 0) × ((relation_line T r).seconds ≡ 0) × ((relation_line T r).second_count ≡ 0)
  unfolding relation_line
  places_past r h k = (at 5 (omega arith) (omega arith), at 6 (omega arith) (omega arith), at 7 (omega arith) (omega arith), at 8 (omega arith) (omega arith))
    where
      at : (j : ℕ) → 2 ≤ j → j < relation_length → get_or T (relation_place r + j) 0 ≡ 0
      at j a b = relation_past (relation_length * (r - g.count) + j) (relation_place r + j) (omega arith) (omega arith) ∙ relation_zero l g.count (relation_length * (r - g.count) + j) (omega arith)

  acts_at : (v : ℕ) → v ≤ t.count → (node_line T v).acts ≡ get_or l.act v 0
  unfolding node_line node_from node_end
  acts_at v h = from_this (dec_lt v t.count)
    where
      from_this : Dec (v < t.count) → get_or T (node_place v) 0 ≡ get_or l.act v 0
      from_this (yes q) = node_at_lem v 0 (node_place v) q (omega arith) (omega arith)
      from_this (no q) = let e : v ≡ t.count = omega arith in rw e (node_past 0 (node_place t.count) (omega (arith, ft.few)) (omega arith))

  atoms_at : (v : ℕ) → v ≤ t.count → (node_line T v).atoms ≡ get_or l.node v 0
  unfolding node_line node_from node_end
  atoms_at v h = from_this (dec_lt v t.count)
    where
      from_this : Dec (v < t.count) → get_or T (node_place v + 1) 0 ≡ get_or l.node v 0
      from_this (yes q) = node_at_lem v 1 (node_place v + 1) q (omega arith) (omega arith)
      from_this (no q) = let e : v ≡ t.count = omega arith in rw e (node_past 1 (node_place t.count + 1) (omega (arith, ft.few)) (omega arith))

  -- all but a line's first two numbers
  line_by : (v range count : ℕ) (x : NodeRow) (xs : List ℕ) → ((j i : ℕ) → 2 ≤ j → j < node_length → i ≡ nodes_place + (node_length * v + j) → get_or T i 0 ≡ get_or xs j 0)
      → (a b : ℕ) → xs ≡ a ∷ b ∷ x.kind ∷ x.level ∷ x.first ∷ x.many ∷ x.width ∷ get_or x.levels 0 0 ∷ get_or x.levels 1 0 ∷ get_or x.levels 2 0 ∷ get_or x.levels 3 0 ∷ range ∷ count ∷ []
      → node_line T v ≡ line_from (node_line T v).acts (node_line T v).atoms range count x
  unfolding node_line
  line_by v range count x xs h a b e =
      let at : (j i : ℕ) → 2 ≤ j → j < node_length → i ≡ nodes_place + (node_length * v + j) → get_or T i 0 ≡ get_or (a ∷ b ∷ x.kind ∷ x.level ∷ x.first ∷ x.many ∷ x.width ∷ get_or x.levels 0 0 ∷ get_or x.levels 1 0 ∷ get_or x.levels 2 0 ∷ get_or x.levels 3 0 ∷ range ∷ count ∷ []) j 0 =
      λ j i q r s. h j i q r s ∙ ap (λ (l : List ℕ). get_or l j 0) e in
      rw (
        at 2 (node_place v + 2) (omega arith) (omega arith) (omega arith),
        at 3 (node_place v + 3) (omega arith) (omega arith) (omega arith),
        at 4 (node_place v + 4) (omega arith) (omega arith) (omega arith),
        at 5 (node_place v + 5) (omega arith) (omega arith) (omega arith),
        at 6 (node_place v + 6) (omega arith) (omega arith) (omega arith),
        at 7 (node_place v + 7) (omega arith) (omega arith) (omega arith),
        at 8 (node_place v + 8) (omega arith) (omega arith) (omega arith),
        at 9 (node_place v + 9) (omega arith) (omega arith) (omega arith),
        at 10 (node_place v + 10) (omega arith) (omega arith) (omega arith),
        at 11 (node_place v + 11) (omega arith) (omega arith) (omega arith),
        at 12 (node_place v + 12) (omega arith) (omega arith) (omega arith),
      ) refl

  -- where the range of node v starts, and how many elements it has
  abbrev start_at : ℕ → ℕ
  start_at v = range_start (get_or t.rows v no_node).kind (get_or t.rows v no_node).sort

  abbrev length_at : ℕ → ℕ
  length_at v = range_count (count_at ranges.count t v) (get_or t.rows v no_node).kind

  line_is : (v : ℕ) → v < t.count → node_line T v ≡ line_from (get_or l.act v 0) (get_or l.node v 0) (start_at v) (length_at v) (get_or t.rows v no_node)
  unfolding node_from
  line_is v h =
      let x = get_or t.rows v no_node in
      line_by v (start_at v) (length_at v) x (node_numbers ranges.count t l v) (λ j i q. node_at_lem v j i h) (get_or l.act v 0) (get_or l.node v 0) refl
      ∙ ap₂ (λ (a b : ℕ). line_from a b (start_at v) (length_at v) x) (acts_at v (omega arith)) (atoms_at v (omega arith))

  line_past : (v : ℕ) → t.count ≤ v → v < 64 → node_line T v ≡ line_from (node_line T v).acts (node_line T v).atoms 0 0 no_node
  line_past v h k =
      line_by v 0 0 no_node (replicate 13 0)
      (λ j i a b e. node_past (node_length * (v - t.count) + j) i (omega arith) (omega arith) ∙ end_zero l t.count (node_length * (v - t.count) + j) (omega arith) ∙ sym (zeros_at 13 j)) 0 0 refl

  part_line_lem : (k : ℕ) → k < t.placed → part_line T k ≡ line_of (part_numbers n ranges.top l (get_or t.parts k no_part))
  unfolding part_line
  part_line_lem k h =
      rw (
        part_at k 0 (part_place k) h (omega arith) (omega arith),
        part_at k 1 (part_place k + 1) h (omega arith) (omega arith),
        part_at k 2 (part_place k + 2) h (omega arith) (omega arith),
        part_at k 3 (part_place k + 3) h (omega arith) (omega arith),
        part_at k 4 (part_place k + 4) h (omega arith) (omega arith),
      ) refl

  root_line : part_line T 64 ≡ line_of Q
  unfolding part_line
  root_line =
      rw (
        root_at 0 (part_place 64) (omega arith) (omega arith),
        root_at 1 (part_place 64 + 1) (omega arith) (omega arith),
        root_at 2 (part_place 64 + 2) (omega arith) (omega arith),
        root_at 3 (part_place 64 + 3) (omega arith) (omega arith),
        root_at 4 (part_place 64 + 4) (omega arith) (omega arith),
      ) refl

  -- ---- ranges
  module _ (sl : Small l number_limit) (nm : (v : ℕ) → v < t.count → Most (node_numbers ranges.count t l v) (2 ^ 32))
      (pm : (i : ℕ) → i < t.placed → Most (part_numbers n ranges.top l (get_or t.parts i no_part)) (2 ^ 32)) (rm : Most (part_numbers n ranges.top l t.root) (2 ^ 32)) where
    most_R : Most R (2 ^ 32)
    unfolding relation_lines
    most_R =
        append_most (tab (relation_numbers ranges.count g l) g.count) (relation_end l g.count) (2 ^ 32) (tab_most (relation_numbers ranges.count g l) g.count (2 ^ 32) (λ r h. relation_most ranges.count g l r fr.count fg sl)) (relation_end_most l g.count sl)

    most_N : Most N (2 ^ 32)
    unfolding node_lines
    most_N = append_most (tab (node_numbers ranges.count t l) t.count) (node_end l t.count) (2 ^ 32) (tab_most (node_numbers ranges.count t l) t.count (2 ^ 32) nm) (node_end_most l t.count sl)

    most_P : Most P (2 ^ 32)
    unfolding part_lines
    most_P = tab_most (λ (i : ℕ). part_numbers n ranges.top l (get_or t.parts i no_part)) t.placed (2 ^ 32) pm

    head_most : (i : ℕ) → i < 3 → get_or T i 0 ≤ 2 ^ 32
    head_most zero h = let e = size_at in omega arith
    head_most (suc zero) h = let e = relations_at in omega (arith, fg.count)
    head_most (suc (suc zero)) h = let e = nodes_at in omega (arith, ft.few)
    head_most (suc (suc (suc i))) h = absurd (omega arith)

    range_most : (j : ℕ) → get_or T (ranges_place + j) 0 ≤ 2 ^ 32
    range_most j = omega (arith, low_M (ranges_place + j) (omega arith))

    entry : (i : ℕ) → get_or T i 0 ≤ 2 ^ 32
    entry i = from_this (dec_lt i relations_place) (dec_lt i nodes_place) (dec_lt i parts_place) (dec_lt i root_place) (dec_lt i ranges_place) (dec_lt i table_length)
      where
        from_this : Dec (i < relations_place) → Dec (i < nodes_place) → Dec (i < parts_place) → Dec (i < root_place) → Dec (i < ranges_place) → Dec (i < table_length) → get_or T i 0 ≤ 2 ^ 32
        from_this (yes h) q r s u m = head_most i h
        from_this (no h) (yes q) r s u m =
            let e : i ≡ relations_place + (i - relations_place) = omega arith in
            rw e (rw (in_R (i - relations_place) (omega arith)) (most_R (i - relations_place)))
        from_this (no h) (no q) (yes r) s u m =
            let e : i ≡ nodes_place + (i - nodes_place) = omega arith in
            rw e (rw (in_N (i - nodes_place) (omega arith)) (most_N (i - nodes_place)))
        from_this (no h) (no q) (no r) (yes s) u m =
            let e : i ≡ parts_place + (i - parts_place) = omega arith in
            rw e (rw (in_P (i - parts_place) (omega arith)) (most_P (i - parts_place)))
        from_this (no h) (no q) (no r) (no s) (yes u) m =
            let e : i ≡ root_place + (i - root_place) = omega arith in
            rw e (rw (in_Q (i - root_place) (omega arith)) (rm (i - root_place)))
        from_this (no h) (no q) (no r) (no s) (no u) (yes m) =
            let e : i ≡ ranges_place + (i - ranges_place) = omega arith in
            rw e (range_most (i - ranges_place))
        from_this (no h) (no q) (no r) (no s) (no u) (no m) = let e : get_or T i 0 ≡ 0 = get_or-eq_default T 0 (omega (arith, length_T)) in omega arith

    node_fits : (v : ℕ) → v < 64 → NodeFits (node_line T v)
    node_fits v h = from_this (dec_lt v t.count)
      where
        from_this : Dec (v < t.count) → NodeFits (node_line T v)
        from_this (yes q) = subst NodeFits (sym (line_is v q)) (line_fits _ _ _ _ t.placed (get_or t.rows v no_node) ft.few_parts (ft.nodes.node v))
        from_this (no q) = subst NodeFits (sym (line_past v (omega arith) h)) (line_fits _ _ _ _ t.placed no_node ft.few_parts (none_fits t.placed))

    -- the range of a node is in the table, its members are elements, and the first range has all of them
    whole_range : members_in T ranges_place n ≡ below n
    unfolding members_in range_by
    whole_range =
        let e = length_below n in
        rw e at (map_places (λ i. get_or T (ranges_place + i) 0) (below n) (λ i h. let z : range_place 0 + i ≡ ranges_place + i = omega arith in rw z at (in_M 0 i (omega arith) h)))

    -- a range of a sort, and none
    span_fits : (sort count : ℕ) → sort ≤ 8 → count ≤ 64 → (sort ≡ 0 → count ≡ n) → SpanFits T (range_place sort) count
    span_fits sort count a b e = record {
      inside = omega arith;
      member = λ i h. rw size_at (low_M (range_place sort + i) (omega arith));
      whole = λ z. let o : sort ≡ 0 = omega arith in rw (z, e o, size_at) whole_range;
    }

    no_span : SpanFits T 0 0
    no_span = record { inside = omega arith; member = λ i h. absurd (omega arith); whole = λ z. absurd (omega arith) }

    -- how many elements a sort has, where it is that of all
    whole_count : (sort : ℕ) → sort ≡ 0 → get_or ranges.count sort 0 ≡ n
    whole_count sort e = ap (λ (s : ℕ). get_or ranges.count s 0) e ∙ fr.whole

    abbrev FitsAt : NodeLine → Type 0
    FitsAt x = RangeFits T x

    kind_range : (act node kind sort count : ℕ) (x : NodeRow) → sort ≤ 8 → count ≤ 64 → (sort ≡ 0 → count ≡ n) → FitsAt (line_from act node (range_start kind sort) (range_count count kind) x)
    unfolding range_start range_count
    kind_range act node kind sort count x a b e = by_test (ltb kind 2)
      where
        by_test : (q : Bool) → FitsAt (line_from act node (if q then range_place sort else 0) (if q then count else 0) x)
        by_test true = span_fits sort count a b e
        by_test false = no_span

    range_fits : (v : ℕ) → v < 64 → RangeFits T (node_line T v)
    range_fits v h = by_place (dec_lt v t.count)
      where
        by_place : Dec (v < t.count) → RangeFits T (node_line T v)
        by_place (yes q) = subst (RangeFits T) (sym (line_is v q)) (kind_range (get_or l.act v 0) (get_or l.node v 0) (get_or t.rows v no_node).kind (get_or t.rows v no_node).sort (count_at ranges.count t v) (get_or t.rows v no_node)
            (ft.nodes.node v).sort (fr.count (get_or t.rows v no_node).sort) (whole_count (get_or t.rows v no_node).sort))
        by_place (no q) = subst (RangeFits T) (sym (line_past v (omega arith) h)) no_span

    -- so are those of a relation's places
    place_fits : (kind sort count : ℕ) → sort ≤ 8 → count ≤ 64 → (sort ≡ 0 → count ≡ n) → SpanFits T (place_start kind sort) (place_count count kind)
    unfolding place_start place_count
    place_fits kind sort count a b e = by_test (is_placeless kind)
      where
        by_test : (q : Bool) → SpanFits T (if q then 0 else range_place sort) (if q then 0 else count)
        by_test true = no_span
        by_test false = span_fits sort count a b e

    no_place : (kind sort count : ℕ) → is_placeless kind ≡ true → (place_start kind sort ≡ 0) × (place_count count kind ≡ 0)
    unfolding place_start place_count
    no_place kind sort count h = (rw h refl, rw h refl)

    places_fit : (r : ℕ) → r < 18 → PlacesFit T (relation_line T r)
    places_fit r h = by_place (dec_lt r g.count)
      where
        by_place : Dec (r < g.count) → PlacesFit T (relation_line T r)
        by_place (yes q) =
            let (a, x, b, y) = places_at r q in
            record {
              firsts = rw (a, x) (place_fits (get_or g.kind r 0) (get_or g.firsts r 0) (firsts_at ranges.count g r) (fg.firsts r) (fr.count (get_or g.firsts r 0)) (whole_count (get_or g.firsts r 0)));
              seconds = rw (b, y) (place_fits (get_or g.kind r 0) (get_or g.seconds r 0) (seconds_at ranges.count g r) (fg.seconds r) (fr.count (get_or g.seconds r 0)) (whole_count (get_or g.seconds r 0)));
              untyped = λ l.
                  let k : is_placeless (get_or g.kind r 0) ≡ true = ap is_placeless (sym (kind_at r q)) ∙ T_true (is_placeless (relation_line T r).kind) l in
                  let u = no_place (get_or g.kind r 0) (get_or g.firsts r 0) (firsts_at ranges.count g r) k in
                  let v = no_place (get_or g.kind r 0) (get_or g.seconds r 0) (seconds_at ranges.count g r) k in
                  (a ∙ u.0, x ∙ u.1, b ∙ v.0, y ∙ v.1);
            }
        by_place (no q) =
            let (a, x, b, y) = places_past r (omega arith) h in
            record { firsts = rw (a, x) no_span; seconds = rw (b, y) no_span; untyped = λ _. (a, x, b, y) }

    fits : Fits T
    fits =
        record {
          whole = length_T;
          some = rw size_at some;
          size = rw size_at small;
          relations = rw relations_at fg.count;
          nodes = rw nodes_at ft.few;
          entry = entry;
          node = node_fits;
          range = range_fits;
          places = places_fit;
        }

-- ---- the atoms end with those of the relation of an `every` line
function_placed : (k : Kind) → Holds (is_function k) → is_placeless (kind_number k) ≡ false
unfolding is_function kind_number
function_placed static f = absurd f
function_placed plain f = absurd f
function_placed Fun f = refl
function_placed PFun f = refl
function_placed Inj f = refl
function_placed PInj f = refl
function_placed universal f = absurd f

last_all : (n : ℕ) (k : Relation) → is_universal k.kind ≡ true → last_width n k ≡ 3 * tuples_of n k
unfolding last_width
last_all n k e = let w = last_width_lem n k e in omega arith

atoms_counted : (p : Problem) (w : List ℕ) → Is p w → (node_line w (nodes_in w)).atoms + 3 * every_in w ≡ atoms p
unfolding every_tuples option is_some tuples_of
atoms_counted p w is = by_option p.source.question.every refl (every_count p w is)
  where
    end : (node_line w (nodes_in w)).atoms ≡ node_start p (length p.node_list)
    end = ap (λ (v : ℕ). (node_line w v).atoms) is.nodes ∙ is.ends

    by_option : (o : Option Relation) → p.source.question.every ≡ o → every_in w ≡ option p.source.question.every zero (λ (e : Relation). p.source.site.size ^ e.arity) → (node_line w (nodes_in w)).atoms + 3 * every_in w ≡ atoms p
    by_option none e c =
        let z = lasts_none p (length p.relations) (omega arith)
        (λ j h. T_false (is_universal (relation_at p j).kind) (λ u. subst (λ (o : Option Relation). Holds (is_some o)) e (is.every.alone j h u).1)) in
        let q : every_in w ≡ 0 = c ∙ ap (λ (o : Option Relation). option o zero (λ (e : Relation). p.source.site.size ^ e.arity)) e in
        let f = atoms_end p in
        omega (arith, z, q, f, end)
    by_option («some_of» k) e c =
        let t : Holds (is_some p.source.question.every) = subst (λ (o : Option Relation). Holds (is_some o)) (sym e) tt in
        let r : ℕ = every_number p.source.question in
        let l : suc r ≡ length p.relations = is.every.last t in
        let (a, u) = is.every.line k e in
        let q : every_in w ≡ tuples_of p.size (relation_at p r) =
        c ∙ ap (λ (o : Option Relation). option o zero (λ (e : Relation). p.source.site.size ^ e.arity)) e ∙ ap₂ (λ (n : ℕ) (x : Relation). n ^ x.arity) is.every.sized (sym a) in
        let z = lasts_none p r (omega arith)
        (λ j h. T_false (is_universal (relation_at p j).kind) (λ v. let m = (is.every.alone j (omega arith) v).0 in omega arith)) in
        let n = last_next p r (omega arith) in
        let d = last_all p.size (relation_at p r) (T_true (is_universal (relation_at p r).kind) (every_kind p w is t)) in
        let f : last_start p (suc r) ≡ atoms p = ap (last_start p) l ∙ atoms_end p in
        omega (arith, z, q, n, d, f, end)

-- ---- of the problem
module _ (p : Problem) (ws : List ℕ) (types : ℕ) (ranges : Ranges) (g : Relations) (t : Nodes) (l : Layout) (d : List ℕ)
    (len : length d ≡ table_length) (zeros : Most d 0) (ty : types ≤ 8) (fr : RangesFit p.size ranges) (fg : RelationsFit g) (ft : TreeFits t)
    (some : 0 < p.size) (small : p.size ≤ 64)
    (ra : RangesAre p.size ws types ranges) (inputs : Inputs p p.size ws types g t) (starts : Starts p l) where
  abbrev W : List ℕ
  W = T p.size ws types ranges g t l d len zeros ty fr fg ft some small

  counted : t.count ≡ length p.node_list
  counted = count_is p ws types g t inputs

  -- what stands in the table as a range is the problem's
  range_is : (σ : ℕ) → σ ≤ types → members_in W (range_place σ) (length (p.range σ)) ≡ p.range σ
  unfolding members_in
  range_is σ h = rw (inputs.ranges σ h) (map_places (λ i. get_or W (range_place σ + i) 0) (range_by p.size ws σ) (λ i q. in_M p.size ws types ranges g t l d len zeros ty fr fg ft some small σ i h q))

  place_is : (kind sort count a x : ℕ) (σ : ℕ) → is_placeless kind ≡ false → σ ≤ types → a ≡ place_start kind sort → x ≡ place_count count kind → sort ≡ σ → count ≡ length (p.range σ) → members_in W a x ≡ p.range σ
  unfolding place_start place_count
  place_is kind sort count a x σ h b e q s c = rw (e, q, h, s, c) (range_is σ b)

  relation_of : (r : ℕ) → r < length p.relations → IsRelation p W r (relation_line W r)
  relation_of r h =
      let b : r < g.count = omega (arith, inputs.count) in
      let places = places_at p.size ws types ranges g t l d len zeros ty fr fg ft some small r b in
      let two : Holds (is_function (relation_at p r).kind) → is_placeless (get_or g.kind r 0) ≡ false = λ f. ap is_placeless (inputs.kind r b) ∙ function_placed (relation_at p r).kind f in
      record {
        tuples = tuples_at p.size ws types ranges g t l d len zeros ty fr fg ft some small r b ∙ starts.rel r (omega arith);
        nots = nots_at p.size ws types ranges g t l d len zeros ty fr fg ft some small r b ∙ starts.neg r h;
        free = free_at p.size ws types ranges g t l d len zeros ty fr fg ft some small r b ∙ starts.dom r h;
        kind = kind_at p.size ws types ranges g t l d len zeros ty fr fg ft some small r b ∙ inputs.kind r b;
        pairs = inputs.pairs r b;
        firsts = λ f. place_is (get_or g.kind r 0) (get_or g.firsts r 0) (firsts_at ranges.count g r) _ _ (relation_at p r).firsts (two f) (inputs.placed r b).0 places.0 places.1 (inputs.firsts r b) (firsts_count p ws types g t inputs ranges ra r b);
        seconds = λ f. place_is (get_or g.kind r 0) (get_or g.seconds r 0) (seconds_at ranges.count g r) _ _ (relation_at p r).seconds (two f) (inputs.placed r b).1 places.2 places.3 (inputs.seconds r b) (seconds_count p ws types g t inputs ranges ra r b);
      }

  -- the levels of a line are the row's, wherever the node stands
  levels_of : (v : ℕ) (u : Tree) (x : NodeRow) (ps : List PartRow) → IsRow v u x ps → x.width ≤ 4 → take x.width (line_from 0 0 0 0 x).levels ≡ free u
  levels_of v u x ps i h =
      let a : length (take x.width x.levels) ≡ x.width = ap length i.levels ∙ sym i.width in
      four_take x.width x.levels h (taken x.width x.levels a) ∙ i.levels

  values_of : (v row act node range count : ℕ) (u : Tree) (x : NodeRow) (ps : List PartRow) → IsRow v u x ps → x.width ≤ 4 → row_values p.size (line_from act node range count x) row ≡ values_at p.size u row
  unfolding row_values values_at
  values_of v row act node range count u x ps i h =
      ap₂ (λ (ls : List ℕ) (k : ℕ). values_in ls (places_of p.size k row)) (levels_of v u x ps i h) i.width

  range_of : (kind act node sort count : ℕ) (x : NodeRow) (σ : ℕ) → kind < 2 → σ ≤ types → sort ≡ σ → count ≡ length (p.range σ) → range_in W (line_from act node (range_start kind sort) (range_count count kind) x) ≡ p.range σ
  unfolding range_start range_count
  range_of kind act node sort count x σ h b e q = rw (lt-ltb kind 2 h, e, q) (range_is σ b)

  top_is : (s : ℕ) → s ≤ types → get_or ranges.top s 0 ≡ greatest (p.range s)
  top_is s h = ra.top s h ∙ ap greatest (sym (inputs.ranges s h))

  node_of : (v : ℕ) → v < length p.node_list → IsNode p W v (node_at p v) (node_line W v)
  node_of v h =
      let b : v < t.count = omega (arith, counted) in
      let x = get_or t.rows v no_node in
      let i = node_is p ws types g t inputs v b in
      let o = node_sort_lem p ws types g t inputs v b in
      let m : x.many ≡ length (parts v (node_at p v)) = many_are v (node_at p v) x t.parts i (in_parts t ft v) in
      subst (IsNode p W v (node_at p v)) (sym (line_is p.size ws types ranges g t l d len zeros ty fr fg ft some small v b))
      (record {
        atoms = starts.node v (omega arith);
        kind = i.kind;
        level = i.level;
        width = i.width;
        levels = levels_of v (node_at p v) x t.parts i (ft.nodes.node v).width;
        values = λ row. values_of v row _ _ _ _ (node_at p v) x t.parts i (ft.nodes.node v).width;
        many = m;
        range = λ q. range_of x.kind (get_or l.act v 0) (get_or l.node v 0) x.sort (count_at ranges.count t v) x (node_sort (node_at p v)) (subst (λ (k : ℕ). k < 2) (sym i.kind) q)
            (sort_within types (node_at p v) o) i.sort (count_of p ws types g t inputs ranges ra v b);
        part = λ k q.
            let c : x.first + k < t.placed = omega (arith, (ft.nodes.node v).parts, m) in
            subst (λ (y : PartLine). IsPart p y (get_or (parts v (node_at p v)) k noTreePart).node (get_or (parts v (node_at p v)) k noTreePart).tree) (sym (part_line_lem p.size ws types ranges g t l d len zeros ty fr fg ft some small (x.first + k) c))
            (part_is p l starts ranges.top types top_is g.count t.count inputs.count counted (get_or t.parts (x.first + k) no_part) (get_or (parts v (node_at p v)) k noTreePart).node (get_or (parts v (node_at p v)) k noTreePart).tree
            (part_sorted types v (node_at p v) o k q) (ft.parts.part (x.first + k)) (inputs.tree.within (x.first + k))
            (ap head_in (sym (get_or-drop x.first t.parts k no_part)) ∙ heads_at (drop x.first t.parts) x.many (parts v (node_at p v)) i.parts k q));
      })

  is_of : Is p W
  is_of =
      record {
        size = size_at p.size ws types ranges g t l d len zeros ty fr fg ft some small;
        element = some;
        ranges = inputs.ranged;
        relations = relations_at p.size ws types ranges g t l d len zeros ty fr fg ft some small ∙ inputs.count;
        nodes = nodes_at p.size ws types ranges g t l d len zeros ty fr fg ft some small ∙ counted;
        sets = λ r h. sets_at p.size ws types ranges g t l d len zeros ty fr fg ft some small r (omega (arith, inputs.count)) ∙ starts.set r h;
        relation = relation_of;
        acts = λ v h. acts_at p.size ws types ranges g t l d len zeros ty fr fg ft some small v (omega (arith, counted)) ∙ starts.act v h;
        node = node_of;
        ends = atoms_at p.size ws types ranges g t l d len zeros ty fr fg ft some small (length p.node_list) (omega (arith, counted)) ∙ starts.node (length p.node_list) (omega arith);
        every = inputs.every;
        root = subst (λ (y : PartLine). IsPart p y 0 p.root) (sym (root_line p.size ws types ranges g t l d len zeros ty fr fg ft some small))
            (part_is p l starts ranges.top types top_is g.count t.count inputs.count counted t.root 0 p.root inputs.sorted ft.root inputs.tree.top_within inputs.tree.top);
      }

pub filled : (n : ℕ) (ws : List ℕ) (types : ℕ) (ranges : Ranges) (g : Relations) (t : Nodes) (l : Layout) (d w : List ℕ) → length d ≡ table_length → Most d 0 → 0 < n → n ≤ 64 → RelationsFit g → TreeFits t → Small l number_limit → types ≤ 8 → RangesFit n ranges → RangesAre n ws types ranges
    → w ≡ table_of n ws types ranges g t l d → ((v : ℕ) → v < t.count → Most (node_numbers ranges.count t l v) (2 ^ 32))
    → ((i : ℕ) → i < t.placed → Most (part_numbers n ranges.top l (get_or t.parts i no_part)) (2 ^ 32)) → Most (part_numbers n ranges.top l t.root) (2 ^ 32) → Filled n ws types g t l w
unfolding table_of
filled n ws types ranges g t l d w len zeros some small fg ft sl ty fr ra e nm pm rm =
    subst (Filled n ws types g t l) (sym e)
    (record {
      fits = fits n ws types ranges g t l d len zeros ty fr fg ft some small sl nm pm rm;
      is = λ p i s. subst (λ (m : ℕ). Is p (table_of m ws types ranges g t l d)) (sym i.size) (is_of p ws types ranges g t l d len zeros ty (fit p i) fg ft (some_of p i) (small_of p i) (are p i) (of p i) s);
      ends = λ p i s. subst (λ (m : ℕ). (node_line (table_of m ws types ranges g t l d) (nodes_in (table_of m ws types ranges g t l d))).atoms + 3 * every_in (table_of m ws types ranges g t l d) ≡ atoms p) (sym i.size)
          (atoms_counted p _ (is_of p ws types ranges g t l d len zeros ty (fit p i) fg ft (some_of p i) (small_of p i) (are p i) (of p i) s));
    })
  where
    fit : (p : Problem) → Inputs p n ws types g t → RangesFit p.size ranges
    fit p i = subst (λ (m : ℕ). RangesFit m ranges) i.size fr

    are : (p : Problem) → Inputs p n ws types g t → RangesAre p.size ws types ranges
    are p i = subst (λ (m : ℕ). RangesAre m ws types ranges) i.size ra

    of : (p : Problem) → Inputs p n ws types g t → Inputs p p.size ws types g t
    of p i = subst (λ (m : ℕ). Inputs p m ws types g t) i.size i

    some_of : (p : Problem) → Inputs p n ws types g t → 0 < p.size
    some_of p i = subst (λ (m : ℕ). 0 < m) i.size some

    small_of : (p : Problem) → Inputs p n ws types g t → p.size ≤ 64
    small_of p i = subst (λ (m : ℕ). m ≤ 64) i.size small

-- the table after each part is filled
pub three_set : (d : List ℕ) (a b c : ℕ) → length (set (set (set d 0 a) 1 b) 2 c) ≡ length d
three_set d a b c = length-set (set (set d 0 a) 1 b) 2 c ∙ length-set (set d 0 a) 1 b ∙ length-set d 0 a

pub all_filled : (n : ℕ) (ws : List ℕ) (types : ℕ) (ranges : Ranges) (g : Relations) (t : Nodes) (l : Layout) (d x y z w : List ℕ) → x
    ≡ splice relations_place (relation_lines ranges.count g l) (set (set (set d 0 n) 1 g.count) 2 t.count) → y
    ≡ splice nodes_place (node_lines ranges.count t l) x
    → z ≡ splice root_place (part_numbers n ranges.top l t.root) (splice parts_place (part_lines n ranges.top t l) y) → w ≡ with_ranges ranges_place n ws types z → w ≡ table_of n ws types ranges g t l d
unfolding table_of
all_filled n ws types ranges g t l d x y z w a b c e =
    e ∙ ap (with_ranges ranges_place n ws types) (c ∙ ap (λ (u : List ℕ). splice root_place (part_numbers n ranges.top l t.root) (splice parts_place (part_lines n ranges.top t l) u)) (b ∙ ap (splice nodes_place (node_lines ranges.count t l)) a))
