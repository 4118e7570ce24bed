-- The numbers of lines as lists, and the laws of what writes them.
use Rattle.std.specs.Prelude.{◌≡◌, Bool, ◌||◌, List, [], ◌∷◌, ℕ, zero, suc, ◌+◌, ◌-◌, ◌*◌, ◌/◌, ◌^◌, ◌≤◌, ◌<◌, eqb, ltb, length, get_or, take, set, replicate, if◌then◌else◌}
use Rattle.std.proofs.Math.Path.{refl, ap}
use Rattle.std.proofs.Common.{sym, ap₂, subst, ◌∙◌, add-one, get_or-set_same, get_or-set_other, zero-add}
use Rattle.std.proofs.Math.Bool.{true, false}
use native.Mathlib.Omega.{arith}
use Rattle.std.proofs.Math.Decide.{dec_lt}
use borrow.Author.Tests.{lt-ltb, le-ltb, eq-eqb, ne_eqb, ltb-true, ltb-false}
use Rattle.definitions.specs.Lists.{any}
use Rattle.definitions.specs.Problem.Atoms.{words_for, problem_of}
use Rattle.definitions.specs.Problem.Truth.{Case}
use Rattle.laws.specs.Reader.{Accepted}
use Rattle.rule_nodes.specs.Tables.{no_part, no_node, PartFits, Fits}
use Rattle.rule_nodes.specs.declared.PartRow.{PartRow}
use Rattle.rule_nodes.specs.declared.NodeRow.{NodeRow}
use Rattle.rule_nodes.specs.declared.Nodes.{Nodes}
use Rattle.rows.specs.Values.{Most, value_in, weight_of}
use Rattle.problem_layout.specs.declared.Relations.{Relations}
use Rattle.problem_layout.specs.declared.Ranges.{Ranges}
use Rattle.problem_layout.specs.Laid.{range_by, RangesAre, count_at, Inputs}
use Rattle.problem_layout.specs.LaidLaws.{pow_most}
use Rattle.definitions.specs.Problem.Actions.{Values}
use Rattle.problem_table.specs.declared.PartLine.{PartLine}
use Rattle.problem_layout.specs.Filled.{splice, tab, with_ranges}
use Rattle.problem_layout.specs.RangeLaws.{length_ranges, before_ranges, in_ranges, ranges_low}
use Rattle.problem_layout.specs.SpliceLaws.{each_most, ZeroFrom, length_splice, read_in, read_before, read_from, zeros_after, length_tab, tab_at, tab_next, tab_most}
use Rattle.eval_rule.specs.Lines.{ranges_place, range_place, lines_length, node_in, part_in, line_in}
use Rattle.eval_rule.specs.declared.NodeAt.{NodeAt}
use Rattle.eval_table.specs.Lined.{fact_words, choose_words, fact_sum, choose_sum, source_of, first_bit, bit_of, part_of, line_of, turns_of, own_line, block_line, node_of, Lined}

-- the lines are those of a case's rule, for a value of its `every` relation
pub record LinesOf (c : Case) (n value : ℕ) (w : List ℕ) : Type 0 where
  pub relations : Relations
  pub nodes : Nodes
  pub some : 0 < n
  pub size : n ≤ 64
  pub members : List ℕ
  pub types : ℕ
  pub ranges : Ranges
  pub counted : RangesAre n members types ranges
  pub inputs : Inputs (problem_of c) n members types relations nodes
  pub fits : Fits nodes
  pub lined : Lined n value members types ranges.count relations nodes w

-- ... of some accepted one
pub record OfCase (n : ℕ) (w : List ℕ) : Type 0 where
  pub case : Case
  pub accepted : Accepted case
  pub value : ℕ
  pub lines : LinesOf case n value w

abbrev pub node_numbers : NodeAt → List ℕ
node_numbers x = x.kind ∷ x.level ∷ x.join ∷ x.first ∷ x.many ∷ x.range ∷ x.count ∷ []

unfoldable pub part_numbers : (n value : ℕ) → (kinds bits : List ℕ) → PartRow → List ℕ
part_numbers n value kinds bits q =
    let w = weight_of n (take q.width q.levels) in
    if ltb q.tag 2 then suc q.tag ∷ source_of value q.which (get_or kinds q.which 0) ∷ get_or bits q.which 0 ∷ w 0 ∷ w 1 ∷ w 2 ∷ w 3 ∷ []
    else 0 ∷ q.which ∷ 0 ∷ w 0 ∷ w 1 ∷ w 2 ∷ w 3 ∷ []

-- the line of a part as a list
abbrev pub part_list : (n value : ℕ) → Relations → PartRow → List ℕ
part_list n value g q =
    (part_of value g q).tag ∷ (part_of value g q).which ∷ (line_of n g q).start ∷ get_or (line_of n g q).weights 0 0 ∷ get_or (line_of n g q).weights 1 0 ∷ get_or (line_of n g q).weights 2 0 ∷ get_or (line_of n g q).weights 3 0 ∷ []

abbrev pub node_lines : List ℕ → Nodes → ℕ → List ℕ
node_lines counts t v = node_numbers (node_of (count_at counts t v) t (get_or t.rows v no_node))

abbrev pub part_lines : (n value : ℕ) → Relations → Nodes → ℕ → List ℕ
part_lines n value g t i = part_list n value g (get_or t.parts i no_part)

-- the first bit of each relation
abbrev pub Bits : ℕ → Relations → List ℕ → Type 0
Bits n g bits = (r : ℕ) → r < 18 → get_or bits r 0 ≡ bit_of n g r

-- ---- returns
pub bit_low : (r kind f p : ℕ) → r < 5 → 0 ≡ first_bit r kind f p
unfolding first_bit
bit_low r kind f p h = rw (lt-ltb r 5 h) refl

pub bit_fact : (r kind f p : ℕ) → 5 ≤ r → kind ≡ 0 → 64 * f ≡ first_bit r kind f p
unfolding first_bit
bit_fact r kind f p h e = rw (le-ltb r 5 h, e) refl

pub bit_every : (r kind f p : ℕ) → 5 ≤ r → kind ≡ 6 → 0 ≡ first_bit r kind f p
unfolding first_bit
bit_every r kind f p h e = rw (le-ltb r 5 h, e) refl

pub bit_choose : (r kind f p : ℕ) → 5 ≤ r → (kind ≡ 0 → ⊥) → (kind ≡ 6 → ⊥) → 64 * p ≡ first_bit r kind f p
unfolding first_bit
bit_choose r kind f p h e u = rw (le-ltb r 5 h, ne_eqb kind 0 e, ne_eqb kind 6 u) refl

pub fact_low : (r w : ℕ) → r < 5 → 0 ≡ fact_words r w
unfolding fact_words
fact_low r w h = rw (lt-ltb r 5 h) refl

pub fact_high : (r w : ℕ) → 5 ≤ r → w ≡ fact_words r w
unfolding fact_words
fact_high r w h = rw (le-ltb r 5 h) refl

pub choose_none : (k w : ℕ) → k ≡ 0 → 0 ≡ choose_words k w
unfolding choose_words
choose_none k w h = rw h refl

pub choose_every : (k w : ℕ) → k ≡ 6 → 0 ≡ choose_words k w
unfolding choose_words
choose_every k w h = rw h refl

pub choose_all : (k w : ℕ) → (k ≡ 0 → ⊥) → (k ≡ 6 → ⊥) → w ≡ choose_words k w
unfolding choose_words
choose_all k w h u = rw (ne_eqb k 0 h, ne_eqb k 6 u) refl

module _ (value r k : ℕ) where
  pub source_low : r < 5 → r ≡ source_of value r k
  unfolding source_of
  source_low h = rw (lt-ltb r 5 h) refl

  pub source_fact : 5 ≤ r → k ≡ 0 → 5 ≡ source_of value r k
  unfolding source_of
  source_fact h e = rw (le-ltb r 5 h, e) refl

  pub source_every : 5 ≤ r → k ≡ 6 → 7 + value ≡ source_of value r k
  unfolding source_of
  source_every h e = rw (le-ltb r 5 h, e) refl

  pub source_choose : 5 ≤ r → (k ≡ 0 → ⊥) → (k ≡ 6 → ⊥) → 6 ≡ source_of value r k
  unfolding source_of
  source_choose h e u = rw (le-ltb r 5 h, ne_eqb k 0 e, ne_eqb k 6 u) refl

pub seven_most : (a b c d e f g : ℕ) → a ≤ 2 ^ 32 → b ≤ 2 ^ 32 → c ≤ 2 ^ 32 → d ≤ 2 ^ 32 → e ≤ 2 ^ 32 → f ≤ 2 ^ 32 → g ≤ 2 ^ 32
    → Most (a ∷ b ∷ c ∷ d ∷ e ∷ f ∷ g ∷ []) (2 ^ 32)
seven_most a b c d e f g h i j k l m o = each_most (2 ^ 32) (a ∷ b ∷ c ∷ d ∷ e ∷ f ∷ g ∷ []) (h, (i, (j, (k, (l, (m, (o, tt)))))))

-- a byte as a number
abbrev pub Wide : ℕ → ℕ → Type 0
Wide k byte = (k ≡ byte) × (k < 256)

-- where the range of a sort starts
abbrev pub Starts : ℕ → ℕ → Type 0
Starts r sort = (r ≡ range_place sort) × (r ≤ 2 ^ 32)

-- a list is the line, and its numbers are small
abbrev pub IsLine : List ℕ → NodeAt → Type 0
IsLine r x = (r ≡ node_numbers x) × Most r (2 ^ 32)

module _ (turns : ℕ) (few : turns ≤ 64) where
  pub own_quantifier : (x : NodeRow) (k l f m r : ℕ) → Wide k x.kind → Wide l x.level → Wide f x.first → Wide m x.many → Starts r x.sort → k < 2
      → IsLine (k ∷ l ∷ 1 ∷ f ∷ m ∷ r ∷ turns ∷ []) (own_line turns x)
  unfolding own_line
  own_quantifier x k l f m r a b c d s h = (
    let z : x.kind < 2 = omega arith in rw (lt-ltb x.kind 2 z, a.0, b.0, c.0, d.0, s.0) refl,
    seven_most k l 1 f m r turns (omega arith) (omega arith) (omega arith) (omega arith) (omega arith) (omega arith) (omega arith),
  )

  pub own_join : (x : NodeRow) (k f m r : ℕ) → Wide k x.kind → Wide f x.first → Wide m x.many → Starts r x.sort → 2 ≤ k
      → IsLine (2 ∷ 0 ∷ (k - 2) ∷ f ∷ m ∷ r ∷ 1 ∷ []) (own_line turns x)
  unfolding own_line
  own_join x k f m r a c d s h = (
    let z : 2 ≤ x.kind = omega arith in rw (le-ltb x.kind 2 z, a.0, c.0, d.0, s.0) refl,
    seven_most 2 0 (k - 2) f m r 1 (omega arith) (omega arith) (omega arith) (omega arith) (omega arith) (omega arith) (omega arith),
  )

  module _ (x : NodeRow) (q : PartRow) (y : NodeRow) where
    pub block_join : (r : List ℕ) → 2 ≤ x.kind → IsLine r (own_line turns x) → IsLine r (block_line turns x q y)
    unfolding block_line
    block_join r h e = (rw (le-ltb x.kind 2 h) e.0, e.1)

    pub block_literal : (r : List ℕ) → x.kind < 2 → q.tag < 2 → IsLine r (own_line turns x) → IsLine r (block_line turns x q y)
    unfolding block_line
    block_literal r h k e = (rw (lt-ltb x.kind 2 h, lt-ltb q.tag 2 k) e.0, e.1)

    pub block_quantifier : (r : List ℕ) → x.kind < 2 → 2 ≤ q.tag → y.kind < 2 → IsLine r (own_line turns x) → IsLine r (block_line turns x q y)
    unfolding block_line
    block_quantifier r h k m e = (rw (lt-ltb x.kind 2 h, le-ltb q.tag 2 k, lt-ltb y.kind 2 m) e.0, e.1)

    pub block_fused : (k l j f m r : ℕ) → Wide k x.kind → Wide l x.level → Wide j y.kind → Wide f y.first → Wide m y.many → Starts r x.sort → k < 2 → 2 ≤ q.tag → 2 ≤ j
        → IsLine (k ∷ l ∷ (j - 2) ∷ f ∷ m ∷ r ∷ turns ∷ []) (block_line turns x q y)
    unfolding block_line
    block_fused k l j f m r a b c d e s h t z = (
      let u : x.kind < 2 = omega arith in
          let o : 2 ≤ y.kind = omega arith in
          rw (lt-ltb x.kind 2 u, le-ltb q.tag 2 t, le-ltb y.kind 2 o, a.0, b.0, c.0, d.0, e.0, s.0) refl,
      seven_most k l (j - 2) f m r turns (omega arith) (omega arith) (omega arith) (omega arith) (omega arith) (omega arith) (omega arith),
    )

beyond : (l : List ℕ) (i : ℕ) → length l ≤ i → get_or l i 0 ≡ 0
beyond [] i h = refl
beyond (x ∷ l) zero h = absurd (omega arith)
beyond (x ∷ l) (suc i) h = beyond l i (omega arith)

past : (l : List PartRow) (i : ℕ) → length l ≤ i → get_or l i no_part ≡ no_part
past [] i h = refl
past (x ∷ l) zero h = absurd (omega arith)
past (x ∷ l) (suc i) h = past l i (omega arith)

-- ---- whether a level is among the first of some
some_level : (level w i : ℕ) (ls : List ℕ) → i < w → i < length ls → get_or ls i 0 ≡ level → any (eqb level) (take w ls) ≡ true
unfolding any
some_level level zero i ls h l e = absurd (omega arith)
some_level level (suc w) i [] h l e = absurd (omega arith)
some_level level (suc w) zero (x ∷ ls) h l e = rw (eq-eqb level x (sym e)) refl
some_level level (suc w) (suc i) (x ∷ ls) h l e = rw (some_level level w i ls (omega arith) (omega arith) e) (by_test (eqb level x))
  where
    by_test : (b : Bool) → (b || true) ≡ true
    by_test true = refl
    by_test false = refl

no_level : (level w : ℕ) (ls : List ℕ) → ((k : ℕ) → k < w → get_or ls k 0 ≡ level → ⊥) → any (eqb level) (take w ls) ≡ false
unfolding any
no_level level zero ls h = refl
no_level level (suc w) [] h = refl
no_level level (suc w) (x ∷ ls) h = rw (ne_eqb level x (λ e. h 0 (omega arith) (sym e))) (no_level level w ls (λ k l. h (suc k) (omega arith)))

module _ (n level : ℕ) (q : PartRow) (w : ℕ) (width : Wide w q.width) where
  pub turns_all : (i : ℕ) → i < w → i < length q.levels → get_or q.levels i 0 ≡ level → n ≡ turns_of n level q
  unfolding turns_of
  turns_all i h l e = let k : i < q.width = omega arith in rw (some_level level q.width i q.levels k l e) refl

  pub turns_one : ((k : ℕ) → k < w → get_or q.levels k 0 ≡ level → ⊥) → 1 ≡ turns_of n level q
  unfolding turns_of
  turns_one h = rw (no_level level q.width q.levels (λ k l. h k (omega arith))) refl

module _ (n : ℕ) (t : Nodes) (fits : Fits t) (x : NodeRow) where
  pub node_within : (r : List ℕ) (at which turns : ℕ) → at ≡ x.first → which ≡ (get_or t.parts at no_part).which → turns ≡ turns_of n x.level (get_or t.parts at no_part)
      → IsLine r (block_line turns x (get_or t.parts at no_part) (get_or t.rows which no_node)) → IsLine r (node_of n t x)
  unfolding node_of
  node_within r at which turns a b d e = (e.0 ∙ rw (d, b, a) refl, e.1)

  pub node_past : (r : List ℕ) → 64 ≤ x.first → IsLine r (own_line 1 x) → IsLine r (node_of n t x)
  unfolding node_of block_line turns_of any
  node_past r h e = (
    e.0 ∙ ap node_numbers (sym (ap (λ (q : PartRow). block_line (turns_of n x.level q) x q (get_or t.rows q.which no_node)) (past t.parts x.first (omega (arith, fits.parts.parts_length))) ∙ by_test (ltb x.kind 2))),
    e.1,
  )
    where
      by_test : (b : Bool) → (if b then own_line 1 x else own_line 1 x) ≡ own_line 1 x
      by_test true = refl
      by_test false = refl

  pub which_small : (i : ℕ) → (get_or t.parts i no_part).which < 64
  which_small i = let f = fits.parts.part i in by_test (ltb (get_or t.parts i no_part).tag 2) refl f
    where
      by_test : (b : Bool) → ltb (get_or t.parts i no_part).tag 2 ≡ b → PartFits (get_or t.parts i no_part) → (get_or t.parts i no_part).which < 64
      by_test true e f = omega (arith, f.relation (ltb-true (get_or t.parts i no_part).tag 2 e))
      by_test false e f = f.node (ltb-false (get_or t.parts i no_part).tag 2 e)

-- ---- the loop over the relations
pub words_small : (n k p : ℕ) → n ≤ 64 → k ≤ 4 → p ≡ n ^ k → (p + 63) / 64 ≤ 262145
words_small n k p h l e = omega (arith, e, pow_most n k h l)

pub fact_next : (n : ℕ) (g : Relations) (r f c p : ℕ) → f ≡ fact_sum n g r → p ≡ n ^ get_or g.arity r 0 → c ≡ fact_words r ((p + 63) / 64) → f + c ≡ fact_sum n g (r + 1)
unfolding fact_sum words_for
fact_next n g r f c p a b d = rw (add-one, a, d, b) refl

pub choose_next : (n : ℕ) (g : Relations) (r f c p : ℕ) → f ≡ choose_sum n g r → p ≡ n ^ get_or g.arity r 0 → c ≡ choose_words (get_or g.kind r 0) ((p + 63) / 64) → f + c ≡ choose_sum n g (r + 1)
unfolding choose_sum words_for
choose_next n g r f c p a b d = rw (add-one, a, d, b) refl

pub bits_next : (n : ℕ) (g : Relations) (bits : List ℕ) (r b f p : ℕ) → r < length bits → f ≡ fact_sum n g r → p ≡ choose_sum n g r → b ≡ first_bit r (get_or g.kind r 0) f p
    → ((u : ℕ) → u < r → get_or bits u 0 ≡ bit_of n g u) → (u : ℕ) → u < r + 1 → get_or (set bits r b) u 0 ≡ bit_of n g u
bits_next n g bits r b f p l a q e h u k = from_this (dec_lt u r)
  where
    from_this : Dec (u < r) → get_or (set bits r b) u 0 ≡ bit_of n g u
    from_this (yes z) = get_or-set_other bits r u b 0 (λ (x : u ≡ r). omega arith) ∙ h u z
    from_this (no z) =
        let x : u ≡ r = omega arith in
        rw x (get_or-set_same bits r b 0 l ∙ e ∙ ap₂ (first_bit r (get_or g.kind r 0)) a q)

-- ---- a part's line
pub part_literal : (n value : ℕ) (kinds bits : List ℕ) (q : PartRow) (a b d t s : ℕ) (w : List ℕ) → q.tag < 2 → (a ≡ q.which) × (a < 256) → (b ≡ q.width) × (b < 256) → (t ≡ q.tag) × (t < 256) → (s ≡ source_of value a (get_or kinds a 0)) × (s ≤ 262)
    → value_in w ≡ weight_of n (take b q.levels) → Most w (65 ^ 4) → Most bits (2 ^ 32)
    → ((t + 1) ∷ s ∷ get_or bits a 0 ∷ get_or w 0 0 ∷ get_or w 1 0 ∷ get_or w 2 0 ∷ get_or w 3 0 ∷ [] ≡ part_numbers n value kinds bits q) × Most ((t + 1) ∷ s ∷ get_or bits a 0 ∷ get_or w 0 0 ∷ get_or w 1 0 ∷ get_or w 2 0 ∷ get_or w 3 0 ∷ []) (2 ^ 32)
unfolding part_numbers value_in
part_literal n value kinds bits q a b d t s w h e f i j v m o =
    let z : (l : ℕ) → get_or w l 0 ≡ weight_of n (take q.width q.levels) l = λ l. ap (λ (x : Values). x l) v ∙ ap (λ (k : ℕ). weight_of n (take k q.levels) l) f.0 in (
      rw (lt-ltb q.tag 2 h, z 0, z 1, z 2, z 3, j.0, e.0, i.0, add-one) refl,
      each_most (2 ^ 32) ((t + 1) ∷ s ∷ get_or bits a 0 ∷ get_or w 0 0 ∷ get_or w 1 0 ∷ get_or w 2 0 ∷ get_or w 3 0 ∷ []) (omega arith, (omega arith, (o a, (omega (arith, m 0), (omega (arith, m 1), (omega (arith, m 2), (omega (arith, m 3), tt))))))),
    )

pub part_node : (n value : ℕ) (kinds bits : List ℕ) (q : PartRow) (a b : ℕ) (w : List ℕ) → 2 ≤ q.tag → Wide a q.which → Wide b q.width → value_in w ≡ weight_of n (take b q.levels) → Most w (65 ^ 4)
    → (0 ∷ a ∷ 0 ∷ get_or w 0 0 ∷ get_or w 1 0 ∷ get_or w 2 0 ∷ get_or w 3 0 ∷ [] ≡ part_numbers n value kinds bits q) × Most (0 ∷ a ∷ 0 ∷ get_or w 0 0 ∷ get_or w 1 0 ∷ get_or w 2 0 ∷ get_or w 3 0 ∷ []) (2 ^ 32)
unfolding part_numbers value_in
part_node n value kinds bits q a b w h e f v m =
    let z : (l : ℕ) → get_or w l 0 ≡ weight_of n (take q.width q.levels) l = λ l. ap (λ (x : Values). x l) v ∙ ap (λ (k : ℕ). weight_of n (take k q.levels) l) f.0 in (
      rw (le-ltb q.tag 2 h, z 0, z 1, z 2, z 3, e.0) refl,
      seven_most 0 a 0 (get_or w 0 0) (get_or w 1 0) (get_or w 2 0) (get_or w 3 0) (omega arith) (omega arith) (omega arith) (omega (arith, m 0)) (omega (arith, m 1)) (omega (arith, m 2)) (omega (arith, m 3)),
    )

pub sums_none : (n : ℕ) (g : Relations) → (0 ≡ fact_sum n g 0) × (0 ≡ choose_sum n g 0)
unfolding fact_sum choose_sum
sums_none n g = (refl, refl)

pub zeros_most : (k : ℕ) → Most (replicate k 0) (2 ^ 32)
zeros_most zero i = omega arith
zeros_most (suc k) zero = omega arith
zeros_most (suc k) (suc i) = zeros_most k i

pub part_list_lem : (n value : ℕ) (g : Relations) (bits line : List ℕ) (q : PartRow) → Bits n g bits → PartFits q → (line ≡ part_numbers n value g.kind bits q) × Most line (2 ^ 32) → (line ≡ part_list n value g q) × Most line (2 ^ 32)
unfolding part_numbers part_of line_of
part_list_lem n value g bits line q b f e = (e.0 ∙ by_test (ltb q.tag 2) refl, e.1)
  where
    by_test : (z : Bool) → ltb q.tag 2 ≡ z → part_numbers n value g.kind bits q ≡ part_list n value g q
    by_test true k = rw (k, b q.which (f.relation (ltb-true q.tag 2 k))) refl
    by_test false k = rw k refl

-- ---- the turns of filling
pub node_turn : (counts : List ℕ) (t : Nodes) (w d z : List ℕ) (v : ℕ) (line : List ℕ) → length d ≡ lines_length → v < 64 → line ≡ node_lines counts t v
    → w ≡ splice 0 (tab (node_lines counts t) v) d → z ≡ splice (7 * v) line w → z ≡ splice 0 (tab (node_lines counts t) (v + 1)) d
node_turn counts t w d z v line len h a b e =
    tab_next (node_lines counts t) 7 (λ i. refl) 0 v line w d z (omega arith) a b (e ∙ ap (λ (k : ℕ). splice k line w) (sym (zero-add (7 * v))))

pub part_turn : (n value : ℕ) (g : Relations) (t : Nodes) (w d z : List ℕ) (i : ℕ) (line : List ℕ) → length d ≡ lines_length → i < 64 → line ≡ part_lines n value g t i → w ≡ splice 448 (tab (part_lines n value g t) i) d → z ≡ splice (448 + 7 * i) line w → z ≡ splice 448 (tab (part_lines n value g t) (i + 1)) d
part_turn n value g t w d z i line len h a b e = tab_next (part_lines n value g t) 7 (λ i. refl) 448 i line w d z (omega arith) a b e

-- ---- what stands where
module _ (n value : ℕ) (members : List ℕ) (k : ℕ) (counts : List ℕ) (g : Relations) (t : Nodes) (d : List ℕ) (len : length d ≡ lines_length) (zeros : Most d 0) (few : t.count ≤ 64) (parts : t.placed ≤ 64) (some : 0 < n) (size : n ≤ 64) (types : k ≤ 8)
    (nm : (v : ℕ) → v < t.count → Most (node_lines counts t v) (2 ^ 32)) (pm : (i : ℕ) → i < t.placed → Most (part_lines n value g t i) (2 ^ 32)) (rm : Most (part_list n value g t.root) (2 ^ 32)) where
  abbrev N : List ℕ
  N = tab (node_lines counts t) t.count

  abbrev P : List ℕ
  P = tab (part_lines n value g t) t.placed

  abbrev Q : List ℕ
  Q = part_list n value g t.root

  abbrev T₁ : List ℕ
  T₁ = splice 0 N d

  abbrev T₂ : List ℕ
  T₂ = splice 448 P T₁

  abbrev T₃ : List ℕ
  T₃ = splice 896 Q T₂

  abbrev T : List ℕ
  T = with_ranges ranges_place n members k T₃

  length_N : length N ≡ 7 * t.count
  length_N = length_tab (node_lines counts t) 7 (λ i. refl) t.count

  length_P : length P ≡ 7 * t.placed
  length_P = length_tab (part_lines n value g t) 7 (λ i. refl) t.placed

  zero_d : ZeroFrom 0 d
  zero_d i h = omega (arith, zeros i)

  room₁ : 0 + length N ≤ length d
  room₁ = omega (arith, length_N, len)

  length_T₁ : length T₁ ≡ length d
  length_T₁ = length_splice 0 N d room₁

  room₂ : 448 + length P ≤ length T₁
  room₂ = omega (arith, length_P, length_T₁, len)

  length_T₂ : length T₂ ≡ length T₁
  length_T₂ = length_splice 448 P T₁ room₂

  room₃ : 896 + length Q ≤ length T₂
  room₃ = omega (arith, length_T₂, length_T₁, len)

  length_T₃ : length T₃ ≡ lines_length
  length_T₃ = length_splice 896 Q T₂ room₃ ∙ length_T₂ ∙ length_T₁ ∙ len

  room₄ : ranges_place + 64 * k + 64 ≤ length T₃
  room₄ = omega (arith, length_T₃)

  zero_T₁ : ZeroFrom 448 T₁
  zero_T₁ = zeros_after 0 N d room₁ 448 (omega (arith, length_N)) zero_d

  in_N : (j : ℕ) → j < 448 → get_or T j 0 ≡ get_or N j 0
  in_N j h = before_ranges ranges_place n members size k T₃ room₄ j (omega arith) ∙ read_before 896 Q T₂ room₃ j (omega arith) ∙ read_before 448 P T₁ room₂ j h ∙ ap (λ (k : ℕ). get_or T₁ k 0) (sym (zero-add j)) ∙ read_from 0 N d room₁ zero_d j

  in_P : (j : ℕ) → j < 448 → get_or T (448 + j) 0 ≡ get_or P j 0
  in_P j h = before_ranges ranges_place n members size k T₃ room₄ (448 + j) (omega arith) ∙ read_before 896 Q T₂ room₃ (448 + j) (omega arith) ∙ read_from 448 P T₁ room₂ zero_T₁ j

  in_Q : (j : ℕ) → j < 7 → get_or T (896 + j) 0 ≡ get_or Q j 0
  in_Q j h = before_ranges ranges_place n members size k T₃ room₄ (896 + j) (omega arith) ∙ read_in 896 Q T₂ room₃ j h

  zero_T₃ : ZeroFrom ranges_place T₃
  zero_T₃ = zeros_after 896 Q T₂ room₃ ranges_place (omega arith) (zeros_after 448 P T₁ room₂ 896 (omega (arith, length_P)) zero_T₁)

  in_M : (s i : ℕ) → s ≤ k → i < length (range_by n members s) → get_or T (range_place s + i) 0 ≡ get_or (range_by n members s) i 0
  in_M = in_ranges ranges_place n members size k T₃ room₄

  low_M : (i : ℕ) → ranges_place ≤ i → get_or T i 0 < n
  low_M = ranges_low ranges_place n members size k T₃ room₄ some zero_T₃

  node_at_lem : (v j i : ℕ) → v < t.count → j < 7 → i ≡ 7 * v + j → get_or T i 0 ≡ get_or (node_lines counts t v) j 0
  node_at_lem v j i h k e = ap (λ (x : ℕ). get_or T x 0) e ∙ in_N (7 * v + j) (omega arith) ∙ tab_at (node_lines counts t) 7 (λ i. refl) t.count v j h k

  past_N : (i : ℕ) → 7 * t.count ≤ i → i < 448 → get_or T i 0 ≡ 0
  past_N i h k = in_N i k ∙ beyond N i (omega (arith, length_N))

  part_at : (k j i : ℕ) → k < t.placed → j < 7 → i ≡ 448 + (7 * k + j) → get_or T i 0 ≡ get_or (part_lines n value g t k) j 0
  part_at k j i h q e = ap (λ (x : ℕ). get_or T x 0) e ∙ in_P (7 * k + j) (omega arith) ∙ tab_at (part_lines n value g t) 7 (λ i. refl) t.placed k j h q

  root_at : (j i : ℕ) → j < 7 → i ≡ 896 + j → get_or T i 0 ≡ get_or Q j 0
  root_at j i h e = ap (λ (x : ℕ). get_or T x 0) e ∙ in_Q j h

  entry : (i : ℕ) → get_or T i 0 ≤ 2 ^ 32
  entry i = from_this (dec_lt i 448) (dec_lt i 896) (dec_lt i 903)
    where
      from_this : Dec (i < 448) → Dec (i < 896) → Dec (i < 903) → get_or T i 0 ≤ 2 ^ 32
      from_this (yes h) q r = rw (in_N i h) (tab_most (node_lines counts t) t.count (2 ^ 32) nm i)
      from_this (no h) (yes q) r = let e : i ≡ 448 + (i - 448) = omega arith in rw e (rw (in_P (i - 448) (omega arith)) (tab_most (part_lines n value g t) t.placed (2 ^ 32) pm (i - 448)))
      from_this (no h) (no q) (yes r) = let e : i ≡ 896 + (i - 896) = omega arith in rw e (rw (in_Q (i - 896) (omega arith)) (rm (i - 896)))
      from_this (no h) (no q) (no r) = omega (arith, low_M i (omega arith))

  four : (ws : List ℕ) → length ws ≡ 4 → get_or ws 0 0 ∷ get_or ws 1 0 ∷ get_or ws 2 0 ∷ get_or ws 3 0 ∷ [] ≡ ws
  four (a ∷ b ∷ c ∷ e ∷ []) h = refl
  four [] h = absurd (omega arith)
  four (a ∷ []) h = absurd (omega arith)
  four (a ∷ b ∷ []) h = absurd (omega arith)
  four (a ∷ b ∷ c ∷ []) h = absurd (omega arith)
  four (a ∷ b ∷ c ∷ e ∷ f ∷ ws) h = absurd (omega arith)

  four_weights : (q : PartRow) → length (line_of n g q).weights ≡ 4
  unfolding line_of
  four_weights q = refl

  same_line : (q : PartRow) (l : PartLine) → l ≡ record { start = (line_of n g q).start; weights = get_or (line_of n g q).weights 0 0 ∷ get_or (line_of n g q).weights 1 0 ∷ get_or (line_of n g q).weights 2 0 ∷ get_or (line_of n g q).weights 3 0 ∷ [] } → l ≡ line_of n g q
  same_line q l e = e ∙ ap (λ (ws : List ℕ). record { start = (line_of n g q).start; weights = ws }) (four (line_of n g q).weights (four_weights q))

  pub lined : Lined n value members k counts g t T
  unfolding node_in part_in line_in
  lined = record {
    whole = length_ranges ranges_place n members size k T₃ room₄ ∙ length_T₃;
    range = in_M;
    low = low_M;
    entry = entry;
    node =
        λ v h. rw (
          node_at_lem v 0 (7 * v) h (omega arith) (omega arith),
          node_at_lem v 1 (7 * v + 1) h (omega arith) (omega arith),
          node_at_lem v 2 (7 * v + 2) h
              (omega arith) (omega arith),
          node_at_lem v 3 (7 * v + 3) h (omega arith) (omega arith),
          node_at_lem v 4 (7 * v + 4) h (omega arith) (omega arith),
          node_at_lem v 5 (7 * v + 5) h (omega arith) (omega arith),
          node_at_lem v 6 (7 * v + 6) h (omega arith) (omega arith),
        ) refl;
    rest =
        λ v h l. rw (
          past_N (7 * v) (omega arith) (omega arith),
          past_N (7 * v + 1) (omega arith) (omega arith),
          past_N (7 * v + 2) (omega arith)
              (omega arith),
          past_N (7 * v + 3) (omega arith) (omega arith),
          past_N (7 * v + 4) (omega arith) (omega arith),
          past_N (7 * v + 5)
              (omega arith) (omega arith),
          past_N (7 * v + 6) (omega arith) (omega arith),
        ) refl;
    part = λ i h. (
      rw (part_at i 0 (448 + 7 * i) h (omega arith) (omega arith), part_at i 1 (448 + 7 * i + 1) h (omega arith) (omega arith)) refl,
      same_line (get_or t.parts i no_part) _ (rw (
        part_at i 2 (448 + 7 * i + 2) h (omega arith) (omega arith),
        part_at i 3 (448 + 7 * i + 3) h
            (omega arith) (omega arith),
        part_at i 4 (448 + 7 * i + 4) h (omega arith) (omega arith),
        part_at i 5 (448 + 7 * i + 5) h (omega arith)
            (omega arith),
        part_at i 6 (448 + 7 * i + 6) h (omega arith) (omega arith),
      ) refl),
    );
    top = (
      rw (root_at 0 (448 + 7 * 64) (omega arith) (omega arith), root_at 1 (448 + 7 * 64 + 1) (omega arith) (omega arith)) refl,
      same_line t.root _ (rw (
        root_at 2 (448 + 7 * 64 + 2) (omega arith) (omega arith),
        root_at 3 (448 + 7 * 64 + 3) (omega arith) (omega arith),
        root_at 4 (448 + 7 * 64 + 4) (omega arith) (omega arith),
        root_at 5 (448 + 7 * 64 + 5) (omega arith) (omega arith),
        root_at 6
            (448 + 7 * 64 + 6) (omega arith) (omega arith),
      ) refl),
    );
  }

pub all_lined : (n value : ℕ) (members : List ℕ) (k : ℕ) (counts : List ℕ) (g : Relations) (t : Nodes) (d x y z : List ℕ) → length d ≡ lines_length → Most d 0 → t.count ≤ 64 → t.placed ≤ 64 → 0 < n → n ≤ 64 → k ≤ 8
    → x ≡ splice 0 (tab (node_lines counts t) t.count) d → ((v : ℕ) → v < t.count → Most (node_lines counts t v) (2 ^ 32))
    → y ≡ splice 896 (part_list n value g t.root) (splice 448 (tab (part_lines n value g t) t.placed) x)
    → ((i : ℕ) → i < t.placed → Most (part_lines n value g t i) (2 ^ 32)) → Most (part_list n value g t.root) (2 ^ 32) → z ≡ with_ranges ranges_place n members k y → Lined n value members k counts g t z
all_lined n value members k counts g t d x y z len zeros few parts some size types e nm f pm rm h =
    subst (Lined n value members k counts g t)
    (sym (h ∙ ap (with_ranges ranges_place n members k) (f ∙ ap (λ (z : List ℕ). splice 896 (part_list n value g t.root) (splice 448 (tab (part_lines n value g t) t.placed) z)) e)))
    (lined n value members k counts g t d len zeros few parts some size types nm pm rm)
