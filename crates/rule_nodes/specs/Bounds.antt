-- What keeps the table's indexes in range holds of every part and every row that the pass leaves. Assumes nothing.
use Prim.Native.Nat.{ℕ, zero, suc, ◌+◌, ◌-◌, ◌≤◌, ◌<◌}
use Rattle.std.proofs.Common.{not-suc-le-zero, le_of_suc-le-suc, arith, ◌∙◌, ltb-true, ltb-false}
use Rattle.std.specs.Prelude.{◌≡◌, refl, Bool, get_or, set, replicate, ltb}
use Rattle.std.proofs.Math.Bool.{true, false}
use mathlib.Core.List.{List, [], ◌∷◌, ◌++◌}
use Rattle.std.proofs.Math.ListN.{length, length-append, length-take, take, drop}
use Rattle.std.proofs.lemmas.List.{length-replicate, get_or-take, get_or-drop}
use Rattle.std.proofs.lemmas.List.Edits.{sets}
use Rattle.definitions.specs.Problem.Tree.{Tree, Trees, leaf, forall_node, exists_node, and_node, or_node, end, ◌then◌, nodes, nodes_all, parts, parts_from, node_sort, free}
use Rattle.rule_nodes.specs.declared.Nodes.{Nodes}
use Rattle.rule_nodes.specs.Tables.{no_part, no_node, node_level, PartIn, PartFits, NodeFits, Fits}
use Rattle.rule_nodes.specs.declared.PartRow.{PartRow}
use Rattle.rule_nodes.specs.declared.NodeRow.{NodeRow}
use Rattle.rule_nodes.specs.Postorder.{inner, inner_all, pad, part_of, kids_of, heads, row_of, Small, AllSmall}
use Rattle.rule_nodes.specs.Pass.{Laid, blank, blank_part, blank_row}
use Rattle.rule_nodes.specs.Free.{pad_below, free_few, free_below}
use Rattle.rule_nodes.specs.Laid.{lay, laid, laid_all}
use Rattle.rule_nodes.specs.Shown.{Grows, laid_grows}

-- ---- an element of a lent part of a list
pub part_taken : {A : Type 0} (l : List A) (first many i : ℕ) (d : A) → i < length (take (first + many - first) (drop first l))
    → get_or (take (first + many - first) (drop first l)) i d ≡ get_or l (first + i) d
part_taken l first many i d h =
    get_or-take _ (drop first l) i d (omega (arith, length-take (first + many - first) (drop first l))) ∙ get_or-drop first l i d

-- ---- facts of every element
module _ {A : Type 0} (P : A → Type 0) (d : A) where
  unfoldable pub Each : List A → Type 0
  Each [] = Unit {0}
  Each (x ∷ xs) = P x × Each xs

  pub each_at : (xs : List A) → Each xs → (i : ℕ) → i < length xs → P (get_or xs i d)
  unfolding Each
  each_at [] e i h = absurd (not-suc-le-zero h)
  each_at (x ∷ xs) e zero h = e.0
  each_at (x ∷ xs) e (suc i) h = each_at xs e.1 i (le_of_suc-le-suc h)

  pub each_append : (xs ys : List A) → Each xs → Each ys → Each (xs ++ ys)
  unfolding Each
  each_append [] ys e f = f
  each_append (x ∷ xs) ys e f = (e.0, each_append xs ys e.1 f)

  abbrev pub All : List A → Type 0
  All l = (i : ℕ) → P (get_or l i d)

  pub all_set : (l : List A) (i : ℕ) (x : A) → P x → All l → All (set l i x)
  all_set [] i x p f j = f j
  all_set (y ∷ l) zero x p f zero = p
  all_set (y ∷ l) zero x p f (suc j) = f (suc j)
  all_set (y ∷ l) (suc i) x p f zero = f zero
  all_set (y ∷ l) (suc i) x p f (suc j) = all_set l i x p (λ k. f (suc k)) j

  pub all_sets : (vs l : List A) (i : ℕ) → Each vs → All l → All (sets l i vs)
  unfolding Each
  all_sets [] l i e f = f
  all_sets (x ∷ vs) l i e f = all_sets vs (set l i x) (suc i) e.1 (all_set l i x e.0 f)

  pub all_same : (n : ℕ) (x : A) → P x → P d → All (replicate n x)
  all_same zero x p q i = q
  all_same (suc n) x p q zero = p
  all_same (suc n) x p q (suc i) = all_same n x p q i

-- ---- parts
pub record Good (rels count : ℕ) (q : PartRow) : Type 0 where
  pub fits : PartFits q
  pub within : PartIn rels count q

leaf_good : (rels count tag r : ℕ) (ls : List ℕ) → rels ≤ 18 → tag < 2 → r < rels → length ls ≤ 3 → ((i : ℕ) → get_or ls i 0 < 4) → Good rels count (record { tag = tag; which = r; sort = 0; levels = pad 4 ls; width = length ls })
leaf_good rels count tag r ls b h q k f = record {
  fits = record { width = omega arith; sort = omega arith; levels = pad_below 4 4 ls (omega arith) f; relation = λ _. omega arith; node = λ n. absurd (omega arith) };
  within = record { relation = λ _. q; node = λ n. absurd (omega arith) };
}

node_good : (rels count tag v σ : ℕ) (t : Tree) → count ≤ 64 → 2 ≤ tag → v < count → σ ≤ 8 → Good rels count (record { tag = tag; which = v; sort = σ; levels = pad 4 (free t); width = length (free t) })
node_good rels count tag v σ t b h q k = record {
  fits = record { width = free_few t; sort = k; levels = pad_below 4 4 (free t) (omega arith) (free_below t); relation = λ n. absurd (omega arith); node = λ _. omega arith };
  within = record { relation = λ n. absurd (omega arith); node = λ _. q };
}

pub none_good : (rels count : ℕ) → 0 < rels → Good rels count no_part
none_good rels count h = record {
  fits = record { width = omega arith; sort = omega arith; levels = λ i. zero_at i; relation = λ _. omega arith; node = λ n. absurd (omega arith) };
  within = record { relation = λ _. h; node = λ n. absurd (omega arith) };
}
  where
    zero_at : (i : ℕ) → get_or [] i 0 < 4
    zero_at zero = omega arith
    zero_at (suc i) = omega arith

blank_levels : (n i : ℕ) → get_or (replicate n 0) i 0 < 4
blank_levels zero zero = omega arith
blank_levels zero (suc i) = omega arith
blank_levels (suc n) zero = omega arith
blank_levels (suc n) (suc i) = blank_levels n i

blank_good : (rels count : ℕ) → 0 < rels → Good rels count blank_part
blank_good rels count h = record {
  fits = record { width = omega arith; sort = omega arith; levels = blank_levels 4; relation = λ _. omega arith; node = λ n. absurd (omega arith) };
  within = record { relation = λ _. h; node = λ n. absurd (omega arith) };
}

row_fits : (placed : ℕ) (t : Tree) (first many : ℕ) → node_level t < 4 → node_sort t ≤ 8 → first + many ≤ placed → NodeFits placed (row_of t first many)
row_fits placed t first many h k b = record { width = free_few t; levels = pad_below 4 4 (free t) (omega arith) (free_below t); level = h; sort = k; parts = b }

-- parts that are placed stay so
fits_more : (p q : ℕ) (v : NodeRow) → p ≤ q → NodeFits p v → NodeFits q v
fits_more p q v h f = record { width = f.width; levels = f.levels; level = f.level; sort = f.sort; parts = omega (arith, f.parts) }

none_fits : (placed : ℕ) → NodeFits placed no_node
none_fits placed = record { width = omega arith; levels = λ i. zero_at i; level = omega arith; sort = omega arith; parts = omega arith }
  where
    zero_at : (i : ℕ) → get_or [] i 0 < 4
    zero_at zero = omega arith
    zero_at (suc i) = omega arith

blank_fits : (placed : ℕ) → NodeFits placed blank_row
blank_fits placed = record { width = omega arith; levels = blank_levels 4; level = omega arith; sort = omega arith; parts = omega arith }

module _ (rels count : ℕ) (b : rels ≤ 18) (c : count ≤ 64) where
  pub part_good : (v : ℕ) (t : Tree) → Small rels t → v + length (nodes t) ≤ count → Good rels count (part_of v t)
  unfolding part_of Small nodes
  part_good v (leaf true r ls) s h = leaf_good rels count 0 r ls b (omega arith) s.0 s.1 s.2
  part_good v (leaf false r ls) s h = leaf_good rels count 1 r ls b (omega arith) s.0 s.1 s.2
  part_good v (forall_node d σ t) s h = node_good rels count 2 v σ (forall_node d σ t) c (omega arith) (omega arith) s.1
  part_good v (exists_node d σ t) s h = node_good rels count 3 v σ (exists_node d σ t) c (omega arith) (omega arith) s.1
  part_good v (and_node ts) s h = node_good rels count 3 v 0 (and_node ts) c (omega arith) (omega arith) (omega arith)
  part_good v (or_node ts) s h = node_good rels count 3 v 0 (or_node ts) c (omega arith) (omega arith) (omega arith)

  heads_good : (v : ℕ) (ts : Trees) → AllSmall rels ts → v + length (nodes_all ts) ≤ count → Each (Good rels count) no_part (heads v ts)
  unfolding parts_from Small nodes Each
  heads_good v end s h = tt
  heads_good v (t then ts) s h = (part_good v t s.0 (omega (arith, length-append (nodes t) (nodes_all ts))), heads_good (v + length (nodes t)) ts s.1 (omega (arith, length-append (nodes t) (nodes_all ts))))

  -- ---- the table
  pub record SoundLaid (l : Laid) : Type 0 where
    pub parts : All (Good rels count) no_part l.parts
    pub rows : All (NodeFits l.placed) no_node l.rows
    pub parts_length : length l.parts ≡ 64
    pub rows_length : length l.rows ≡ 64

  sound_node : (v : ℕ) (t : Tree) (N : List Tree) (l m : Laid) (k : ℕ) → Grows v N l (lay v t m) k → length l.parts ≡ 64 → length l.rows ≡ 64 → l.placed + k ≤ 64 → node_level t < 4 → node_sort t ≤ 8 → Each (Good rels count) no_part (kids_of v t) → SoundLaid m → SoundLaid (lay v t m)
  sound_node v t N l m k g x y h d σ e s = record {
    parts = all_sets (Good rels count) no_part (kids_of v t) m.parts m.placed e s.parts;
    rows =
        all_set (NodeFits (m.placed + length (kids_of v t))) no_node m.rows v (row_of t m.placed (length (kids_of v t)))
        (row_fits (m.placed + length (kids_of v t)) t m.placed (length (kids_of v t)) d σ (omega arith))
        (λ i. fits_more m.placed (m.placed + length (kids_of v t)) (get_or m.rows i no_node) (omega arith) (s.rows i));
    parts_length = g.parts_length ∙ x;
    rows_length = g.rows_length ∙ y;
  }

  mutual
    unfolding laid Small nodes inner parts Each node_level node_sort

    pub laid_sound : (v : ℕ) (t : Tree) (l : Laid) → Small rels t → v + length (nodes t) ≤ count → l.placed + inner t ≤ 64 → SoundLaid l → SoundLaid (laid v t l)
    laid_sound v (leaf p r ls) l s h q o = o
    laid_sound v (forall_node d σ t) l s h q o =
        sound_node v (forall_node d σ t) (nodes (forall_node d σ t)) l (laid (suc v) t l) (inner (forall_node d σ t))
        (laid_grows v (forall_node d σ t) l (omega (arith, o.rows_length)) (omega (arith, o.parts_length))) o.parts_length o.rows_length q
        s.0 s.1 (part_good (suc v) t s.2 (omega arith), tt)
        (laid_sound (suc v) t l s.2 (omega arith) (omega arith) o)
    laid_sound v (exists_node d σ t) l s h q o =
        sound_node v (exists_node d σ t) (nodes (exists_node d σ t)) l (laid (suc v) t l) (inner (exists_node d σ t))
        (laid_grows v (exists_node d σ t) l (omega (arith, o.rows_length)) (omega (arith, o.parts_length))) o.parts_length o.rows_length q
        s.0 s.1 (part_good (suc v) t s.2 (omega arith), tt)
        (laid_sound (suc v) t l s.2 (omega arith) (omega arith) o)
    laid_sound v (and_node ts) l s h q o =
        sound_node v (and_node ts) (nodes (and_node ts)) l (laid_all (suc v) ts l) (inner (and_node ts)) (laid_grows v (and_node ts) l (omega (arith, o.rows_length)) (omega (arith, o.parts_length))) o.parts_length o.rows_length q (omega arith) (omega arith) (heads_good (suc v) ts s (omega arith))
        (all_sound (suc v) ts l s (omega arith) (omega arith) o)
    laid_sound v (or_node ts) l s h q o =
        sound_node v (or_node ts) (nodes (or_node ts)) l (laid_all (suc v) ts l) (inner (or_node ts)) (laid_grows v (or_node ts) l (omega (arith, o.rows_length)) (omega (arith, o.parts_length))) o.parts_length o.rows_length q (omega arith) (omega arith) (heads_good (suc v) ts s (omega arith))
        (all_sound (suc v) ts l s (omega arith) (omega arith) o)

    pub all_sound : (v : ℕ) (ts : Trees) (l : Laid) → AllSmall rels ts → v + length (nodes_all ts) ≤ count → l.placed + inner_all ts ≤ 64 → SoundLaid l → SoundLaid (laid_all v ts l)
    all_sound v end l s h q o = o
    all_sound v (t then ts) l s h q o =
        two (laid_grows v t l (omega (arith, o.rows_length, length-append (nodes t) (nodes_all ts))) (omega (arith, o.parts_length)))
        (laid_sound v t l s.0 (omega (arith, length-append (nodes t) (nodes_all ts))) (omega arith) o)
        (λ y z. all_sound (v + length (nodes t)) ts (laid v t l) s.1 (omega (arith, length-append (nodes t) (nodes_all ts))) y z)
      where
        two : Grows v (nodes t) l (laid v t l) (inner t) → SoundLaid (laid v t l) → ((laid v t l).placed + inner_all ts ≤ 64 → SoundLaid (laid v t l) → SoundLaid (laid_all (v + length (nodes t)) ts (laid v t l))) → SoundLaid (laid_all (v + length (nodes t)) ts (laid v t l))
        two g z f = f (omega (arith, g.placed)) z

  pub blank_sound : 0 < rels → SoundLaid blank
  blank_sound h = record {
    parts = all_same (Good rels count) no_part 64 blank_part (blank_good rels count h) (none_good rels count h);
    rows = all_same (NodeFits 0) no_node 64 blank_row (blank_fits 0) (none_fits 0);
    parts_length = length-replicate 64 blank_part;
    rows_length = length-replicate 64 blank_row;
  }

-- ---- the parts of a node stand in the table
pub in_parts : (t : Nodes) → Fits t → (v : ℕ) → (get_or t.rows v no_node).first + (get_or t.rows v no_node).many ≤ length t.parts
in_parts t fits v = omega (arith, (fits.nodes.node v).parts, fits.parts.parts_length)

-- ---- a part's number is in range
pub which_small : (q : PartRow) → PartFits q → q.which < 64
which_small q f = by_test (ltb q.tag 2) refl
  where
    by_test : (b : Bool) → ltb q.tag 2 ≡ b → q.which < 64
    by_test true e = let h = f.relation (ltb-true q.tag 2 e) in omega arith
    by_test false e = f.node (ltb-false q.tag 2 e)
