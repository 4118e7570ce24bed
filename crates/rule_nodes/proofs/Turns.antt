-- The turns of the pass: a literal goes onto the stack, a node takes its parts from there. Assumes nothing.
use Prim.Native.Nat.{ℕ, zero, suc, ◌+◌, ◌-◌, ◌≤◌, ◌<◌}
use native.Mathlib.Numerals.{add-one}
use native.Mathlib.Omega.{arith}
use mathlib.Core.Path.{◌≡◌, refl, sym, ap, subst, ◌∙◌}
use mathlib.Core.Bool.{Bool, false, not, ◌&&◌, ◌||◌, or-false, or_assoc}
use mathlib.Core.List.{List, [], ◌∷◌, ◌++◌}
use lib.ListN.{length, get_or, take, drop, set, length-take, length-set, length-replicate, replicate, drop_of_length-le}
use lib.Seq.{sets, slice, slice-cons, slice_empty, length-slice, drop-cons, get_or-take, take-take, take-suc-set, length-take-le}
use borrow.Author.Tests.{lt-ltb, le-ltb}
use Rattle.definitions.specs.Lists.{any, filter, below}
use Rattle.definitions.specs.Problem.Tree.{Tree}
use Rattle.rule_nodes.specs.Tables.{no_part, IsTable, Fits}
use Rattle.rule_nodes.specs.declared.Nodes.{Nodes}
use Rattle.rule_nodes.specs.declared.PartRow.{PartRow}
use Rattle.rule_nodes.specs.declared.NodeRow.{NodeRow}
use Rattle.rule_nodes.specs.Postorder.{Rows, rows_in, row_at, rows_from, part_of}
use Rattle.rule_nodes.specs.Laid.{laid}
use Rattle.rule_nodes.specs.Lent.{no_row, rows_many, row_there}
use Rattle.rule_nodes.specs.Whole.{Of, table_of, table_is, table_fits, run_whole}
use Rattle.rule_nodes.specs.Pass.{has_level, is_own, free_with, levels_of, leaf_part, node_part, node_row, State, leaf_step, lay_row, node_step, step, run, blank, blank_part, blank_row, Ranged}
use Rattle.rule_nodes.specs.Free.{filter_le, filter_ext}
use Rattle.rule_nodes.specs.declared.Row.{Row}
use Rattle.rule_nodes.specs.declared.Levels.{Levels}

abbrev pub start : State
start = record { stack = []; laid = blank }

abbrev pub held : List PartRow → ℕ → List PartRow → ℕ → List NodeRow → State
held stack height parts placed rows = record { stack = take height stack; laid = record { parts = parts; placed = placed; rows = rows } }

-- the pass stands at row i
pub record Outer (from : Rows) (stack parts : List PartRow) (rows : List NodeRow) (height placed i : ℕ) : Type 0 where
  pub low : i ≤ from.len
  pub tall : height ≤ 64
  pub runs : run (rows_in from) start ≡ run (drop i (rows_in from)) (held stack height parts placed rows)
  pub ranged : Ranged height placed (drop i (rows_in from))
  pub stack_length : length stack ≡ 64
  pub parts_length : length parts ≡ 64
  pub rows_length : length rows ≡ 64

pub outer_start : (from : Rows) (b : PartRow) (d : NodeRow) → b ≡ blank_part → d ≡ blank_row → Ranged 0 0 (rows_in from) → Outer from (replicate 64 b) (replicate 64 b) (replicate 64 d) 0 0 0
outer_start from b d e f r = record {
  low = omega arith;
  tall = omega arith;
  runs = rw (e, f);
  ranged = r;
  stack_length = length-replicate 64 b;
  parts_length = length-replicate 64 b;
  rows_length = length-replicate 64 d;
}

-- the parts of a node, base to height on the stack, are placed up to part j of the stack, and their levels marked
pub record Inner (stack parts₀ : List PartRow) (height placed₀ base : ℕ) (parts : List PartRow) (placed : ℕ) (marks : List Bool) (j : ℕ) : Type 0 where
  pub low : base ≤ j
  pub high : j ≤ height
  pub count : placed + base ≡ placed₀ + j
  pub moved : sets parts₀ placed₀ (slice base height stack) ≡ sets parts placed (slice j height stack)
  pub marked : (l : ℕ) → l < 4 → any (has_level l) (slice base height stack) ≡ (get_or marks l false || any (has_level l) (slice j height stack))
  pub parts_length : length parts ≡ length parts₀

module _ (stack parts₀ : List PartRow) (height placed₀ base : ℕ) where
  pub inner_start : base ≤ height → Inner stack parts₀ height placed₀ base parts₀ placed₀ (false ∷ false ∷ false ∷ false ∷ []) base
  inner_start h = record {
    low = omega arith;
    high = h;
    count = refl;
    moved = refl;
    marked = λ l q. ap (λ (b : Bool). b || any (has_level l) (slice base height stack)) (sym (none l));
    parts_length = refl;
  }
    where
      none : (l : ℕ) → get_or (false ∷ false ∷ false ∷ false ∷ []) l false ≡ false
      none zero = refl
      none (suc zero) = refl
      none (suc (suc zero)) = refl
      none (suc (suc (suc zero))) = refl
      none (suc (suc (suc (suc zero)))) = refl
      none (suc (suc (suc (suc (suc l))))) = refl

  module _ (parts : List PartRow) (placed : ℕ) (marks : List Bool) (j : ℕ) (n : Inner stack parts₀ height placed₀ base parts placed marks j) where
    pub inner_again : (p : PartRow) (more : List Bool) → j < height → height ≤ length stack → p ≡ get_or stack j no_part → ((l : ℕ) → l < 4 → get_or more l false ≡ (get_or marks l false || has_level l p)) → Inner stack parts₀ height placed₀ base (set parts placed p) (placed + 1) more (j + 1)
    unfolding any
    inner_again p more h k e f = record {
      low = omega (arith, n.low);
      high = omega arith;
      count = omega (arith, n.count);
      moved = n.moved ∙ ap (λ (l : List PartRow). sets parts placed l) first ∙ rw (add-one placed);
      marked = λ l q. n.marked l q ∙ ap (λ (x : List PartRow). get_or marks l false || any (has_level l) x) first ∙ sym (or_assoc (get_or marks l false) (has_level l p) (any (has_level l) (slice (j + 1) height stack))) ∙ ap (λ (b : Bool). b || any (has_level l) (slice (j + 1) height stack)) (sym (f l q));
      parts_length = length-set parts placed p ∙ n.parts_length;
    }
      where
        first : slice j height stack ≡ p ∷ slice (j + 1) height stack
        first = slice-cons j height stack no_part h k ∙ rw (e, add-one j)

    module _ (q : height ≤ j) where
      none_left : slice j height stack ≡ []
      none_left = let e : j ≡ height = omega (arith, n.high) in rw e (slice_empty height stack)

      inner_parts : sets parts₀ placed₀ (slice base height stack) ≡ parts
      inner_parts = n.moved ∙ ap (λ (l : List PartRow). sets parts placed l) none_left

      inner_marks : (l : ℕ) → l < 4 → any (has_level l) (slice base height stack) ≡ get_or marks l false
      unfolding any
      inner_marks l h = n.marked l h ∙ ap (λ (x : List PartRow). get_or marks l false || any (has_level l) x) none_left ∙ or-false (get_or marks l false)

      -- the free levels of the node of a row
      inner_free : (row : Row) → levels_of (filter (λ l. not (is_own row l) && get_or marks l false) (below 4)) ≡ levels_of (free_with row (slice base height stack))
      unfolding free_with below
      inner_free row = ap (λ (l : List ℕ). levels_of l) (filter_ext (λ l. not (is_own row l) && get_or marks l false) (λ l. not (is_own row l) && any (has_level l) (slice base height stack)) 4 0 (λ l h. ap (λ (b : Bool). not (is_own row l) && b) (sym (inner_marks l (omega arith)))))

pub free_width : (p : ℕ → Bool) (free : Levels) → free ≡ levels_of (filter p (below 4)) → free.width ≤ 4
unfolding below
free_width p free e = rw e (filter_le p 4 0)

-- the rows that bytes hold
module _ (b : List ℕ) (n nodes : ℕ) (fits : n ≤ 64) where
  abbrev from : Rows
  from = rows_from b n nodes

  next_row : (i : ℕ) → i < n → drop i (rows_in from) ≡ row_at b i ∷ drop (i + 1) (rows_in from)
  unfolding rows_in
  next_row i h = drop-cons (take n from.at) i no_row (omega (arith, length-take n from.at, rows_many b n nodes)) ∙ rw (get_or-take n from.at i no_row h, row_there b n nodes i (omega arith), add-one i)

  module _ (stack parts : List PartRow) (rows : List NodeRow) (height placed i : ℕ) (o : Outer from stack parts rows height placed i) (h : i < n) (row : Row) (there : row ≡ row_at b i) where
    now_row : drop i (rows_in from) ≡ row ∷ drop (i + 1) (rows_in from)
    now_row = next_row i h ∙ ap (λ (r : Row). r ∷ drop (i + 1) (rows_in from)) (sym there)

    at_row : Ranged height placed (row ∷ drop (i + 1) (rows_in from))
    at_row = subst (λ (l : List Row). Ranged height placed l) now_row o.ranged

    one_step : run (rows_in from) start ≡ run (drop (i + 1) (rows_in from)) (step row (held stack height parts placed rows))
    unfolding run
    one_step = o.runs ∙ ap (λ (l : List Row). run l (held stack height parts placed rows)) now_row

    -- ---- a literal
    module _ (k : 4 ≤ row.kind) where
      leaf_ranged : (height < 64) × (4 ≤ row.kind) × Ranged (height + 1) placed (drop (i + 1) (rows_in from))
      unfolding Ranged
      leaf_ranged = rw (le-ltb row.kind 4 k, Ranged) at at_row

      pub leaf_room : height < 64
      leaf_room = leaf_ranged.0

      leaf_turn : (p : PartRow) → p ≡ leaf_part row → step row (held stack height parts placed rows) ≡ held (set stack height p) (height + 1) parts placed rows
      unfolding step leaf_step
      leaf_turn p e =
          rw (le-ltb row.kind 4 k)
          (ap (λ (l : List PartRow). record { stack = l; laid = record { parts = parts; placed = placed; rows = rows } })
          (ap (λ (q : PartRow). take height stack ++ (q ∷ [])) (sym e) ∙ sym (take-suc-set stack height p (omega (arith, leaf_room, o.stack_length))) ∙ ap (λ (n : ℕ). take n (set stack height p)) (sym (add-one height))))

      pub outer_leaf : (p : PartRow) → p ≡ leaf_part row → Outer from (set stack height p) parts rows (height + 1) placed (i + 1)
      outer_leaf p e = record {
        low = omega arith;
        tall = omega (arith, leaf_room);
        runs = one_step ∙ ap (λ (s : State). run (drop (i + 1) (rows_in from)) s) (leaf_turn p e);
        ranged = leaf_ranged.2;
        stack_length = length-set stack height p ∙ o.stack_length;
        parts_length = o.parts_length;
        rows_length = o.rows_length;
      }

    -- ---- a node
    module _ (k : row.kind < 4) where
      node_ranged : (row.many ≤ height) × (placed + row.many ≤ 64) × (row.which < 64) × (height - row.many < 64) × Ranged (height - row.many + 1) (placed + row.many) (drop (i + 1) (rows_in from))
      unfolding Ranged
      node_ranged = rw (lt-ltb row.kind 4 k, Ranged) at at_row

      pub node_fits : (row.many ≤ height) × (placed + row.many ≤ 64) × (row.which < 64) × (height - row.many < 64)
      node_fits = (node_ranged.0, node_ranged.1, node_ranged.2, node_ranged.3)

      module _ (base : ℕ) (e : base ≡ height - row.many) where
        kids_many : length (slice base height stack) ≡ row.many
        kids_many = omega (arith, length-slice base height stack (omega (arith, o.tall, o.stack_length)), node_ranged.0)

        node_turn : (free : Levels) → free ≡ levels_of (free_with row (slice base height stack)) → step row (held stack height parts placed rows)
            ≡ held (set stack base (node_part row free)) (base + 1) (sets parts placed (slice base height stack))
            (placed + length (slice base height stack)) (set rows row.which (node_row row free placed))
        unfolding step node_step lay_row
        node_turn free f = rw (lt-ltb row.kind 4 k) (by_number (length (take height stack) - row.many) at)
          where
            at : length (take height stack) - row.many ≡ base
            at = omega (arith, length-take-le height stack (omega (arith, o.tall, o.stack_length)))

            tops : take base (take height stack) ++ (node_part row (levels_of (free_with row (slice base height stack))) ∷ []) ≡ take (base + 1) (set stack base (node_part row free))
            tops =
                ap (λ (l : List PartRow). l ++ (node_part row (levels_of (free_with row (slice base height stack))) ∷ [])) (take-take base height stack (omega (arith, node_ranged.0)))
                ∙ ap (λ (g : Levels). take base stack ++ (node_part row g ∷ [])) (sym f)
                ∙ sym (take-suc-set stack base (node_part row free) (omega (arith, node_ranged.3, o.stack_length)))
                ∙ ap (λ (n : ℕ). take n (set stack base (node_part row free))) (sym (add-one base))

            by_number : (n : ℕ) → n ≡ base → ◌≡◌ {A = State}
                (record {
                  stack = take n (take height stack) ++ (node_part row (levels_of (free_with row (drop n (take height stack)))) ∷ []);
                  laid
                      = record {
                        parts = sets parts placed (drop n (take height stack));
                        placed = placed + length (drop n (take height stack));
                        rows = set
                            rows row.which (node_row row (levels_of (free_with row (drop n (take height stack)))) placed);
                      };
                })
                (held (set stack base (node_part row free)) (base + 1) (sets parts placed (slice base height stack))
                (placed + length (slice base height stack)) (set rows row.which (node_row row free placed)))
            by_number n q =
                rw q (ap (λ (l : List PartRow). record {
                  stack = l;
                  laid = record {
                    parts = sets parts placed (slice base height stack);
                    placed = placed + length (slice base height stack);
                    rows = set rows
                        row.which (node_row row (levels_of (free_with row (slice base height stack))) placed);
                  };
                }) tops
                ∙ ap (λ (g : Levels). record {
                  stack = take (base + 1) (set stack base (node_part row free));
                  laid = record {
                    parts = sets parts placed (slice base height stack);
                    placed = placed + length (slice base height stack);
                    rows = set rows
                        row.which (node_row row g placed);
                  };
                }) (sym f))

        pub outer_node : (parts' : List PartRow) (placed' : ℕ) (marks : List Bool) (j : ℕ)
            → Inner stack parts height placed base parts' placed' marks j → height ≤ j → (free : Levels) (v : ℕ) (r : NodeRow) (q : PartRow) → free
            ≡ levels_of (filter (λ l. not (is_own row l) && get_or marks l false) (below 4)) → v ≡ row.which → r ≡ node_row row free placed → q
            ≡ node_part row free → Outer from (set stack base q) parts' (set rows v r) (base + 1) placed' (i + 1)
        outer_node parts' placed' marks j n z free v r q ef ev er eq = record {
          low = omega arith;
          tall = omega (arith, node_ranged.3);
          runs = one_step ∙ ap (λ (s : State). run (drop (i + 1) (rows_in from)) s) (node_turn free (ef ∙ inner_free stack parts height placed base parts' placed' marks j n z row) ∙ turned);
          ranged = subst (λ (m : ℕ). Ranged (base + 1) m (drop (i + 1) (rows_in from))) (sym all_placed) (subst (λ (b : ℕ). Ranged (b + 1) (placed + row.many) (drop (i + 1) (rows_in from))) (sym e) node_ranged.4);
          stack_length = length-set stack base q ∙ o.stack_length;
          parts_length = n.parts_length ∙ o.parts_length;
          rows_length = length-set rows v r ∙ o.rows_length;
        }
          where
            all_placed : placed' ≡ placed + row.many
            all_placed = omega (arith, n.count, n.high, node_ranged.0)

            turned : held (set stack base (node_part row free)) (base + 1) (sets parts placed (slice base height stack)) (placed + length (slice base height stack)) (set rows row.which (node_row row free placed)) ≡ held (set stack base q) (base + 1) parts' placed' (set rows v r)
            turned = rw (ev, er, eq, inner_parts stack parts height placed base parts' placed' marks j n z, kids_many, all_placed)

  -- ---- the end
  pub outer_end : (stack parts : List PartRow) (rows : List NodeRow) (height placed i : ℕ) → Outer from stack parts rows height placed i → n ≤ i → run (rows_in from) start ≡ held stack height parts placed rows
  unfolding rows_in run
  outer_end stack parts rows height placed i o h = o.runs ∙ ap (λ (l : List Row). run l (held stack height parts placed rows)) (drop_of_length-le (take (n) from.at) {i = i} (omega (arith, length-take (n) from.at)))

take_first : {A : Type 0} (n : ℕ) (l : List A) (x d : A) → take n l ≡ x ∷ [] → get_or l 0 d ≡ x
take_first zero [] x d e = let z : ◌≡◌ {A = ℕ} 0 1 = cc in absurd (omega arith)
take_first zero (y ∷ l) x d e = let z : ◌≡◌ {A = ℕ} 0 1 = cc in absurd (omega arith)
take_first (suc n) [] x d e = let z : ◌≡◌ {A = ℕ} 0 1 = cc in absurd (omega arith)
take_first (suc n) (y ∷ l) x d e = cc

pub table_of_lem : (from : Rows) (stack parts : List PartRow) (rows : List NodeRow) (height placed : ℕ) → run (rows_in from) start
    ≡ held stack height parts placed rows → (rels : ℕ) (root : Tree) → Of rels root from
    → IsTable rels root (record { count = from.nodes; placed = placed; rows = rows; parts = parts; root = get_or stack 0 no_part })
    × Fits (record { count = from.nodes; placed = placed; rows = rows; parts = parts; root = get_or stack 0 no_part })
table_of_lem from stack parts rows height placed e rels root o = subst (λ (x : Nodes). IsTable rels root x × Fits x) (sym is) (table_is rels root o.some_rels o.few_rels o.small o.fits, table_fits rels root o.some_rels o.few_rels o.small o.fits)
  where
    left : held stack height parts placed rows ≡ record { stack = part_of 0 root ∷ []; laid = laid 0 root blank }
    left = sym e ∙ ap (λ (x : List Row). run x start) o.is ∙ run_whole rels root o.some_rels o.few_rels o.small o.fits

    is : record { count = from.nodes; placed = placed; rows = rows; parts = parts; root = get_or stack 0 no_part } ≡ table_of (laid 0 root blank) root
    is =
        ap (λ (q : PartRow). record { count = from.nodes; placed = placed; rows = rows; parts = parts; root = q }) (take_first height stack (part_of 0 root) no_part (ap (λ (s : State). s.stack) left))
        ∙ ap (λ (s : State). record { count = from.nodes; placed = s.laid.placed; rows = s.laid.rows; parts = s.laid.parts; root = part_of 0 root }) left
        ∙ ap (λ (n : ℕ). record { count = n; placed = (laid 0 root blank).placed; rows = (laid 0 root blank).rows; parts = (laid 0 root blank).parts; root = part_of 0 root }) o.count
