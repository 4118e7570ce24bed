-- What the pass over the rows of a tree leaves: the tree as a part on the stack, its nodes' rows and parts in the table. Assumes nothing.
use Rattle.std.specs.Prelude.{ℕ, suc, ◌+◌, ◌-◌, ◌≤◌, ◌≡◌, refl, Bool, true, false, List, [], ◌∷◌, ◌++◌, length, set, take, drop, ltb}
use Rattle.std.proofs.Common.{arith, ap, ◌∙◌, append_assoc, append-nil, length-append}
use Rattle.std.proofs.lemmas.List.Edits.{sets}
use Rattle.std.proofs.Math.Seq.{take-append_seam, drop-append_seam}
use Rattle.definitions.specs.Problem.Tree.{Tree, Trees, leaf, forall_node, exists_node, and_node, or_node, end, ◌then◌, nodes, parts, parts_from, how_many, node_sort, free}
use Rattle.rule_nodes.specs.Tables.{node_kind, node_level}
use Rattle.rule_nodes.specs.declared.PartRow.{PartRow}
use Rattle.rule_nodes.specs.Postorder.{pad, post, post_all, part_of, kids_of, heads, row_of, Small, AllSmall, leaf_row, quant_row, join_row}
use Rattle.rule_nodes.specs.Pass.{free_with, levels_of, node_part, node_row, Laid, State, leaf_step, lay_row, node_step, step, run}
use Rattle.rule_nodes.specs.Free.{free_forall, free_exists, free_and, free_or}
use Rattle.rule_nodes.specs.declared.Row.{Row}

-- a node's row and its parts go into the table
abbrev pub lay : ℕ → Tree → Laid → Laid
lay v t l = record { parts = sets l.parts l.placed (kids_of v t); placed = l.placed + length (kids_of v t); rows = set l.rows v (row_of t l.placed (length (kids_of v t))) }

-- all of a tree's nodes
unfoldable mutual
  pub laid : ℕ → Tree → Laid → Laid
  laid v (leaf p r ls) l = l
  laid v (forall_node d σ t) l = lay v (forall_node d σ t) (laid (suc v) t l)
  laid v (exists_node d σ t) l = lay v (exists_node d σ t) (laid (suc v) t l)
  laid v (and_node ts) l = lay v (and_node ts) (laid_all (suc v) ts l)
  laid v (or_node ts) l = lay v (or_node ts) (laid_all (suc v) ts l)

  pub laid_all : ℕ → Trees → Laid → Laid
  laid_all v end l = l
  laid_all v (t then ts) l = laid_all (v + length (nodes t)) ts (laid v t l)

-- ---- one row
pub run_append : (rows more : List Row) (st : State) → run (rows ++ more) st ≡ run more (run rows st)
unfolding run
run_append [] more st = refl
run_append (row ∷ rows) more st = run_append rows more (step row st)

node_lays : (row : Row) (S kids : List PartRow) (l : Laid) → ltb row.kind 4 ≡ true → row.many ≡ length kids → step row (record { stack = S ++ kids; laid = l }) ≡ record { stack = S ++ (node_part row (levels_of (free_with row kids)) ∷ []); laid = lay_row row kids l }
unfolding step node_step
node_lays row S kids l e m = rw e (by_number (length (S ++ kids) - row.many) at)
  where
    at : length (S ++ kids) - row.many ≡ length S
    at = omega (arith, length-append S kids)

    by_number : (n : ℕ) → n ≡ length S → ◌≡◌ {A = State}
        (record {
          stack = take n (S ++ kids) ++ (node_part row (levels_of (free_with row (drop n (S ++ kids)))) ∷ []);
          laid = lay_row row
              (drop n (S ++ kids)) l;
        }) (record { stack = S ++ (node_part row (levels_of (free_with row kids)) ∷ []); laid = lay_row row kids l })
    by_number n q = rw (q, take-append_seam S kids, drop-append_seam S kids)

leaf_lays : (v : ℕ) (p : Bool) (r : ℕ) (ls : List ℕ) (st : State) → length ls ≤ 3 → step (leaf_row p r ls) st ≡ record { stack = st.stack ++ (part_of v (leaf p r ls) ∷ []); laid = st.laid }
unfolding step leaf_step part_of pad
leaf_lays v true r [] st h = refl
leaf_lays v true r (a ∷ []) st h = refl
leaf_lays v true r (a ∷ b ∷ []) st h = refl
leaf_lays v true r (a ∷ b ∷ c ∷ []) st h = refl
leaf_lays v true r (a ∷ b ∷ c ∷ d ∷ ls) st h = absurd (omega arith)
leaf_lays v false r [] st h = refl
leaf_lays v false r (a ∷ []) st h = refl
leaf_lays v false r (a ∷ b ∷ []) st h = refl
leaf_lays v false r (a ∷ b ∷ c ∷ []) st h = refl
leaf_lays v false r (a ∷ b ∷ c ∷ d ∷ ls) st h = absurd (omega arith)

pub heads_many : (v : ℕ) (ts : Trees) → how_many ts ≡ length (heads v ts)
unfolding how_many parts_from
heads_many v end = refl
heads_many v (t then ts) = ap suc (heads_many (v + length (nodes t)) ts)

both : (S : List PartRow) {p q : PartRow} {l m : Laid} → p ≡ q → l ≡ m → ◌≡◌ {A = State} (record { stack = S ++ (p ∷ []); laid = l }) (record { stack = S ++ (q ∷ []); laid = m })
both S e h = rw (e, h)

-- the rows of a node's parts have run, and then its own
last_row : (rows : List Row) (row : Row) (st : State) (kids : List PartRow) (l : Laid) (p : PartRow) (m : Laid) → run rows st
    ≡ record { stack = st.stack ++ kids; laid = l } → ltb row.kind 4 ≡ true → row.many ≡ length kids
    → node_part row (levels_of (free_with row kids)) ≡ p → lay_row row kids l ≡ m → run (rows ++ (row ∷ [])) st
    ≡ record { stack = st.stack ++ (p ∷ []); laid = m }
unfolding run
last_row rows row st kids l p m e k n q z = run_append rows (row ∷ []) st ∙ ap (λ (x : State). step row x) e ∙ node_lays row st.stack kids l k n ∙ both st.stack q z

-- with the free levels of the node
as_part : (row : Row) (F G : List ℕ) → F ≡ G → node_part row (levels_of F) ≡ node_part row (levels_of G)
as_part row F G e = rw e

as_row : (row : Row) (kids : List PartRow) (G : List ℕ) (l : Laid) → free_with row kids ≡ G → lay_row row kids l ≡ record { parts = sets l.parts l.placed kids; placed = l.placed + length kids; rows = set l.rows row.which (node_row row (levels_of G) l.placed) }
unfolding lay_row
as_row row kids G l e = ap (λ (F : List ℕ). record { parts = sets l.parts l.placed kids; placed = l.placed + length kids; rows = set l.rows row.which (node_row row (levels_of F) l.placed) }) e

as_many : (k v m : ℕ) (t : Tree) (kids : List PartRow) (l : Laid) → m ≡ length kids
    → ◌≡◌ {A = Laid} (record {
      parts = sets l.parts l.placed kids;
      placed = l.placed + length kids;
      rows = set l.rows v
          (record { kind = k; level = 0; sort = 0; levels = pad 4 (free t); width = length (free t); first = l.placed; many = m });
    })
    (record {
      parts = sets l.parts l.placed kids;
      placed = l.placed + length kids;
      rows = set l.rows v
          (record { kind = k; level = 0; sort = 0; levels = pad 4 (free t); width = length (free t); first = l.placed; many = length kids });
    })
as_many k v m t kids l e = ap (λ (n : ℕ). record { parts = sets l.parts l.placed kids; placed = l.placed + length kids; rows = set l.rows v (record { kind = k; level = 0; sort = 0; levels = pad 4 (free t); width = length (free t); first = l.placed; many = n }) }) e

-- ---- all rows of a tree
mutual
  unfolding run post laid Small part_of parts pad node_kind node_level node_sort parts_from

  pub run_post : (rels v : ℕ) (t : Tree) → Small rels t → (st : State) → run (post v t) st ≡ record { stack = st.stack ++ (part_of v t ∷ []); laid = laid v t st.laid }
  run_post rels v (leaf p r ls) s st = leaf_lays v p r ls st s.1
  run_post rels v (forall_node d σ t) s st =
      last_row (post (suc v) t) (quant_row 0 v d σ) st (part_of (suc v) t ∷ []) (laid (suc v) t st.laid) (part_of v (forall_node d σ t)) (laid v (forall_node d σ t) st.laid) (run_post rels (suc v) t s.2 st) refl refl
      (as_part (quant_row 0 v d σ) (free_with (quant_row 0 v d σ) (part_of (suc v) t ∷ [])) (free (forall_node d σ t)) (free_forall rels v d σ t s.2))
      (as_row (quant_row 0 v d σ) (part_of (suc v) t ∷ []) (free (forall_node d σ t)) (laid (suc v) t st.laid) (free_forall rels v d σ t s.2))
  run_post rels v (exists_node d σ t) s st =
      last_row (post (suc v) t) (quant_row 1 v d σ) st (part_of (suc v) t ∷ []) (laid (suc v) t st.laid) (part_of v (exists_node d σ t)) (laid v (exists_node d σ t) st.laid) (run_post rels (suc v) t s.2 st) refl refl
      (as_part (quant_row 1 v d σ) (free_with (quant_row 1 v d σ) (part_of (suc v) t ∷ [])) (free (exists_node d σ t)) (free_exists rels v d σ t s.2))
      (as_row (quant_row 1 v d σ) (part_of (suc v) t ∷ []) (free (exists_node d σ t)) (laid (suc v) t st.laid) (free_exists rels v d σ t s.2))
  run_post rels v (and_node ts) s st =
      last_row (post_all (suc v) ts) (join_row 2 v (how_many ts)) st (heads (suc v) ts) (laid_all (suc v) ts st.laid) (part_of v (and_node ts)) (laid v (and_node ts) st.laid) (run_all rels (suc v) ts s st) refl (heads_many (suc v) ts)
      (as_part (join_row 2 v (how_many ts)) (free_with (join_row 2 v (how_many ts)) (heads (suc v) ts)) (free (and_node ts)) (free_and rels v ts (how_many ts) s))
      (as_row (join_row 2 v (how_many ts)) (heads (suc v) ts) (free (and_node ts)) (laid_all (suc v) ts st.laid) (free_and rels v ts (how_many ts) s) ∙ as_many 2 v (how_many ts) (and_node ts) (heads (suc v) ts) (laid_all (suc v) ts st.laid) (heads_many (suc v) ts))
  run_post rels v (or_node ts) s st =
      last_row (post_all (suc v) ts) (join_row 3 v (how_many ts)) st (heads (suc v) ts) (laid_all (suc v) ts st.laid) (part_of v (or_node ts)) (laid v (or_node ts) st.laid) (run_all rels (suc v) ts s st) refl (heads_many (suc v) ts)
      (as_part (join_row 3 v (how_many ts)) (free_with (join_row 3 v (how_many ts)) (heads (suc v) ts)) (free (or_node ts)) (free_or rels v ts (how_many ts) s))
      (as_row (join_row 3 v (how_many ts)) (heads (suc v) ts) (free (or_node ts)) (laid_all (suc v) ts st.laid) (free_or rels v ts (how_many ts) s) ∙ as_many 3 v (how_many ts) (or_node ts) (heads (suc v) ts) (laid_all (suc v) ts st.laid) (heads_many (suc v) ts))

  pub run_all : (rels v : ℕ) (ts : Trees) → AllSmall rels ts → (st : State) → run (post_all v ts) st ≡ record { stack = st.stack ++ heads v ts; laid = laid_all v ts st.laid }
  run_all rels v end s st = rw (append-nil st.stack)
  run_all rels v (t then ts) s st =
      run_append (post v t) (post_all (v + length (nodes t)) ts) st
      ∙ ap (λ (x : State). run (post_all (v + length (nodes t)) ts) x) (run_post rels v t s.0 st)
      ∙ run_all rels (v + length (nodes t)) ts s.1 (record { stack = st.stack ++ (part_of v t ∷ []); laid = laid v t st.laid })
      ∙ ap (λ (x : List PartRow). record { stack = x; laid = laid_all (v + length (nodes t)) ts (laid v t st.laid) }) (append_assoc st.stack (part_of v t ∷ []) (heads (v + length (nodes t)) ts))
