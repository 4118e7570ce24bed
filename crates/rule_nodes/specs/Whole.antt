-- The whole pass: the rows of a tree keep it in range, and the table that it leaves is the tree's. Assumes nothing.
use Rattle.std.specs.Prelude.{ℕ, suc, ◌+◌, ◌-◌, ◌≤◌, ◌<◌, ◌≡◌, refl, true, false, List, [], ◌∷◌, ◌++◌, map, length, get_or, ltb}
use Rattle.std.proofs.Common.{zero-le, arith, sym, ap, subst, ◌∙◌, append_assoc, append-nil, length-append}
use Rattle.definitions.specs.Problem.Tree.{Tree, Trees, leaf, forall_node, exists_node, and_node, or_node, end, ◌then◌, nodes, nodes_all, parts, parts_from, how_many, free}
use Rattle.rule_nodes.specs.Tables.{no_node, head_from, head_of, head_in, IsNode, IsTable, Fits}
use Rattle.rule_nodes.specs.declared.PartRow.{PartRow}
use Rattle.rule_nodes.specs.declared.NodeRow.{NodeRow}
use Rattle.rule_nodes.specs.declared.Nodes.{Nodes}
use Rattle.rule_nodes.specs.Postorder.{post, post_all, inner, inner_all, part_of, kids_of, heads, Rows, rows_in, Small, AllSmall}
use Rattle.rule_nodes.specs.Pass.{Laid, blank, run, Ranged}
use Rattle.rule_nodes.specs.Free.{take_pad, free_few}
use Rattle.rule_nodes.specs.Laid.{laid, run_post}
use Rattle.rule_nodes.specs.Shown.{Shown, Grows, laid_grows}
use Rattle.rule_nodes.specs.Bounds.{Each, each_at, each_append, SoundLaid, part_good, laid_sound, blank_sound}
use Rattle.rule_nodes.specs.declared.Row.{Row}

-- the rows are those of a tree that a table can hold, over `rels` relations
pub record Of (rels : ℕ) (root : Tree) (rows : Rows) : Type 0 where
  pub is : rows_in rows ≡ post 0 root
  pub count : rows.nodes ≡ length (nodes root)
  pub small : Small rels root
  pub fits : suc (inner root) ≤ 64
  pub some_rels : 0 < rels
  pub few_rels : rels ≤ 18

-- ---- in range
ranged_node : (row : Row) (h p : ℕ) (R : List Row) → ltb row.kind 4 ≡ true → row.many ≤ h → p + row.many ≤ 64 → row.which < 64 → h - row.many < 64 → Ranged (h - row.many + 1) (p + row.many) R → Ranged h p (row ∷ R)
unfolding Ranged
ranged_node row h p R e a b c d r = rw (e, Ranged) (a, b, c, d, r)

ranged_at : {h i p q : ℕ} (R : List Row) → h ≡ i → p ≡ q → Ranged h p R → Ranged i q R
ranged_at R e f r = rw (← e, ← f) r

ranged_leaf : (row : Row) (h p : ℕ) (R : List Row) → ltb row.kind 4 ≡ false → h < 64 → 4 ≤ row.kind → Ranged (h + 1) p R → Ranged h p (row ∷ R)
unfolding Ranged
ranged_leaf row h p R e a b r = rw (e, Ranged) (a, b, r)

mutual
  unfolding post inner nodes how_many

  ranged_post : (h p v : ℕ) (t : Tree) (R : List Row) → h + p + suc (inner t) ≤ 64 → v + length (nodes t) ≤ 64 → Ranged (h + 1) (p + inner t) R → Ranged h p (post v t ++ R)
  ranged_post h p v (leaf true r ls) R a b k = ranged_leaf _ h p R refl (omega arith) (omega arith) (ranged_at R refl (omega arith) k)
  ranged_post h p v (leaf false r ls) R a b k = ranged_leaf _ h p R refl (omega arith) (omega arith) (ranged_at R refl (omega arith) k)
  ranged_post h p v (forall_node d σ t) R a b k = rw (append_assoc (post (suc v) t)) (ranged_post h p (suc v) t _ (omega arith) (omega arith) (ranged_node _ (h + 1) (p + inner t) R refl (omega arith) (omega arith) (omega arith) (omega arith) (ranged_at R (omega arith) (omega arith) k)))
  ranged_post h p v (exists_node d σ t) R a b k = rw (append_assoc (post (suc v) t)) (ranged_post h p (suc v) t _ (omega arith) (omega arith) (ranged_node _ (h + 1) (p + inner t) R refl (omega arith) (omega arith) (omega arith) (omega arith) (ranged_at R (omega arith) (omega arith) k)))
  ranged_post h p v (and_node ts) R a b k = rw (append_assoc (post_all (suc v) ts)) (ranged_all h p (suc v) ts _ (omega arith) (omega arith) (ranged_node _ (h + how_many ts) (p + inner_all ts) R refl (omega arith) (omega arith) (omega arith) (omega arith) (ranged_at R (omega arith) (omega arith) k)))
  ranged_post h p v (or_node ts) R a b k = rw (append_assoc (post_all (suc v) ts)) (ranged_all h p (suc v) ts _ (omega arith) (omega arith) (ranged_node _ (h + how_many ts) (p + inner_all ts) R refl (omega arith) (omega arith) (omega arith) (omega arith) (ranged_at R (omega arith) (omega arith) k)))

  ranged_all : (h p v : ℕ) (ts : Trees) (R : List Row) → h + p + (inner_all ts + how_many ts) ≤ 64 → v + length (nodes_all ts) ≤ 64 → Ranged (h + how_many ts) (p + inner_all ts) R → Ranged h p (post_all v ts ++ R)
  ranged_all h p v end R a b k = ranged_at R (omega arith) (omega arith) k
  ranged_all h p v (t then ts) R a b k =
      rw (append_assoc (post v t))
      (ranged_post h p v t (post_all (v + length (nodes t)) ts ++ R) (omega arith) (omega (arith, length-append (nodes t) (nodes_all ts)))
      (ranged_all (h + 1) (p + inner t) (v + length (nodes t)) ts R (omega arith) (omega (arith, length-append (nodes t) (nodes_all ts))) (ranged_at R (omega arith) (omega arith) k)))

-- a tree has a row for each of its nodes
mutual
  unfolding inner nodes how_many

  pub nodes_le : (t : Tree) → length (nodes t) ≤ suc (inner t)
  nodes_le (leaf p r ls) = zero-le
  nodes_le (forall_node d σ t) = omega (arith, nodes_le t)
  nodes_le (exists_node d σ t) = omega (arith, nodes_le t)
  nodes_le (and_node ts) = omega (arith, all_le ts)
  nodes_le (or_node ts) = omega (arith, all_le ts)

  all_le : (ts : Trees) → length (nodes_all ts) ≤ inner_all ts + how_many ts
  all_le end = zero-le
  all_le (t then ts) = omega (arith, nodes_le t, all_le ts, length-append (nodes t) (nodes_all ts))

pub tree_ranged : (t : Tree) → suc (inner t) ≤ 64 → Ranged 0 0 (post 0 t)
unfolding Ranged
tree_ranged t h = rw append-nil at (ranged_post 0 0 0 t [] (omega arith) (omega (arith, nodes_le t)) tt)

-- ---- heads
head_part : (rels v : ℕ) (t : Tree) → Small rels t → head_in (part_of v t) ≡ head_from v t
unfolding part_of head_from Small
head_part rels v (leaf true r ls) s = rw (take_pad 4 ls (omega (arith, s.1)))
head_part rels v (leaf false r ls) s = rw (take_pad 4 ls (omega (arith, s.1)))
head_part rels v (forall_node d σ t) s = rw (take_pad 4 (free (forall_node d σ t)) (free_few (forall_node d σ t)))
head_part rels v (exists_node d σ t) s = rw (take_pad 4 (free (exists_node d σ t)) (free_few (exists_node d σ t)))
head_part rels v (and_node ts) s = rw (take_pad 4 (free (and_node ts)) (free_few (and_node ts)))
head_part rels v (or_node ts) s = rw (take_pad 4 (free (or_node ts)) (free_few (or_node ts)))

head_parts : (rels v : ℕ) (ts : Trees) → AllSmall rels ts → map head_in (heads v ts) ≡ map head_of (parts_from v ts)
unfolding parts_from Small
head_parts rels v end s = refl
head_parts rels v (t then ts) s = rw (head_part rels v t s.0, head_parts rels (v + length (nodes t)) ts s.1)

head_kids : (rels v : ℕ) (t : Tree) → Small rels t → map head_in (kids_of v t) ≡ map head_of (parts v t)
unfolding parts Small
head_kids rels v (leaf p r ls) s = refl
head_kids rels v (forall_node d σ t) s = rw (head_part rels (suc v) t s.2)
head_kids rels v (exists_node d σ t) s = rw (head_part rels (suc v) t s.2)
head_kids rels v (and_node ts) s = head_parts rels (suc v) ts s
head_kids rels v (or_node ts) s = head_parts rels (suc v) ts s

mutual
  unfolding nodes Small Each

  nodes_small : (rels : ℕ) (t : Tree) → Small rels t → Each (Small rels) (leaf true 0 []) (nodes t)
  nodes_small rels (leaf p r ls) s = tt
  nodes_small rels (forall_node d σ t) s = (s, nodes_small rels t s.2)
  nodes_small rels (exists_node d σ t) s = (s, nodes_small rels t s.2)
  nodes_small rels (and_node ts) s = (s, all_small rels ts s)
  nodes_small rels (or_node ts) s = (s, all_small rels ts s)

  all_small : (rels : ℕ) (ts : Trees) → AllSmall rels ts → Each (Small rels) (leaf true 0 []) (nodes_all ts)
  all_small rels end s = tt
  all_small rels (t then ts) s = each_append (Small rels) (leaf true 0 []) (nodes t) (nodes_all ts) (nodes_small rels t s.0) (all_small rels ts s.1)

-- ---- the table
shown_is : (rels v : ℕ) (t : Tree) (row : NodeRow) (l : Laid) → Small rels t → Shown v t row l → IsNode v t row l.parts
shown_is rels v t row l s h = subst (λ (r : NodeRow). IsNode v t r l.parts) (sym h.is) (record {
  kind = refl;
  level = refl;
  sort = refl;
  width = refl;
  levels = take_pad 4 (free t) (free_few t);
  parts = ap (λ (x : List PartRow). map head_in x) h.parts ∙ head_kids rels v t s;
})

abbrev pub table_of : Laid → Tree → Nodes
table_of l root = record { count = length (nodes root); placed = l.placed; rows = l.rows; parts = l.parts; root = part_of 0 root }

module _ (rels : ℕ) (root : Tree) (o : 0 < rels) (b : rels ≤ 18) (s : Small rels root) (h : suc (inner root) ≤ 64) where
  few : length (nodes root) ≤ 64
  few = omega (arith, nodes_le root)

  sound : SoundLaid rels (length (nodes root)) b few (laid 0 root blank)
  sound = laid_sound rels (length (nodes root)) b few 0 root blank s (omega arith) (omega arith) (blank_sound rels (length (nodes root)) b few o)

  grows : Grows 0 (nodes root) blank (laid 0 root blank) (inner root)
  grows = from_this (blank_sound rels (length (nodes root)) b few o)
    where
      from_this : SoundLaid rels (length (nodes root)) b few blank → Grows 0 (nodes root) blank (laid 0 root blank) (inner root)
      from_this x = laid_grows 0 root blank (omega (arith, x.rows_length, nodes_le root)) (omega (arith, x.parts_length))

  pub table_is : IsTable rels root (table_of (laid 0 root blank) root)
  table_is = record {
    count = refl;
    node = λ v k. node v k;
    top = head_part rels 0 root s;
    within = λ i. (sound.parts i).within;
    top_within = (part_good rels (length (nodes root)) b few 0 root s (omega arith)).within;
  }
    where
      node : (v : ℕ) → v < length (nodes root) → IsNode v (get_or (nodes root) v (leaf true 0 [])) (get_or (laid 0 root blank).rows v no_node) (laid 0 root blank).parts
      node v k = at v (omega arith) (shown_is rels (0 + v) (get_or (nodes root) v (leaf true 0 [])) (get_or (laid 0 root blank).rows (0 + v) no_node) (laid 0 root blank) (each_at (Small rels) (leaf true 0 []) (nodes root) (nodes_small rels root s) v k) (grows.new_rows v k))
        where
          at : (w : ℕ) → 0 + v ≡ w → IsNode (0 + v) (get_or (nodes root) v (leaf true 0 [])) (get_or (laid 0 root blank).rows (0 + v) no_node) (laid 0 root blank).parts → IsNode w (get_or (nodes root) v (leaf true 0 [])) (get_or (laid 0 root blank).rows w no_node) (laid 0 root blank).parts
          at w e x = subst (λ (u : ℕ). IsNode u (get_or (nodes root) v (leaf true 0 [])) (get_or (laid 0 root blank).rows u no_node) (laid 0 root blank).parts) e x

  pub table_fits : Fits (table_of (laid 0 root blank) root)
  table_fits = record {
    few = few;
    few_parts = omega (arith, grows.placed);
    parts = record { parts_length = sound.parts_length; part = λ i. (sound.parts i).fits };
    nodes = record { rows_length = sound.rows_length; node = λ i. sound.rows i };
    root = (part_good rels (length (nodes root)) b few 0 root s (omega arith)).fits;
  }

  pub run_whole : run (post 0 root) (record { stack = []; laid = blank }) ≡ record { stack = part_of 0 root ∷ []; laid = laid 0 root blank }
  run_whole = run_post rels 0 root s (record { stack = []; laid = blank })
