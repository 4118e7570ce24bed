-- Each node of a tree has its row in the table that the pass leaves, and its parts side by side. Assumes nothing.
use Rattle.std.specs.Prelude.{ℕ, zero, suc, ◌+◌, ◌-◌, ◌≤◌, ◌<◌, ◌≡◌, refl, true, List, [], ◌∷◌, ◌++◌, length, get_or, set, take, drop}
use Rattle.std.proofs.Common.{le_of_suc-le-suc, not-suc-le-zero, arith, sym, ap, subst, ◌∙◌, append_assoc, length-append, length-set, take-take, length-take-le, get_or-append-add, get_or-set_same, get_or-set_other, drop_at, take_at}
use Rattle.std.proofs.Math.Decide.{dec_lt}
use Rattle.std.proofs.Math.ListN.{get_or-append}
use Rattle.std.proofs.lemmas.List.Edits.{sets, sets-eq}
use Rattle.std.proofs.Math.Seq.{length-sets, take-append_seam}
use Rattle.definitions.specs.Problem.Tree.{Tree, Trees, leaf, forall_node, exists_node, and_node, or_node, end, ◌then◌, nodes, nodes_all, parts, how_many}
use Rattle.rule_nodes.specs.Tables.{no_node}
use Rattle.rule_nodes.specs.declared.NodeRow.{NodeRow}
use Rattle.rule_nodes.specs.Postorder.{inner, inner_all, kids_of, heads, row_of}
use Rattle.rule_nodes.specs.Pass.{Laid}
use Rattle.rule_nodes.specs.Laid.{lay, laid, laid_all, heads_many}

-- ---- parts of lists
module _ {A : Type 0} where
  take_in : (f m n : ℕ) (a : List A) → f + m ≤ n → take m (drop f (take n a)) ≡ take m (drop f a)
  take_in zero m n a h = take-take m n a (omega arith)
  take_in (suc f) m zero a h = absurd (omega arith)
  take_in (suc f) m (suc n) [] h = refl
  take_in (suc f) m (suc n) (x ∷ a) h = take_in f m n a (omega arith)

  -- a part in front of n is the same in lists that are the same up to n
  front_part : (f m n : ℕ) (a b : List A) → f + m ≤ n → take n a ≡ take n b → take m (drop f a) ≡ take m (drop f b)
  front_part f m n a b h e = sym (take_in f m n a h) ∙ ap (λ (l : List A). take m (drop f l)) e ∙ take_in f m n b h

  front_take : (m n : ℕ) (a b : List A) → m ≤ n → take n a ≡ take n b → take m a ≡ take m b
  front_take m n a b h e = sym (take-take m n a h) ∙ ap (λ (l : List A). take m l) e ∙ take-take m n b h

  laid_out : (l vs : List A) (i : ℕ) → i + length vs ≤ length l → sets l i vs ≡ take i l ++ (vs ++ drop (i + length vs) l)
  laid_out l vs i h = sets-eq vs l i h ∙ append_assoc (take i l) vs (drop (i + length vs) l)

  stored : (l vs : List A) (i : ℕ) → i + length vs ≤ length l → take (length vs) (drop i (sets l i vs)) ≡ vs
  stored l vs i h =
      ap (λ (x : List A). take (length vs) (drop i x)) (laid_out l vs i h)
      ∙ ap (λ (x : List A). take (length vs) x) (drop_at (take i l) (vs ++ drop (i + length vs) l) i (length-take-le i l (omega arith)))
      ∙ take-append_seam vs (drop (i + length vs) l)

  kept : (l vs : List A) (i : ℕ) → i + length vs ≤ length l → take i (sets l i vs) ≡ take i l
  kept l vs i h = ap (λ (x : List A). take i x) (laid_out l vs i h) ∙ take_at (take i l) (vs ++ drop (i + length vs) l) i (length-take-le i l (omega arith))

-- ---- a node's row and its parts
pub record Shown (v : ℕ) (t : Tree) (row : NodeRow) (l : Laid) : Type 0 where
  pub first : ℕ
  pub many : ℕ
  pub is : row ≡ row_of t first many
  pub within : first + many ≤ l.placed
  pub parts : take many (drop first l.parts) ≡ kids_of v t

shown_later : (v : ℕ) (t : Tree) (row new : NodeRow) (l m : Laid) → new ≡ row → l.placed ≤ m.placed → take l.placed m.parts ≡ take l.placed l.parts → Shown v t row l → Shown v t new m
shown_later v t row new l m e h k s = record {
  first = s.first;
  many = s.many;
  is = e ∙ s.is;
  within = omega (arith, s.within);
  parts = front_part s.first s.many l.placed m.parts l.parts s.within k ∙ s.parts;
}

-- from l to m the nodes N got their rows, the first of them row v, and k parts were placed
pub record Grows (v : ℕ) (N : List Tree) (l m : Laid) (k : ℕ) : Type 0 where
  pub placed : m.placed ≡ l.placed + k
  pub parts_length : length m.parts ≡ length l.parts
  pub rows_length : length m.rows ≡ length l.rows
  pub old_parts : take l.placed m.parts ≡ take l.placed l.parts
  pub old_rows : (w : ℕ) → w < v → get_or m.rows w no_node ≡ get_or l.rows w no_node
  pub new_rows : (i : ℕ) → i < length N → Shown (v + i) (get_or N i (leaf true 0 [])) (get_or m.rows (v + i) no_node) m

grows_none : (v : ℕ) (l : Laid) → Grows v [] l l 0
grows_none v l = record {
  placed = omega arith;
  parts_length = refl;
  rows_length = refl;
  old_parts = refl;
  old_rows = λ w h. refl;
  new_rows = λ i h. absurd (not-suc-le-zero h);
}

-- first these, then those
grows_both : (v : ℕ) (N M : List Tree) (l m n : Laid) (k j : ℕ) → Grows v N l m k → Grows (v + length N) M m n j → Grows v (N ++ M) l n (k + j)
grows_both v N M l m n k j g h = record {
  placed = omega (arith, g.placed, h.placed);
  parts_length = h.parts_length ∙ g.parts_length;
  rows_length = h.rows_length ∙ g.rows_length;
  old_parts = front_take l.placed m.placed n.parts m.parts (omega (arith, g.placed)) h.old_parts ∙ g.old_parts;
  old_rows = λ w q. h.old_rows w (omega arith) ∙ g.old_rows w q;
  new_rows = λ i q. row i q (dec_lt i (length N));
}
  where
    row : (i : ℕ) → i < length (N ++ M) → Dec (i < length N) → Shown (v + i) (get_or (N ++ M) i (leaf true 0 [])) (get_or n.rows (v + i) no_node) n
    row i q (yes c) =
        subst (λ (t : Tree). Shown (v + i) t (get_or n.rows (v + i) no_node) n) (sym (get_or-append N M (leaf true 0 []) i c))
        (shown_later (v + i) (get_or N i (leaf true 0 [])) (get_or m.rows (v + i) no_node) (get_or n.rows (v + i) no_node) m n (h.old_rows (v + i) (omega arith)) (omega (arith, h.placed)) h.old_parts (g.new_rows i c))
    row i q (no c) = second (i - length N) (omega arith) (omega (arith, length-append N M))
      where
        move : {y z : ℕ} {t u : Tree} → y ≡ z → t ≡ u → Shown y t (get_or n.rows y no_node) n → Shown z u (get_or n.rows z no_node) n
        move {y} {z} {t} {u} e a s = subst (λ (w : ℕ). Shown w u (get_or n.rows w no_node) n) e (subst (λ (w : Tree). Shown y w (get_or n.rows y no_node) n) a s)

        second : (x : ℕ) → i ≡ length N + x → x < length M → Shown (v + i) (get_or (N ++ M) i (leaf true 0 [])) (get_or n.rows (v + i) no_node) n
        second x e u =
            let p : v + length N + x ≡ v + i = omega arith in
            let a : get_or M x (leaf true 0 []) ≡ get_or (N ++ M) i (leaf true 0 []) = sym (get_or-append-add N M x (leaf true 0 [])) ∙ ap (λ (y : ℕ). get_or (N ++ M) y (leaf true 0 [])) (sym e) in
            move p a (h.new_rows x u)

-- the nodes below, and then the node itself
grows_node : (v : ℕ) (t : Tree) (N : List Tree) (l m : Laid) (k : ℕ) → Grows (suc v) N l m k → v < length l.rows → l.placed + (k + length (kids_of v t)) ≤ length l.parts → Grows v (t ∷ N) l (lay v t m) (k + length (kids_of v t))
grows_node v t N l m k g h b = record {
  placed = omega (arith, g.placed);
  parts_length = length-sets m.parts m.placed (kids_of v t) ∙ g.parts_length;
  rows_length = length-set m.rows v (row_of t m.placed (length (kids_of v t))) ∙ g.rows_length;
  old_parts = front_take l.placed m.placed (sets m.parts m.placed (kids_of v t)) m.parts (omega (arith, g.placed)) same_parts ∙ g.old_parts;
  old_rows = λ w q. get_or-set_other m.rows v w (row_of t m.placed (length (kids_of v t))) no_node (λ e. omega arith) ∙ g.old_rows w (omega arith);
  new_rows = row;
}
  where
    fits : m.placed + length (kids_of v t) ≤ length m.parts
    fits = omega (arith, g.placed, g.parts_length)

    same_parts : take m.placed (sets m.parts m.placed (kids_of v t)) ≡ take m.placed m.parts
    same_parts = kept m.parts (kids_of v t) m.placed fits

    row : (i : ℕ) → i < length (t ∷ N) → Shown (v + i) (get_or (t ∷ N) i (leaf true 0 [])) (get_or (set m.rows v (row_of t m.placed (length (kids_of v t)))) (v + i) no_node) (lay v t m)
    row zero q =
        let e : v + 0 ≡ v = omega arith in
        subst (λ (w : ℕ). Shown w t (get_or (set m.rows v (row_of t m.placed (length (kids_of v t)))) w no_node) (lay v t m)) (sym e)
        (record {
          first = m.placed;
          many = length (kids_of v t);
          is = get_or-set_same m.rows v (row_of t m.placed (length (kids_of v t))) no_node (omega (arith, g.rows_length));
          within = omega arith;
          parts = stored m.parts (kids_of v t) m.placed fits;
        })
    row (suc i) q =
        let e : suc v + i ≡ v + suc i = omega arith in
        let s = g.new_rows i (le_of_suc-le-suc q) in
        subst (λ (w : ℕ). Shown w (get_or N i (leaf true 0 [])) (get_or (set m.rows v (row_of t m.placed (length (kids_of v t)))) w no_node) (lay v t m)) e
        (shown_later (suc v + i) (get_or N i (leaf true 0 [])) (get_or m.rows (suc v + i) no_node) (get_or (set m.rows v (row_of t m.placed (length (kids_of v t)))) (suc v + i) no_node) m (lay v t m)
        (get_or-set_other m.rows v (suc v + i) (row_of t m.placed (length (kids_of v t))) no_node (λ x. omega arith)) (omega arith) same_parts s)

-- ---- a tree's nodes
many_kids : (v : ℕ) (ts : Trees) (k : ℕ) → k + how_many ts ≡ k + length (heads (suc v) ts)
many_kids v ts k = ap (λ (n : ℕ). k + n) (heads_many (suc v) ts)

join_grows : (v : ℕ) (t : Tree) (ts : Trees) (l m : Laid) → kids_of v t ≡ heads (suc v) ts → Grows (suc v) (nodes_all ts) l m (inner_all ts)
    → v + suc (length (nodes_all ts)) ≤ length l.rows → l.placed + (inner_all ts + how_many ts) ≤ length l.parts
    → Grows v (t ∷ nodes_all ts) l (lay v t m) (inner_all ts + how_many ts)
join_grows v t ts l m e g h b =
    let q : inner_all ts + length (kids_of v t) ≡ inner_all ts + how_many ts = ap (λ (x : List _). inner_all ts + length x) e ∙ sym (many_kids v ts (inner_all ts)) in
    subst (λ (k : ℕ). Grows v (t ∷ nodes_all ts) l (lay v t m) k) q (grows_node v t (nodes_all ts) l m (inner_all ts) g (omega arith) (omega arith))

mutual
  unfolding nodes laid inner parts

  pub laid_grows : (v : ℕ) (t : Tree) (l : Laid) → v + length (nodes t) ≤ length l.rows → l.placed + inner t ≤ length l.parts → Grows v (nodes t) l (laid v t l) (inner t)
  laid_grows v (leaf p r ls) l h b = grows_none v l
  laid_grows v (forall_node d σ t) l h b = grows_node v (forall_node d σ t) (nodes t) l (laid (suc v) t l) (inner t) (laid_grows (suc v) t l (omega arith) (omega arith)) (omega arith) b
  laid_grows v (exists_node d σ t) l h b = grows_node v (exists_node d σ t) (nodes t) l (laid (suc v) t l) (inner t) (laid_grows (suc v) t l (omega arith) (omega arith)) (omega arith) b
  laid_grows v (and_node ts) l h b = join_grows v (and_node ts) ts l (laid_all (suc v) ts l) refl (all_grow (suc v) ts l (omega arith) (omega arith)) h b
  laid_grows v (or_node ts) l h b = join_grows v (or_node ts) ts l (laid_all (suc v) ts l) refl (all_grow (suc v) ts l (omega arith) (omega arith)) h b

  pub all_grow : (v : ℕ) (ts : Trees) (l : Laid) → v + length (nodes_all ts) ≤ length l.rows → l.placed + inner_all ts ≤ length l.parts → Grows v (nodes_all ts) l (laid_all v ts l) (inner_all ts)
  all_grow v end l h b = grows_none v l
  all_grow v (t then ts) l h b = two (laid_grows v t l (omega (arith, length-append (nodes t) (nodes_all ts))) (omega arith)) (λ g. all_grow (v + length (nodes t)) ts (laid v t l) (omega (arith, g.rows_length, length-append (nodes t) (nodes_all ts))) (omega (arith, g.placed, g.parts_length)))
    where
      two : Grows v (nodes t) l (laid v t l) (inner t) →
          (Grows v (nodes t) l (laid v t l) (inner t) → Grows (v + length (nodes t)) (nodes_all ts) (laid v t l)
          (laid_all (v + length (nodes t)) ts (laid v t l)) (inner_all ts))
          → Grows v (nodes t ++ nodes_all ts) l (laid_all (v + length (nodes t)) ts (laid v t l)) (inner t + inner_all ts)
      two g f = grows_both v (nodes t) (nodes_all ts) l (laid v t l) (laid_all (v + length (nodes t)) ts (laid v t l)) (inner t) (inner_all ts) g (f g)
