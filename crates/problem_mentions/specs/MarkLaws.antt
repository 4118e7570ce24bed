-- One turn of the loops over parts and nodes, and that marks and atoms are those of the problem.
use Rattle.std.specs.Prelude.{◌≡◌, Bool, eqb, ltb, set, take, replicate, if◌then◌else◌}
use Rattle.std.proofs.Math.Path.{refl, sym, ap, ap₂}
use Rattle.std.proofs.Common.{subst, ◌∙◌, zero-add, add-one, length-drop, get_or-set_same, get_or-set_other, get_or-drop, take-suc, lt-ltb, le-ltb}
use Rattle.std.proofs.Math.Bool.{true, false, ◌||◌, or-false, or_assoc}
use mathlib.Core.List.{List, [], ◌∷◌, ◌++◌, map}
use Prim.Native.Nat.{ℕ, zero, suc, ◌+◌, ◌-◌, ◌*◌, ◌^◌, ◌<◌, ◌≤◌}
use Rattle.std.proofs.Math.Decide.{ℕ_discrete}
use native.Mathlib.Omega.{arith}
use Rattle.std.proofs.Math.ListN.{length, get_or, drop, length-set, length-replicate}
use Rattle.std.proofs.Math.Seq.{drop-cons, drop-nil}
use Rattle.definitions.specs.Lists.{any, filter, sum}
use Rattle.definitions.specs.Problem.Tree.{Tree, Trees, leaf, forall_node, exists_node, and_node, or_node, end, ◌then◌, Part, parts_from, parts, nodes}
use Rattle.definitions.specs.Problem.Atoms.{Problem, node_at, node_width as width_of}
use Rattle.definitions.specs.Reply.Allowance.{mentions, mentions_in, allowance}
use Rattle.meaning.specs.Parts.{Here, HereAll, IsNode, under_forall, under_exists, parts_and, parts_or, head_here, tail_here, node_at_lem}
use Rattle.meaning.specs.Means.{Good, here_at, is_node}
use Rattle.rule_nodes.specs.Bounds.{in_parts}
use Rattle.rule_nodes.specs.Tables.{Head, head_from, head_of, head_in, no_node, no_part, Fits}
use Rattle.rule_nodes.specs.declared.PartRow.{PartRow}
use Rattle.rule_nodes.specs.declared.Nodes.{Nodes}
use Rattle.problem_layout.specs.declared.Relations.{Relations}
use Rattle.problem_layout.specs.Laid.{Inputs}
use Rattle.problem_layout.specs.LaidLaws.{node_width_le, pow_most}
use Rattle.problem_layout.specs.StartsAre.{count_is, node_is, node_width_lem}
use Rattle.problem_mentions.specs.Marks.{part_hits, hits, row_hits, row_width, marks_after, atoms_after}

-- ---- turns
pub found_literal : (before : Bool) (tag which : ℕ) (marked : Bool) (r : ℕ) → before ≡ false → tag < 2 → eqb which r ≡ (before || (if ltb tag 2 then eqb which r else marked))
found_literal before tag which marked r e h = rw (e, lt-ltb tag 2 h) refl

pub found_node : (before : Bool) (tag which : ℕ) (marked : Bool) (r : ℕ) → before ≡ false → 2 ≤ tag → marked ≡ (before || (if ltb tag 2 then eqb which r else marked))
found_node before tag which marked r e h = rw (e, le-ltb tag 2 h) refl

hits_suc : (ps : List PartRow) (marks : List Bool) (r first k : ℕ) → hits ps marks r first (suc k) ≡ (hits ps marks r first k || part_hits marks r (get_or ps (first + k) no_part))
unfolding hits
hits_suc ps marks r first k = refl

pub hits_none : (ps : List PartRow) (marks : List Bool) (r first : ℕ) → false ≡ hits ps marks r first 0
unfolding hits
hits_none ps marks r first = refl

-- a part is looked at: it stands at first + k
pub hits_next : (ps : List PartRow) (marks : List Bool) (r first k which : ℕ) (hit now : Bool) → hit ≡ hits ps marks r first k → which ≡ (get_or ps (first + k) no_part).which
    → now ≡ (hit || (if ltb (get_or ps (first + k) no_part).tag 2 then eqb which r else get_or marks which false)) → now ≡ hits ps marks r first (k + 1)
unfolding part_hits
hits_next ps marks r first k which hit now e w q =
    q ∙ ap₂ (λ (b : Bool) (x : ℕ). b || (if ltb (get_or ps (first + k) no_part).tag 2 then eqb x r else get_or marks x false)) e w ∙ sym (hits_suc ps marks r first k) ∙ ap (hits ps marks r first) (sym (add-one k))

module _ (t : Nodes) (r : ℕ) where
  pub marks_length : (d : ℕ) → length (marks_after t r d) ≡ 64
  unfolding marks_after
  marks_length zero = length-replicate 64 false
  marks_length (suc d) = length-set (marks_after t r d) _ _ ∙ marks_length d

  pub marks_first : replicate 64 false ≡ marks_after t r 0
  unfolding marks_after
  marks_first = refl

  marks_suc : (d : ℕ) → marks_after t r (suc d) ≡ set (marks_after t r d) (t.count - suc d) (row_hits t (marks_after t r d) r (t.count - suc d))
  unfolding marks_after
  marks_suc d = refl

  -- a node is done: it is node v, its parts begin at `first`
  pub marks_next : (d v first many : ℕ) (marks : List Bool) (hit : Bool) → v ≡ t.count - (d + 1) → first ≡ (get_or t.rows v no_node).first → many ≡ (get_or t.rows v no_node).many
      → marks ≡ marks_after t r d → hit ≡ hits t.parts marks r first many → set marks v hit ≡ marks_after t r (d + 1)
  marks_next d v first many marks hit ev ef em e h =
      let a : v ≡ t.count - suc d = ev ∙ ap (λ (x : ℕ). t.count - x) (add-one d) in
      let b : hit ≡ row_hits t marks r v = h ∙ ap₂ (hits t.parts marks r) ef em in
      ap (set marks v) b ∙ ap₂ (λ (m : List Bool) (u : ℕ). set m u (row_hits t m r u)) e a ∙ sym (marks_suc d) ∙ ap (marks_after t r) (sym (add-one d))

module _ (n : ℕ) (t : Nodes) (r : ℕ) where
  pub atoms_first : 1 ≡ atoms_after n t r 0
  unfolding atoms_after
  atoms_first = refl

  atoms_suc : (d : ℕ) → atoms_after n t r (suc d) ≡ atoms_after n t r d + (if row_hits t (marks_after t r d) r (t.count - suc d) then row_width n t (t.count - suc d) else 0)
  unfolding atoms_after
  atoms_suc d = refl

  pub atoms_next : (d v first many total w x : ℕ) (marks : List Bool) (hit : Bool) → v ≡ t.count - (d + 1) → first ≡ (get_or t.rows v no_node).first → many ≡ (get_or t.rows v no_node).many
      → marks ≡ marks_after t r d → hit ≡ hits t.parts marks r first many → w ≡ row_width n t v → x ≡ (if hit then w else 0) → total ≡ atoms_after n t r d → total + x ≡ atoms_after n t r (d + 1)
  atoms_next d v first many total w x marks hit ev ef em e h ew ex q =
      let a : v ≡ t.count - suc d = ev ∙ ap (λ (x : ℕ). t.count - x) (add-one d) in
      let b : hit ≡ row_hits t marks r v = h ∙ ap₂ (hits t.parts marks r) ef em in
      ap₂ ◌+◌ q (ex ∙ ap₂ (λ (y : Bool) (z : ℕ). if y then z else 0) b ew ∙ ap₂ (λ (m : List Bool) (u : ℕ). if row_hits t m r u then row_width n t u else 0) e a) ∙ sym (atoms_suc d) ∙ ap (atoms_after n t r) (sym (add-one d))

  -- no sum overflows
  pub counted_le : (marked : Bool) (w x : ℕ) → x ≡ (if marked then w else 0) → x ≤ w
  counted_le true w x e = omega arith
  counted_le false w x e = omega arith

  pub atoms_bound : n ≤ 64 → Fits t → (d : ℕ) → atoms_after n t r d ≤ 1 + d * (64 ^ 4 * 64)
  unfolding atoms_after
  atoms_bound h f zero = omega arith
  atoms_bound h f (suc d) =
      let v = t.count - suc d in
      let a = counted_le (row_hits t (marks_after t r d) r v) (row_width n t v) _ refl in
      let b = node_width_le n (n ^ (get_or t.rows v no_node).width) (get_or t.rows v no_node).kind h (pow_most n (get_or t.rows v no_node).width h (f.nodes.node v).width) in
      omega (arith, atoms_bound h f d)

drop_past : {A : Type 0} (k : ℕ) (l : List A) → length l ≤ k → drop k l ≡ []
drop_past k [] h = drop-nil k
drop_past zero (x ∷ l) h = absurd (omega arith)
drop_past (suc k) (x ∷ l) h = drop_past k l (omega arith)

-- ---- the parts of a row as a list
module _ {A B : Type 0} where
  any_map : (f : B → Bool) (g : A → B) (l : List A) → any f (map g l) ≡ any (λ x. f (g x)) l
  unfolding any
  any_map f g [] = refl
  any_map f g (x ∷ l) = ap (λ (b : Bool). f (g x) || b) (any_map f g l)

any_snoc : {A : Type 0} (f : A → Bool) (l : List A) (x : A) → any f (l ++ (x ∷ [])) ≡ (any f l || f x)
unfolding any
any_snoc f [] x = or-false (f x)
any_snoc f (y ∷ l) x = ap (λ (b : Bool). f y || b) (any_snoc f l x) ∙ sym (or_assoc (f y) (any f l) (f x))

hits_any : (ps : List PartRow) (marks : List Bool) (r first k : ℕ) → first + k ≤ length ps → hits ps marks r first k ≡ any (part_hits marks r) (take k (drop first ps))
unfolding hits any
hits_any ps marks r first zero h = refl
hits_any ps marks r first (suc k) h =
    let l : k < length (drop first ps) = (let e = length-drop first ps in omega arith) in
    ap₂ ◌||◌ (hits_any ps marks r first k (omega arith)) (ap (part_hits marks r) (sym (get_or-drop first ps k no_part)))
    ∙ sym (any_snoc (part_hits marks r) (take k (drop first ps)) (get_or (drop first ps) k no_part)) ∙ ap (any (part_hits marks r)) (sym (take-suc (drop first ps) k no_part l))

-- of a head alone
unfoldable head_hits : List Bool → ℕ → Head → Bool
head_hits marks r h = if ltb h.tag 2 then eqb h.which r else get_or marks h.which false

heads_hit : (marks : List Bool) (r : ℕ) (l : List PartRow) → any (part_hits marks r) l ≡ any (head_hits marks r) (map head_in l)
unfolding any part_hits head_hits
heads_hit marks r [] = refl
heads_hit marks r (q ∷ l) = ap (λ (b : Bool). part_hits marks r q || b) (heads_hit marks r l)

-- ---- the marks are right
module _ (p : Problem) (G : Good p) (ws : List ℕ) (types : ℕ) (g : Relations) (t : Nodes) (is : Inputs p p.size ws types g t) (fits : Fits t) (r : ℕ) where
  -- every node from v on has its mark
  abbrev Marked : ℕ → List Bool → Type 0
  Marked v marks = (u : ℕ) → v ≤ u → u < t.count → get_or marks u false ≡ mentions r (node_at p u)

  at_number : (v u : ℕ) (s : Tree) (marks : List Bool) → Marked v marks → v ≤ u → Here p u s → IsNode p s → get_or marks u false ≡ mentions r s
  at_number v u s marks m h here is_node = let (e, l) = node_at_lem p u s here is_node in m u h (omega (arith, count_is p ws types g t is)) ∙ ap (mentions r) e

  head_right : (v u : ℕ) (s : Tree) (marks : List Bool) → Marked v marks → v ≤ u → Here p u s → head_hits marks r (head_from u s) ≡ mentions r s
  unfolding head_hits head_from mentions IsNode
  head_right v u (leaf true k ls) marks m h here = refl
  head_right v u (leaf false k ls) marks m h here = refl
  head_right v u (forall_node d σ s) marks m h here = at_number v u (forall_node d σ s) marks m h here tt
  head_right v u (exists_node d σ s) marks m h here = at_number v u (exists_node d σ s) marks m h here tt
  head_right v u (and_node ts) marks m h here = at_number v u (and_node ts) marks m h here tt
  head_right v u (or_node ts) marks m h here = at_number v u (or_node ts) marks m h here tt

  heads_right : (v u : ℕ) (ts : Trees) (marks : List Bool) → Marked v marks → v ≤ u → HereAll p u ts → any (λ (q : Part). head_hits marks r (head_of q)) (parts_from u ts) ≡ mentions_in r ts
  unfolding any parts_from mentions_in
  heads_right v u end marks m h here = refl
  heads_right v u (s then ts) marks m h here = ap₂ ◌||◌ (head_right v u s marks m h (head_here p u s ts here)) (heads_right v (u + length (nodes s)) ts marks m (omega arith) (tail_here p u s ts here))

  parts_right : (v : ℕ) (s : Tree) (marks : List Bool) → Marked (suc v) marks → Here p v s → IsNode p s → any (λ (q : Part). head_hits marks r (head_of q)) (parts v s) ≡ mentions r s
  unfolding any parts mentions IsNode
  parts_right v (leaf b k ls) marks m here n = absurd n
  parts_right v (forall_node d σ s) marks m here n = or-false (head_hits marks r (head_from (suc v) s)) ∙ head_right (suc v) (suc v) s marks m (omega arith) (under_forall p v d σ s here)
  parts_right v (exists_node d σ s) marks m here n = or-false (head_hits marks r (head_from (suc v) s)) ∙ head_right (suc v) (suc v) s marks m (omega arith) (under_exists p v d σ s here)
  parts_right v (and_node ts) marks m here n = heads_right (suc v) (suc v) ts marks m (omega arith) (parts_and p v ts here)
  parts_right v (or_node ts) marks m here n = heads_right (suc v) (suc v) ts marks m (omega arith) (parts_or p v ts here)

  row_right : (v : ℕ) → v < t.count → (marks : List Bool) → Marked (suc v) marks → row_hits t marks r v ≡ mentions r (node_at p v)
  row_right v h marks m =
      let l : v < length p.node_list = omega (arith, count_is p ws types g t is) in
      let first = (get_or t.rows v no_node).first in
      let many = (get_or t.rows v no_node).many in
      hits_any t.parts marks r first many (in_parts t fits v)
      ∙ heads_hit marks r (take many (drop first t.parts))
      ∙ ap (any (head_hits marks r)) (node_is p ws types g t is v h).parts
      ∙ any_map (head_hits marks r) head_of (parts v (node_at p v))
      ∙ parts_right v (node_at p v) marks m (here_at p G v l) (is_node p G v l)

  mark_next : (d : ℕ) → d < t.count → Marked (t.count - d) (marks_after t r d) → row_hits t (marks_after t r d) r (t.count - suc d) ≡ mentions r (node_at p (t.count - suc d))
  mark_next d h m = row_right (t.count - suc d) (omega arith) (marks_after t r d) (λ u a b. m u (omega arith) b)

  marked : (d : ℕ) → d ≤ t.count → Marked (t.count - d) (marks_after t r d)
  marked zero h u a b = absurd (omega arith)
  marked (suc d) h u a b = ap (λ (m : List Bool). get_or m u false) (marks_suc t r d) ∙ from_this (ℕ_discrete u (t.count - suc d)) (marked d (omega arith))
    where
      from_this : Dec (u ≡ t.count - suc d) → Marked (t.count - d) (marks_after t r d) → get_or (set (marks_after t r d) (t.count - suc d) (row_hits t (marks_after t r d) r (t.count - suc d))) u false ≡ mentions r (node_at p u)
      from_this (yes e) m =
          let f = fits.few in
          let k = marks_length t r d in
          rw e (get_or-set_same (marks_after t r d) (t.count - suc d) _ false (omega arith) ∙ mark_next d h m)
      from_this (no e) m = get_or-set_other (marks_after t r d) (t.count - suc d) u _ false e ∙ m u (omega arith) b

  -- ---- and the atoms are those of the nodes that mention r
  abbrev weight : List Tree → ℕ
  weight ts = sum (map (width_of p.size) (filter (mentions r) ts))

  weight_cons : (x : Tree) (ts : List Tree) → weight (x ∷ ts) ≡ (if mentions r x then width_of p.size x else 0) + weight ts
  unfolding filter sum
  weight_cons x ts = by_test (mentions r x)
    where
      by_test : (b : Bool) → sum (map (width_of p.size) (if b then x ∷ filter (mentions r) ts else filter (mentions r) ts)) ≡ (if b then width_of p.size x else 0) + weight ts
      by_test true = refl
      by_test false = sym (zero-add (weight ts))

  weight_none : weight [] ≡ 0
  unfolding filter sum
  weight_none = refl

  atoms_are : (d : ℕ) → d ≤ t.count → atoms_after p.size t r d ≡ 1 + weight (drop (t.count - d) p.node_list)
  unfolding node_at
  atoms_are zero h =
      let e : drop (t.count - 0) p.node_list ≡ [] = drop_past (t.count - 0) p.node_list (omega (arith, count_is p ws types g t is)) in
      sym (atoms_first p.size t r) ∙ sym (ap (λ (ts : List Tree). 1 + weight ts) e ∙ ap (λ (x : ℕ). 1 + x) weight_none)
  atoms_are (suc d) h =
      let v = t.count - suc d in
      let x = get_or p.node_list v (leaf true 0 []) in
      let s : suc v ≡ t.count - d = omega arith in
      let a : drop v p.node_list ≡ x ∷ drop (t.count - d) p.node_list = drop-cons p.node_list v (leaf true 0 []) (omega (arith, count_is p ws types g t is)) ∙ ap (λ (k : ℕ). x ∷ drop k p.node_list) s in
      let b : row_hits t (marks_after t r d) r v ≡ mentions r x = mark_next d h (marked d (omega arith)) in
      let w : row_width p.size t v ≡ width_of p.size x = node_width_lem p ws types g t is v (omega arith) in
      let i : (if row_hits t (marks_after t r d) r v then row_width p.size t v else 0) ≡ (if mentions r x then width_of p.size x else 0) = ap₂ (λ (y : Bool) (z : ℕ). if y then z else 0) b w in
      let j = atoms_are d (omega arith) in
      let k = weight_cons x (drop (t.count - d) p.node_list) in
      let m = ap weight a in
      let q = atoms_suc p.size t r d in
      omega arith

  allowed_here : atoms_after p.size t r t.count ≡ allowance p r
  unfolding allowance
  allowed_here = let e : t.count - t.count ≡ 0 = omega arith in atoms_are t.count (omega arith) ∙ ap (λ (k : ℕ). 1 + weight (drop k p.node_list)) e

pub allowed : (n : ℕ) (t : Nodes) (r : ℕ) → Fits t → (p : Problem) (ws : List ℕ) (types : ℕ) (g : Relations) → Good p → Inputs p n ws types g t → atoms_after n t r t.count ≡ allowance p r
allowed n t r f p ws types g G is = ap (λ (m : ℕ). atoms_after m t r t.count) is.size ∙ allowed_here p G ws types g t (subst (λ (m : ℕ). Inputs p m ws types g t) is.size is) f r
