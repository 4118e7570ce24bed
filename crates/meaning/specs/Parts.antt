-- Trees: their free levels, that truth depends on these alone, and their nodes by preorder number.
use Rattle.std.specs.Prelude.{ℕ, zero, suc, ◌+◌, ◌-◌, ◌<◌, ◌≤◌, ◌≡◌, refl, ◌⊎◌, Bool, true, false, not, ◌&&◌, ◌||◌, T, ltb, eqb, length, get_or, if◌then◌else◌}
use Rattle.std.proofs.Common.{sym, ap₂, subst, ◌∙◌, inl, inr, ⊎_elim, arith, add-zero, add_assoc, ltb→lt, lt→ltb, eqb→eq, eq-eqb, eqb-true, ltb-true, ltb-false}
use Rattle.std.proofs.Math.Path.{ap, fun_ext}
use mathlib.Core.List.Memᴰ
use mathlib.Core.List.{List, [], ◌∷◌, ◌++◌, map, Memᴰ}
use Rattle.std.proofs.Math.ListN.{length-append, get_or-append}
use Rattle.std.proofs.Math.Seq.{get_or-append-add}
use Rattle.std.proofs.lemmas.Bool.{eqb-false}
use Rattle.definitions.specs.Lists.{all, any, below}
use Rattle.definitions.specs.Sheet.Relations.{Tuple}
use Rattle.definitions.specs.Problem.Truth.{Case, members_of}
use Rattle.definitions.specs.Problem.Tree.{Tree, Trees, leaf, forall_node, exists_node, and_node, or_node, end, ◌then◌, nodes, nodes_all, occurs, occurs_in, free}
use Rattle.definitions.specs.Problem.Atoms.{Problem, relation_at, node_at}
use Rattle.definitions.specs.Problem.Actions.{Values, values_in, with_value}
use Rattle.definitions.specs.Problem.Built.{tree_holds}
use Rattle.laws.specs.Booleans.{T_and_l, T_and_r, T_of, T_or, and_T, or_l, or_r}
use Rattle.laws.specs.Lists.{all_at, any_at, mem_below, mem_filter}
use Rattle.laws.specs.Numbers.{no_node}
use Rattle.laws.specs.Valued.{Literals, tree_by, trees_by, some_by, by_picks, by_holds}

-- ---- every level that a quantifier binds or a literal names is below 4
unfoldable mutual
  pub Within : Tree → Type 0
  Within (leaf p r ls) = T (all (λ l. ltb l 4) ls)
  Within (forall_node d σ t) = (d < 4) × Within t
  Within (exists_node d σ t) = (d < 4) × Within t
  Within (and_node ts) = WithinAll ts
  Within (or_node ts) = WithinAll ts

  pub WithinAll : Trees → Type 0
  WithinAll end = Unit {0}
  WithinAll (t then ts) = Within t × WithinAll ts

mutual
  unfolding Within WithinAll occurs occurs_in

  pub occurs_lt : (t : Tree) (l : ℕ) → Within t → T (occurs l t) → l < 4
  occurs_lt (leaf p r ls) l w f = let (x, m, e) = any_at (eqb l) ls f in subst (λ (z : ℕ). z < 4) (sym (eqb→eq l x e)) (ltb→lt x 4 (all_at (λ l. ltb l 4) ls w x m))
  occurs_lt (forall_node d σ t) l w f = occurs_lt t l w.1 (T_and_r (not (eqb l d)) _ f)
  occurs_lt (exists_node d σ t) l w f = occurs_lt t l w.1 (T_and_r (not (eqb l d)) _ f)
  occurs_lt (and_node ts) l w f = occurs_in_lt ts l w f
  occurs_lt (or_node ts) l w f = occurs_in_lt ts l w f

  occurs_in_lt : (ts : Trees) (l : ℕ) → WithinAll ts → T (occurs_in l ts) → l < 4
  occurs_in_lt end l w f = absurd f
  occurs_in_lt (t then ts) l w f = ⊎_elim (λ q. occurs_lt t l w.0 q) (λ q. occurs_in_lt ts l w.1 q) (T_or (occurs l t) _ f)

-- ---- values that agree on what occurs
abbrev pub Same : (ℕ → Bool) → Values → Values → Type 0
Same f e θ = (l : ℕ) → T (f l) → e l ≡ θ l

map_same : (ls : List ℕ) (e θ : Values) → Same (λ l. any (eqb l) ls) e θ → map e ls ≡ map θ ls
unfolding any
map_same [] e θ h = refl
map_same (l ∷ ls) e θ h = ap₂ ◌∷◌ (h l (or_l (eqb l l) _ (T_of (eq-eqb l l refl)))) (map_same ls e θ (λ k q. h k (or_r (eqb k l) _ q)))

pub with_sames : (f : ℕ → Bool) (e θ : Values) (d x : ℕ) → Same (λ l. not (eqb l d) && f l) e θ → Same f (with_value e d x) (with_value θ d x)
unfolding with_value
with_sames f e θ d x h l q = by_test (eqb l d) refl
  where
    by_test : (b : Bool) → eqb l d ≡ b → (if b then x else e l) ≡ (if b then x else θ l)
    by_test true k = refl
    by_test false k = h l (and_T (not (eqb l d)) (f l) (subst (λ (b : Bool). T (not b)) (sym k) tt) q)

module _ (c : Case) (lit : Literals) where
  mutual
    unfolding occurs occurs_in tree_by

    pub by_same : (t : Tree) (e θ : Values) → Same (λ l. occurs l t) e θ → tree_by c lit e t ≡ tree_by c lit θ t
    by_same (leaf b r ls) e θ h = ap (lit b r) (map_same ls e θ h)
    by_same (forall_node d σ t) e θ h = ap (λ (f : ℕ → Bool). all f (members_of c σ)) (fun_ext (λ x. by_same t (with_value e d x) (with_value θ d x) (with_sames (λ l. occurs l t) e θ d x h)))
    by_same (exists_node d σ t) e θ h = ap (λ (f : ℕ → Bool). any f (members_of c σ)) (fun_ext (λ x. by_same t (with_value e d x) (with_value θ d x) (with_sames (λ l. occurs l t) e θ d x h)))
    by_same (and_node ts) e θ h = all_same ts e θ h
    by_same (or_node ts) e θ h = any_same ts e θ h

    all_same : (ts : Trees) (e θ : Values) → Same (λ l. occurs_in l ts) e θ → trees_by c lit e ts ≡ trees_by c lit θ ts
    all_same end e θ h = refl
    all_same (t then ts) e θ h = ap₂ ◌&&◌ (by_same t e θ (λ l q. h l (or_l (occurs l t) _ q))) (all_same ts e θ (λ l q. h l (or_r (occurs l t) _ q)))

    any_same : (ts : Trees) (e θ : Values) → Same (λ l. occurs_in l ts) e θ → some_by c lit e ts ≡ some_by c lit θ ts
    any_same end e θ h = refl
    any_same (t then ts) e θ h = ap₂ ◌||◌ (by_same t e θ (λ l q. h l (or_l (occurs l t) _ q))) (any_same ts e θ (λ l q. h l (or_r (occurs l t) _ q)))

pub holds_same : (c : Case) (picks : List Tuple) (t : Tree) (e θ : Values) → Same (λ l. occurs l t) e θ → tree_holds c picks e t ≡ tree_holds c picks θ t
holds_same c picks t e θ h = sym (by_holds c picks e t) ∙ by_same c (by_picks c picks picks) t e θ h ∙ by_holds c picks θ t

-- the values rebuilt from a node's row agree with those that it came from
values_back : (ls : List ℕ) (e : Values) (l : ℕ) → Memᴰ l ls → values_in ls (map e ls) l ≡ e l
unfolding values_in
values_back [] e l m = absurd (Memᴰ.not-nil m)
values_back (d ∷ ds) e l m = from_this (values_back ds e l) (Memᴰ.cases_cons m) (eqb l d) refl
  where
    from_this : (Memᴰ l ds → values_in ds (map e ds) l ≡ e l) → (l ≡ d) ⊎ Memᴰ l ds → (b : Bool) → eqb l d ≡ b → (if b then e d else values_in ds (map e ds) l) ≡ e l
    from_this r m true k = ap e (sym (eqb-true l d k))
    from_this r (inl q) false k = absurd (eqb-false l d k q)
    from_this r (inr q) false k = r q

pub back : (t : Tree) (e : Values) → Within t → Same (λ l. occurs l t) (values_in (free t) (map e (free t))) e
unfolding free
back t e w l f = values_back (free t) e l (mem_filter (λ l. occurs l t) (below 4) l (mem_below 4 l (occurs_lt t l w f)) f)

-- ---- values below n
abbrev pub Bnd : ℕ → Values → Type 0
Bnd n e = (l : ℕ) → e l < n

pub bnd_with : (n : ℕ) (e : Values) (d x : ℕ) → Bnd n e → x < n → Bnd n (with_value e d x)
unfolding with_value
bnd_with n e d x b h l = by_test (eqb l d)
  where
    by_test : (c : Bool) → (if c then x else e l) < n
    by_test true = h
    by_test false = b l

pub bnd_values : (n : ℕ) (ls xs : List ℕ) → 0 < n → T (all (λ x. ltb x n) xs) → Bnd n (values_in ls xs)
unfolding values_in all
bnd_values n [] xs p h l = p
bnd_values n (d ∷ ds) [] p h l = p
bnd_values n (d ∷ ds) (x ∷ xs) p h l = by_test (eqb l d) (bnd_values n ds xs p (T_and_r (ltb x n) _ h) l)
  where
    by_test : (c : Bool) → values_in ds xs l < n → (if c then x else values_in ds xs l) < n
    by_test true r = ltb→lt x n (T_and_l (ltb x n) _ h)
    by_test false r = r

pub bnd_map : (n : ℕ) (e : Values) (ls : List ℕ) → Bnd n e → T (all (λ x. ltb x n) (map e ls))
unfolding all
bnd_map n e [] b = tt
bnd_map n e (l ∷ ls) b = and_T (ltb (e l) n) _ (lt→ltb (e l) n (b l)) (bnd_map n e ls b)

-- ---- each literal names a relation, with as many variables as its arity
module _ (p : Problem) where
  unfoldable mutual
    pub Fits : Tree → Type 0
    Fits (leaf q r ls) = (r < length p.relations) × (length ls ≡ (relation_at p r).arity)
    Fits (forall_node d σ t) = Fits t
    Fits (exists_node d σ t) = Fits t
    Fits (and_node ts) = FitsAll ts
    Fits (or_node ts) = FitsAll ts

    pub FitsAll : Trees → Type 0
    FitsAll end = Unit {0}
    FitsAll (t then ts) = Fits t × FitsAll ts

  -- ---- t stands in the problem's tree, its nodes having the numbers from v on
  pub record Here (v : ℕ) (t : Tree) : Type 0 where
    pub cover : (j : ℕ) → j < length (nodes t) → node_at p (v + j) ≡ get_or (nodes t) j no_node
    pub within : Within t
    pub fits : Fits t
    pub inside : v + length (nodes t) ≤ length p.node_list

  pub record HereAll (v : ℕ) (ts : Trees) : Type 0 where
    pub cover : (j : ℕ) → j < length (nodes_all ts) → node_at p (v + j) ≡ get_or (nodes_all ts) j no_node
    pub within : WithinAll ts
    pub fits : FitsAll ts
    pub inside : v + length (nodes_all ts) ≤ length p.node_list

  shift : (v j : ℕ) → suc v + j ≡ v + suc j
  shift v j = omega arith

  pub under_forall : (v d σ : ℕ) (t : Tree) → Here v (forall_node d σ t) → Here (suc v) t
  unfolding nodes Within Fits
  under_forall v d σ t h = record { cover = λ j l. ap (node_at p) (shift v j) ∙ h.cover (suc j) (omega arith); within = h.within.1; fits = h.fits; inside = omega (arith, h.inside) }

  pub under_exists : (v d σ : ℕ) (t : Tree) → Here v (exists_node d σ t) → Here (suc v) t
  unfolding nodes Within Fits
  under_exists v d σ t h = record { cover = λ j l. ap (node_at p) (shift v j) ∙ h.cover (suc j) (omega arith); within = h.within.1; fits = h.fits; inside = omega (arith, h.inside) }

  pub parts_and : (v : ℕ) (ts : Trees) → Here v (and_node ts) → HereAll (suc v) ts
  unfolding nodes Within Fits
  parts_and v ts h = record { cover = λ j l. ap (node_at p) (shift v j) ∙ h.cover (suc j) (omega arith); within = h.within; fits = h.fits; inside = omega (arith, h.inside) }

  pub parts_or : (v : ℕ) (ts : Trees) → Here v (or_node ts) → HereAll (suc v) ts
  unfolding nodes Within Fits
  parts_or v ts h = record { cover = λ j l. ap (node_at p) (shift v j) ∙ h.cover (suc j) (omega arith); within = h.within; fits = h.fits; inside = omega (arith, h.inside) }

  pub head_here : (v : ℕ) (t : Tree) (ts : Trees) → HereAll v (t then ts) → Here v t
  unfolding nodes_all WithinAll FitsAll
  head_here v t ts h =
      let e = length-append (nodes t) (nodes_all ts) in
      record { cover = λ j l. h.cover j (omega arith) ∙ get_or-append (nodes t) (nodes_all ts) no_node j l; within = h.within.0; fits = h.fits.0; inside = omega (arith, h.inside) }

  pub tail_here : (v : ℕ) (t : Tree) (ts : Trees) → HereAll v (t then ts) → HereAll (v + length (nodes t)) ts
  unfolding nodes_all WithinAll FitsAll
  tail_here v t ts h =
      let e = length-append (nodes t) (nodes_all ts) in
      record { cover = λ j l. ap (node_at p) (add_assoc v (length (nodes t)) j) ∙ h.cover (length (nodes t) + j) (omega arith) ∙ get_or-append-add (nodes t) (nodes_all ts) j no_node; within = h.within.1; fits = h.fits.1; inside = omega (arith, h.inside) }

  move : (v w : ℕ) (t : Tree) → v ≡ w → Here v t → Here w t
  move v w t e h = subst (λ (x : ℕ). Here x t) e h

  mutual
    unfolding nodes nodes_all

    pub here_sub : (t : Tree) (v : ℕ) → Here v t → (k : ℕ) → k < length (nodes t) → Here (v + k) (get_or (nodes t) k no_node)
    here_sub (leaf q r ls) v h k l = absurd (omega arith)
    here_sub (forall_node d σ t) v h zero l = move v (v + zero) (forall_node d σ t) (sym (add-zero v)) h
    here_sub (forall_node d σ t) v h (suc k) l = move (suc v + k) (v + suc k) _ (shift v k) (here_sub t (suc v) (under_forall v d σ t h) k (omega arith))
    here_sub (exists_node d σ t) v h zero l = move v (v + zero) (exists_node d σ t) (sym (add-zero v)) h
    here_sub (exists_node d σ t) v h (suc k) l = move (suc v + k) (v + suc k) _ (shift v k) (here_sub t (suc v) (under_exists v d σ t h) k (omega arith))
    here_sub (and_node ts) v h zero l = move v (v + zero) (and_node ts) (sym (add-zero v)) h
    here_sub (and_node ts) v h (suc k) l = move (suc v + k) (v + suc k) _ (shift v k) (here_subs ts (suc v) (parts_and v ts h) k (omega arith))
    here_sub (or_node ts) v h zero l = move v (v + zero) (or_node ts) (sym (add-zero v)) h
    here_sub (or_node ts) v h (suc k) l = move (suc v + k) (v + suc k) _ (shift v k) (here_subs ts (suc v) (parts_or v ts h) k (omega arith))

    here_subs : (ts : Trees) (v : ℕ) → HereAll v ts → (k : ℕ) → k < length (nodes_all ts) → Here (v + k) (get_or (nodes_all ts) k no_node)
    here_subs end v h k l = absurd (omega arith)
    here_subs (t then ts) v h k l = step (ltb k (length (nodes t))) refl (λ q. here_sub t v (head_here v t ts h) k q) (λ q. here_subs ts (v + length (nodes t)) (tail_here v t ts h) (k - length (nodes t)) q)
      where
        step : (b : Bool) → ltb k (length (nodes t)) ≡ b → (k < length (nodes t) → Here (v + k) (get_or (nodes t) k no_node))
            → (k - length (nodes t) < length (nodes_all ts) → Here (v + length (nodes t) + (k - length (nodes t)))
            (get_or (nodes_all ts) (k - length (nodes t)) no_node)) → Here (v + k) (get_or (nodes t ++ nodes_all ts) k no_node)
        step true e f g = let q = ltb-true k (length (nodes t)) e in subst (Here (v + k)) (sym (get_or-append (nodes t) (nodes_all ts) no_node k q)) (f q)
        step false e f g =
            let q : length (nodes t) ≤ k = ltb-false k (length (nodes t)) e in
            let a = length-append (nodes t) (nodes_all ts) in
            let s : length (nodes t) + (k - length (nodes t)) ≡ k = omega arith in
            let w : v + length (nodes t) + (k - length (nodes t)) ≡ v + k = omega arith in
            move (v + length (nodes t) + (k - length (nodes t))) (v + k) _ w (subst (Here (v + length (nodes t) + (k - length (nodes t)))) (sym (get_or-append-add (nodes t) (nodes_all ts) (k - length (nodes t)) no_node) ∙ ap (λ (x : ℕ). get_or (nodes t ++ nodes_all ts) x no_node) s) (g (omega arith)))

  -- a node stands at its number
  unfoldable pub IsNode : Tree → Type 0
  IsNode (leaf q r ls) = ⊥
  IsNode (forall_node d σ t) = Unit {0}
  IsNode (exists_node d σ t) = Unit {0}
  IsNode (and_node ts) = Unit {0}
  IsNode (or_node ts) = Unit {0}

  pub node_at_lem : (v : ℕ) (t : Tree) → Here v t → IsNode t → (node_at p v ≡ t) × (v < length p.node_list)
  unfolding IsNode nodes
  node_at_lem v (leaf q r ls) h n = absurd n
  node_at_lem v (forall_node d σ t) h n = (ap (node_at p) (sym (add-zero v)) ∙ h.cover 0 (omega arith), omega (arith, h.inside))
  node_at_lem v (exists_node d σ t) h n = (ap (node_at p) (sym (add-zero v)) ∙ h.cover 0 (omega arith), omega (arith, h.inside))
  node_at_lem v (and_node ts) h n = (ap (node_at p) (sym (add-zero v)) ∙ h.cover 0 (omega arith), omega (arith, h.inside))
  node_at_lem v (or_node ts) h n = (ap (node_at p) (sym (add-zero v)) ∙ h.cover 0 (omega arith), omega (arith, h.inside))

  -- and every tree among the nodes of one is a node
  mutual
    unfolding nodes nodes_all IsNode

    pub are_nodes : (s x : Tree) → Memᴰ x (nodes s) → IsNode x
    are_nodes (leaf b k ls) x m = absurd (Memᴰ.not-nil m)
    are_nodes (forall_node d σ s) x m = ⊎_elim (λ e. subst (IsNode) (sym e) tt) (λ q. are_nodes s x q) (Memᴰ.cases_cons m)
    are_nodes (exists_node d σ s) x m = ⊎_elim (λ e. subst (IsNode) (sym e) tt) (λ q. are_nodes s x q) (Memᴰ.cases_cons m)
    are_nodes (and_node ts) x m = ⊎_elim (λ e. subst (IsNode) (sym e) tt) (λ q. all_are_nodes ts x q) (Memᴰ.cases_cons m)
    are_nodes (or_node ts) x m = ⊎_elim (λ e. subst (IsNode) (sym e) tt) (λ q. all_are_nodes ts x q) (Memᴰ.cases_cons m)

    all_are_nodes : (ts : Trees) (x : Tree) → Memᴰ x (nodes_all ts) → IsNode x
    all_are_nodes end x m = absurd (Memᴰ.not-nil m)
    all_are_nodes (s then ts) x m = ⊎_elim (λ q. are_nodes s x q) (λ q. all_are_nodes ts x q) (Memᴰ.append_cases (nodes s) m)
