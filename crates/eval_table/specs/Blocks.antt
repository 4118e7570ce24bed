-- A node with the join right under it: its parts, and its truth by them.
use Rattle.std.specs.Prelude.{◌≡◌, ◌⊎◌, Bool, ◌&&◌, ◌||◌, get_or, if◌then◌else◌}
use Rattle.std.proofs.Math.Path.{refl, sym, ap, fun_ext}
use Rattle.std.proofs.Common.{ap₂, subst, ◌∙◌, inl, inr, arith, eqb-true}
use Rattle.std.proofs.Math.Bool.{true, false, not}
use mathlib.Core.List.{List, [], ◌∷◌}
use Prim.Native.Nat.{ℕ, zero, suc, ◌+◌, ◌<◌}
use Rattle.std.proofs.Math.Dec.{T, eqb}
use Rattle.std.proofs.Math.ListN.{length}
use Rattle.definitions.specs.Lists.{all, any, from, below}
use Rattle.definitions.specs.Problem.Truth.{Case, members_of}
use Rattle.definitions.specs.Problem.Tree.{Tree, Trees, leaf, forall_node, exists_node, and_node, or_node, end, ◌then◌, Part, parts_from, nodes, occurs}
use Rattle.definitions.specs.Problem.Actions.{Values, with_value}
use Rattle.laws.specs.Valued.{Literals, tree_by, trees_by, some_by}
use Rattle.meaning.specs.Parts.{by_same}
use Rattle.problem_table.specs.Of.{no_part}
use Rattle.eval_rule.specs.Lines.{agree, value_of, values_of, decided, joined, bound}
use Rattle.eval_rule.specs.Laws.{same_value}

-- ---- the parts joined right under a quantifier, where u's preorder number is k, and by what (0 and, 1 or)
unfoldable pub under : ℕ → Tree → List Part
under k (leaf q r ls) = record { node = k; tree = leaf q r ls } ∷ []
under k (forall_node d σ t) = record { node = k; tree = forall_node d σ t } ∷ []
under k (exists_node d σ t) = record { node = k; tree = exists_node d σ t } ∷ []
under k (and_node ts) = parts_from (suc k) ts
under k (or_node ts) = parts_from (suc k) ts

unfoldable pub join_of : Tree → ℕ
join_of (leaf q r ls) = 1
join_of (forall_node d σ t) = 1
join_of (exists_node d σ t) = 1
join_of (and_node ts) = 0
join_of (or_node ts) = 1

-- ---- of a node
unfoldable pub block_parts : ℕ → Tree → List Part
block_parts v (leaf q r ls) = []
block_parts v (forall_node d σ t) = under (suc v) t
block_parts v (exists_node d σ t) = under (suc v) t
block_parts v (and_node ts) = parts_from (suc v) ts
block_parts v (or_node ts) = parts_from (suc v) ts

unfoldable pub block_kind : Tree → ℕ
block_kind (leaf q r ls) = 2
block_kind (forall_node d σ t) = 0
block_kind (exists_node d σ t) = 1
block_kind (and_node ts) = 2
block_kind (or_node ts) = 2

unfoldable pub block_level : Tree → ℕ
block_level (leaf q r ls) = 0
block_level (forall_node d σ t) = d
block_level (exists_node d σ t) = d
block_level (and_node ts) = 0
block_level (or_node ts) = 0

unfoldable pub block_join : Tree → ℕ
block_join (leaf q r ls) = 0
block_join (forall_node d σ t) = join_of t
block_join (exists_node d σ t) = join_of t
block_join (and_node ts) = 0
block_join (or_node ts) = 1

-- ---- laws
any_shift : (g : ℕ → Bool) (a n : ℕ) → any g (from (suc a) n) ≡ any (λ i. g (suc i)) (from a n)
unfolding any from
any_shift g a zero = refl
any_shift g a (suc n) = ap (λ (b : Bool). g (suc a) || b) (any_shift g (suc a) n)

any_index : {A : Type 0} (p : A → Bool) (l : List A) (d : A) → any (λ i. p (get_or l i d)) (below (length l)) ≡ any p l
unfolding any from below
any_index p [] d = refl
any_index p (a ∷ l) d = ap (λ (b : Bool). p a || b) (any_shift (λ i. p (get_or (a ∷ l) i d)) zero (length l) ∙ any_index p l d)

not_decided : (b : Bool) → not b ≡ decided false b
unfolding decided
not_decided true = refl
not_decided false = refl

is_decided : (b : Bool) → b ≡ decided true b
unfolding decided
is_decided true = refl
is_decided false = refl

and_step : (a b c : Bool) → b ≡ not c → (a && b) ≡ not (agree a false || c)
unfolding agree
and_step true b c h = h
and_step false b c h = refl

or_step : (a b c : Bool) → b ≡ c → (a || b) ≡ (agree a true || c)
unfolding agree
or_step true b c h = refl
or_step false b c h = h

one_or : (b : Bool) → b ≡ decided true (agree b true || false)
unfolding agree decided
one_or true = refl
one_or false = refl

one_and : (b : Bool) → b ≡ decided false (agree b false || false)
unfolding agree decided
one_and true = refl
one_and false = refl

every_is : (f : ℕ → Bool) (l : List ℕ) → all f l ≡ not (any (λ x. agree (f x) false) l)
unfolding all any
every_is f [] = refl
every_is f (x ∷ l) = and_step (f x) (all f l) _ (every_is f l)

some_is : (f : ℕ → Bool) (l : List ℕ) → any f l ≡ any (λ x. agree (f x) true) l
unfolding any
some_is f [] = refl
some_is f (x ∷ l) = or_step (f x) (any f l) _ (some_is f l)

-- a test that all elements answer alike has one answer for every list that is not empty
or_same : (b : Bool) → (b || b) ≡ b
or_same true = refl
or_same false = refl

or_no : (b : Bool) → (b || false) ≡ b
or_no true = refl
or_no false = refl

any_alike : (g : ℕ → Bool) → ((x y : ℕ) → g x ≡ g y) → (a : ℕ) (xs : List ℕ) → 0 < length xs → any g xs ≡ g a
unfolding any
any_alike g h a [] l = absurd (omega arith)
any_alike g h a (x ∷ []) l = or_no (g x) ∙ h x a
any_alike g h a (x ∷ y ∷ xs) l = ap₂ ◌||◌ (h x a) (any_alike g h a (y ∷ xs) (omega arith)) ∙ or_same (g a)

module _ (c : Case) (lit : Literals) where
  abbrev cells : Values → List Part → ℕ → Bool
  cells e ps i = tree_by c lit e (get_or ps i no_part).tree

  trees_not : (e : Values) (ts : Trees) (k : ℕ) → trees_by c lit e ts ≡ not (any (λ (q : Part). agree (tree_by c lit e q.tree) false) (parts_from k ts))
  unfolding trees_by parts_from any
  trees_not e end k = refl
  trees_not e (t then ts) k = and_step (tree_by c lit e t) (trees_by c lit e ts) _ (trees_not e ts (k + length (nodes t)))

  some_tree : (e : Values) (ts : Trees) (k : ℕ) → some_by c lit e ts ≡ any (λ (q : Part). agree (tree_by c lit e q.tree) true) (parts_from k ts)
  unfolding some_by parts_from any
  some_tree e end k = refl
  some_tree e (t then ts) k = or_step (tree_by c lit e t) (some_by c lit e ts) _ (some_tree e ts (k + length (nodes t)))

  all_joined : (e : Values) (ts : Trees) (k : ℕ) → trees_by c lit e ts ≡ joined false (cells e (parts_from k ts)) (length (parts_from k ts))
  unfolding joined
  all_joined e ts k = trees_not e ts k ∙ ap not (sym (any_index (λ (q : Part). agree (tree_by c lit e q.tree) false) (parts_from k ts) no_part)) ∙ not_decided _

  some_joined : (e : Values) (ts : Trees) (k : ℕ) → some_by c lit e ts ≡ joined true (cells e (parts_from k ts)) (length (parts_from k ts))
  unfolding joined
  some_joined e ts k = some_tree e ts k ∙ sym (any_index (λ (q : Part). agree (tree_by c lit e q.tree) true) (parts_from k ts) no_part) ∙ is_decided _

  -- a tree by the parts joined in it
  under_truth : (k : ℕ) (e : Values) (t : Tree) → tree_by c lit e t ≡ joined (eqb (join_of t) 1) (cells e (under k t)) (length (under k t))
  unfolding under join_of joined any from below tree_by
  under_truth k e (leaf q r ls) = one_or (tree_by c lit e (leaf q r ls))
  under_truth k e (forall_node d σ t) = one_or (tree_by c lit e (forall_node d σ t))
  under_truth k e (exists_node d σ t) = one_or (tree_by c lit e (exists_node d σ t))
  under_truth k e (and_node ts) = all_joined e ts (suc k)
  under_truth k e (or_node ts) = some_joined e ts (suc k)

  one_turn : (sought : Bool) (b : Bool) → b ≡ decided sought (agree b sought || false)
  one_turn true b = one_or b
  one_turn false b = one_and b

  -- a node by the parts of its block, which is gone through once for each of the elements xs
  abbrev pub block_truth : ℕ → Values → Tree → List ℕ → Bool
  block_truth v e u xs =
      bound (eqb (block_kind u) 1)
      (λ x. joined (eqb (block_join u) 1) (cells (values_of (block_kind u) (block_level u) e x) (block_parts v u)) (length (block_parts v u))) xs

  -- the elements of a quantifier are those of its range; where its level is not free in its part, any will do for a range that is not empty
  abbrev pub Serves : (d σ : ℕ) → Tree → List ℕ → Type 0
  Serves d σ t xs = (xs ≡ members_of c σ) ⊎ ((occurs d t ≡ false) × (0 < length xs) × (0 < length (members_of c σ)))

  -- ... a join has one turn, whatever the element
  unfoldable pub GoesOver : Tree → List ℕ → Type 0
  GoesOver (leaf q r ls) xs = ⊥
  GoesOver (forall_node d σ t) xs = Serves d σ t xs
  GoesOver (exists_node d σ t) xs = Serves d σ t xs
  GoesOver (and_node ts) xs = length xs ≡ 1
  GoesOver (or_node ts) xs = length xs ≡ 1

  any_one : (b : Bool) (xs : List ℕ) → length xs ≡ 1 → any (λ x. b) xs ≡ (b || false)
  unfolding any
  any_one b (x ∷ []) h = refl
  any_one b [] h = absurd (omega arith)
  any_one b (x ∷ y ∷ xs) h = absurd (omega arith)

  -- what does not depend on a level is the same at each of its values
  pub alike : (t : Tree) (e : Values) (d x y : ℕ) → occurs d t ≡ false → tree_by c lit (with_value e d x) t ≡ tree_by c lit (with_value e d y) t
  unfolding with_value
  alike t e d x y h = by_same c lit t (with_value e d x) (with_value e d y) (λ l q. by_number l q (eqb l d) refl)
    where
      by_number : (l : ℕ) → T (occurs l t) → (b : Bool) → eqb l d ≡ b → (if b then x else e l) ≡ (if b then y else e l)
      by_number l q true k = absurd (subst T (ap (λ (z : ℕ). occurs z t) (eqb-true l d k) ∙ h) q)
      by_number l q false k = refl

  served : (sought : Bool) (e : Values) (d σ : ℕ) (t : Tree) (xs : List ℕ) → Serves d σ t xs
      → any (λ x. agree (tree_by c lit (with_value e d x) t) sought) (members_of c σ) ≡ any (λ x. agree (tree_by c lit (with_value e d x) t) sought) xs
  served sought e d σ t xs (inl h) = ap (any _) (sym h)
  served sought e d σ t xs (inr h) =
      let a : (x y : ℕ) → agree (tree_by c lit (with_value e d x) t) sought ≡ agree (tree_by c lit (with_value e d y) t) sought = λ x y. ap (λ (b : Bool). agree b sought) (alike t e d x y h.0) in
      any_alike _ a 0 (members_of c σ) h.2 ∙ sym (any_alike _ a 0 xs h.1)

  pub block_truth_lem : (v : ℕ) (e : Values) (u : Tree) (xs : List ℕ) → GoesOver u xs → tree_by c lit e u ≡ block_truth v e u xs
  unfolding block_kind block_level block_join block_parts bound value_of tree_by GoesOver
  block_truth_lem v e (leaf q r ls) xs h = absurd h
  block_truth_lem v e (forall_node d σ t) xs h =
      every_is (λ x. tree_by c lit (with_value e d x) t) (members_of c σ) ∙ not_decided _ ∙ ap (decided false) (served false e d σ t xs h)
      ∙ ap (λ (f : ℕ → Bool). decided false (any (λ x. agree (f x) false) xs)) (fun_ext (λ x. under_truth (suc v) (with_value e d x) t))
  block_truth_lem v e (exists_node d σ t) xs h =
      some_is (λ x. tree_by c lit (with_value e d x) t) (members_of c σ) ∙ is_decided _ ∙ ap (decided true) (served true e d σ t xs h)
      ∙ ap (λ (f : ℕ → Bool). decided true (any (λ x. agree (f x) true) xs)) (fun_ext (λ x. under_truth (suc v) (with_value e d x) t))
  block_truth_lem v e (and_node ts) xs h =
      all_joined e ts (suc v) ∙ ap (λ (θ : Values). joined false (cells θ (parts_from (suc v) ts)) (length (parts_from (suc v) ts))) (same_value e 0) ∙ one_turn false _
      ∙ ap (decided false) (sym (any_one _ xs h))
  block_truth_lem v e (or_node ts) xs h =
      some_joined e ts (suc v) ∙ ap (λ (θ : Values). joined true (cells θ (parts_from (suc v) ts)) (length (parts_from (suc v) ts))) (same_value e 0) ∙ one_turn false _
      ∙ ap (decided false) (sym (any_one _ xs h))
