-- Truth of a tree by a valuation of its literals; by picks it is the tree's truth.
use Rattle.std.specs.Prelude.{ℕ, ◌≡◌, Bool, true, false, not}
use Rattle.std.proofs.Math.Path.{refl, ap₂}
use Rattle.std.proofs.Math.Bool.{◌&&◌, ◌||◌}
use mathlib.Core.List.{List, [], ◌∷◌, map}
use Rattle.definitions.specs.Lists.{all, any}
use Rattle.definitions.specs.Sheet.Relations.{Tuple}
use Rattle.definitions.specs.Problem.Truth.{Case, members_of, holds}
use Rattle.definitions.specs.Problem.Tree.{Tree, Trees, leaf, forall_node, exists_node, and_node, or_node, end, ◌then◌}
use Rattle.definitions.specs.Problem.Actions.{Values, with_value}
use Rattle.definitions.specs.Problem.Built.{tree_holds, trees_hold, some_holds}

-- a valuation says whether the tuple of a relation at places is so, or its not-tuple
abbrev pub Literals : Type 0
Literals = Bool → ℕ → List ℕ → Bool

unfoldable mutual
  pub tree_by : Case → Literals → Values → Tree → Bool
  tree_by c lit e (leaf b r ls) = lit b r (map e ls)
  tree_by c lit e (forall_node d s t) = all (λ x. tree_by c lit (with_value e d x) t) (members_of c s)
  tree_by c lit e (exists_node d s t) = any (λ x. tree_by c lit (with_value e d x) t) (members_of c s)
  tree_by c lit e (and_node ts) = trees_by c lit e ts
  tree_by c lit e (or_node ts) = some_by c lit e ts

  pub trees_by : Case → Literals → Values → Trees → Bool
  trees_by c lit e end = true
  trees_by c lit e (t then ts) = tree_by c lit e t && trees_by c lit e ts

  pub some_by : Case → Literals → Values → Trees → Bool
  some_by c lit e end = false
  some_by c lit e (t then ts) = tree_by c lit e t || some_by c lit e ts

-- by picks; and by two sets of them: a tuple is so if it holds with all that may be picked, a not-tuple unless it holds with what must be
unfoldable pub by_picks : Case → (may must : List Tuple) → Literals
by_picks c may must true r xs = holds c may r xs
by_picks c may must false r xs = not (holds c must r xs)

-- tests that agree everywhere
module _ {A : Type 0} (f g : A → Bool) (h : (x : A) → f x ≡ g x) where
  pub all_same : (l : List A) → all f l ≡ all g l
  unfolding all
  all_same [] = refl
  all_same (x ∷ l) = ap₂ ◌&&◌ (h x) (all_same l)

  pub any_same : (l : List A) → any f l ≡ any g l
  unfolding any
  any_same [] = refl
  any_same (x ∷ l) = ap₂ ◌||◌ (h x) (any_same l)

-- with one set of picks it is the tree's truth
module _ (c : Case) (P : List Tuple) where
  mutual
    unfolding tree_by by_picks tree_holds

    pub by_holds : (e : Values) (t : Tree) → tree_by c (by_picks c P P) e t ≡ tree_holds c P e t
    by_holds e (leaf true r ls) = refl
    by_holds e (leaf false r ls) = refl
    by_holds e (forall_node d s t) = all_same _ _ (λ x. by_holds (with_value e d x) t) (members_of c s)
    by_holds e (exists_node d s t) = any_same _ _ (λ x. by_holds (with_value e d x) t) (members_of c s)
    by_holds e (and_node ts) = trees_by_hold e ts
    by_holds e (or_node ts) = some_by_holds e ts

    trees_by_hold : (e : Values) (ts : Trees) → trees_by c (by_picks c P P) e ts ≡ trees_hold c P e ts
    trees_by_hold e end = refl
    trees_by_hold e (t then ts) = ap₂ ◌&&◌ (by_holds e t) (trees_by_hold e ts)

    some_by_holds : (e : Values) (ts : Trees) → some_by c (by_picks c P P) e ts ≡ some_holds c P e ts
    some_by_holds e end = refl
    some_by_holds e (t then ts) = ap₂ ◌||◌ (by_holds e t) (some_by_holds e ts)
