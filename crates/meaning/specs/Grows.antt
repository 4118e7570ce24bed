-- A tree has no negation but at its literals, so that it stays true where more literals hold.
use Rattle.std.specs.Prelude.{ℕ, ◌+◌, Bool, true, false, not, ◌&&◌, ◌||◌, T, ltb, get_or}
use Rattle.std.proofs.Common.{sym, subst, ⊎_elim, ltb→lt, T_not, arith}
use mathlib.Core.List.{List, map, Memᴰ}
use Rattle.std.proofs.Math.Dec.{not_T}
use Rattle.definitions.specs.Lists.{all, any}
use Rattle.definitions.specs.Sheet.Relations.{Relation, Tuple, is_function}
use Rattle.definitions.specs.Sheet.Sheets.{first_chosen}
use Rattle.definitions.specs.Problem.Truth.{Case, members_of, holds, two, first, second, is_of_kind, are_of_kinds, each_chosen}
use Rattle.definitions.specs.Problem.Tree.{Tree, Trees, leaf, forall_node, exists_node, and_node, or_node, end, ◌then◌}
use Rattle.definitions.specs.Problem.Actions.{Values, with_value}
use Rattle.definitions.specs.Problem.Built.{tree_holds, trees_hold, some_holds}
use Rattle.definitions.specs.Reply.Monotone.{wants_more, all_want_more}
use Rattle.laws.specs.Valued.{Literals, tree_by, trees_by, some_by, by_picks, by_holds}
use Rattle.laws.specs.Booleans.{and_T, T_and_l, T_and_r, T_or, or_l, or_r}
use Rattle.laws.specs.Lists.{all_at, all_of, any_at, any_of, each_at, each_of, get_or_mem}
use Rattle.laws.specs.Numbers.{inj_fun, no_relation}
use Rattle.meaning.specs.Sound.{holds_split, holds_base, holds_mono}
use Rattle.meaning.specs.Kinds.{kind_at, kind_of_lem, two_at, two_of}

-- tests that follow
module _ {A : Type 0} (f g : A → Bool) (h : (x : A) → T (f x) → T (g x)) where
  all_grows : (l : List A) → T (all f l) → T (all g l)
  all_grows l t = all_of g l (λ x m. h x (all_at f l t x m))

  any_grows : (l : List A) → T (any f l) → T (any g l)
  any_grows l t = let (x, m, k) = any_at f l t in any_of g l x m (h x k)

and_grows : (a b c d : Bool) → (T a → T c) → (T b → T d) → T (a && b) → T (c && d)
and_grows a b c d f g t = and_T c d (f (T_and_l a b t)) (g (T_and_r a b t))

or_grows : (a b c d : Bool) → (T a → T c) → (T b → T d) → T (a || b) → T (c || d)
or_grows a b c d f g t = ⊎_elim (λ x. or_l c d (f x)) (λ x. or_r c d (g x)) (T_or a b t)

-- more literals hold
module _ (c : Case) (lit more : Literals) (h : (b : Bool) (r : ℕ) (xs : List ℕ) → T (lit b r xs) → T (more b r xs)) where
  mutual
    unfolding tree_by

    pub by_grows : (e : Values) (t : Tree) → T (tree_by c lit e t) → T (tree_by c more e t)
    by_grows e (leaf b r ls) k = h b r (map e ls) k
    by_grows e (forall_node d s t) k = all_grows _ _ (λ x q. by_grows (with_value e d x) t q) (members_of c s) k
    by_grows e (exists_node d s t) k = any_grows _ _ (λ x q. by_grows (with_value e d x) t q) (members_of c s) k
    by_grows e (and_node ts) k = trees_by_grow e ts k
    by_grows e (or_node ts) k = some_by_grows e ts k

    trees_by_grow : (e : Values) (ts : Trees) → T (trees_by c lit e ts) → T (trees_by c more e ts)
    trees_by_grow e end k = tt
    trees_by_grow e (t then ts) k = and_grows (tree_by c lit e t) _ (tree_by c more e t) _ (λ q. by_grows e t q) (λ q. trees_by_grow e ts q) k

    some_by_grows : (e : Values) (ts : Trees) → T (some_by c lit e ts) → T (some_by c more e ts)
    some_by_grows e end k = k
    some_by_grows e (t then ts) k = or_grows (tree_by c lit e t) _ (tree_by c more e t) _ (λ q. by_grows e t q) (λ q. some_by_grows e ts q) k

abbrev pub Among : List Tuple → List Tuple → Type 0
Among P Q = (t : Tuple) → Memᴰ t P → Memᴰ t Q

-- So a tree that is true of picks is so by all that may be picked and what must be, if these are between the two.
pub may_hold_lem : (c : Case) (must P may : List Tuple) → Among must P → Among P may → (e : Values) (t : Tree) → T (tree_holds c P e t) → T (tree_by c (by_picks c may must) e t)
unfolding by_picks
may_hold_lem c must P may low high e t k = by_grows c (by_picks c P P) (by_picks c may must) each e t (subst T (sym (by_holds c P e t)) k)
  where
    each : (b : Bool) (r : ℕ) (xs : List ℕ) → T (by_picks c P P b r xs) → T (by_picks c may must b r xs)
    each true r xs k = holds_mono c P may high r xs k
    each false r xs k = not_T (holds c must r xs) (λ q. T_not (holds c P r xs) k (holds_mono c must P low r xs q))

-- ---- a rule that only wants more stays true of more picks
module _ (c : Case) (P Q : List Tuple) (h : Among P Q) where
  -- what is not chosen does not hang on picks
  below_chosen : (r : ℕ) (xs : List ℕ) → T (ltb r (first_chosen c.question)) → T (not (holds c P r xs)) → T (not (holds c Q r xs))
  below_chosen r xs l k = not_T (holds c Q r xs) (λ q. ⊎_elim (λ a. T_not (holds c P r xs) k (holds_base c P r xs a)) (λ a. let b = a.0 in let d = ltb→lt r (first_chosen c.question) l in absurd (omega arith)) (holds_split c Q r xs q))

  mutual
    unfolding tree_holds wants_more

    pub more_holds : (e : Values) (t : Tree) → T (wants_more (first_chosen c.question) t) → T (tree_holds c P e t) → T (tree_holds c Q e t)
    more_holds e (leaf true r ls) w k = holds_mono c P Q h r (map e ls) k
    more_holds e (leaf false r ls) w k = below_chosen r (map e ls) w k
    more_holds e (forall_node d s t) w k = all_grows _ _ (λ x q. more_holds (with_value e d x) t w q) (members_of c s) k
    more_holds e (exists_node d s t) w k = any_grows _ _ (λ x q. more_holds (with_value e d x) t w q) (members_of c s) k
    more_holds e (and_node ts) w k = all_more e ts w k
    more_holds e (or_node ts) w k = some_more e ts w k

    all_more : (e : Values) (ts : Trees) → T (all_want_more (first_chosen c.question) ts) → T (trees_hold c P e ts) → T (trees_hold c Q e ts)
    all_more e end w k = tt
    all_more e (t then ts) w k = and_grows (tree_holds c P e t) _ (tree_holds c Q e t) _ (λ q. more_holds e t (T_and_l (wants_more (first_chosen c.question) t) _ w) q) (λ q. all_more e ts (T_and_r (wants_more (first_chosen c.question) t) _ w) q) k

    some_more : (e : Values) (ts : Trees) → T (all_want_more (first_chosen c.question) ts) → T (some_holds c P e ts) → T (some_holds c Q e ts)
    some_more e end w k = k
    some_more e (t then ts) w k = or_grows (tree_holds c P e t) _ (tree_holds c Q e t) _ (λ q. more_holds e t (T_and_l (wants_more (first_chosen c.question) t) _ w) q) (λ q. some_more e ts (T_and_r (wants_more (first_chosen c.question) t) _ w) q) k

-- ---- fewer picks keep to the kinds
pub fewer_kinds : (c : Case) (P Q : List Tuple) → Among P Q → T (are_of_kinds c Q) → T (are_of_kinds c P)
unfolding are_of_kinds each_chosen
fewer_kinds c P Q h k = each_of (is_of_kind c P) (first_chosen c.question) c.question.chosen no_relation (λ j l. fewer (first_chosen c.question + j) (get_or c.question.chosen j no_relation) (each_at (is_of_kind c Q) (first_chosen c.question) c.question.chosen no_relation k j l))
  where
    clash : (r : ℕ) (a b : Tuple → ℕ) → T (two r a b P) → T (two r a b Q)
    clash r a b t = let (x, y, mx, my, e, f, g, n) = two_at r a b P t in two_of r a b Q x y (h x mx) (h y my) e f g n

    fewer : (r : ℕ) (k : Relation) → T (is_of_kind c Q r k) → T (is_of_kind c P r k)
    fewer r k t = let K = kind_at c Q r k t in kind_of_lem c P r k (record {
      one_second = λ f d. K.one_second f (clash r first second d);
      one_first = λ f d. K.one_first f (clash r second first d);
      in_types = λ f u m e. K.in_types f u (h u m) e;
    })

-- kinds of which none is a function are kept by all picks
pub plain_kinds : (c : Case) (P : List Tuple) → T (all (λ (k : Relation). not (is_function k.kind)) c.question.chosen) → T (are_of_kinds c P)
unfolding are_of_kinds each_chosen
plain_kinds c P h = each_of (is_of_kind c P) (first_chosen c.question) c.question.chosen no_relation (λ j l. plain (first_chosen c.question + j) (get_or c.question.chosen j no_relation) (all_at _ c.question.chosen h _ (get_or_mem c.question.chosen j no_relation l)))
  where
    plain : (r : ℕ) (k : Relation) → T (not (is_function k.kind)) → T (is_of_kind c P r k)
    plain r k n = kind_of_lem c P r k (record {
      one_second = λ f d. absurd (T_not (is_function k.kind) n f);
      one_first = λ f d. absurd (T_not (is_function k.kind) n (inj_fun k.kind f));
      in_types = λ f u m e. absurd (T_not (is_function k.kind) n f);
    })
