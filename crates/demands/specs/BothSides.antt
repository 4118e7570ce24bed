-- Words that stand on both sides of the theorems, so that a wrong one would not be noticed there: each has a law of its own.
use Rattle.std.specs.Prelude.{ℕ, zero, suc, ◌+◌, ◌-◌, ◌<◌, ◌≤◌, ◌≡◌, refl, ◌↔◌, true, false, not, ◌&&◌, ◌||◌, T, leb, length, get_or}
use Rattle.std.proofs.Common.{sym, ap, ap₂, ◌∙◌}
use Rattle.std.proofs.Math.Option.{Option, none, some}
use mathlib.Core.List.{List, [], ◌∷◌, ◌++◌, map, Memᴰ}
use native.Mathlib.Omega.{arith}
use borrow.Author.Tests.{eq-eqb, eqb-true, lt-ltb, ltb-true, not-false}
use Rattle.definitions.specs.Limits.{CaseLimits, choose_limit}
use Rattle.definitions.specs.Lists.{all, any, is_some, option}
use Rattle.definitions.specs.Sheet.Text.{bytes, decimal}
use Rattle.definitions.specs.Sheet.Relations.{Kind, static, plain, Fun, PFun, Inj, PInj, is_chosen, is_function, is_injective, is_total, Relation, Tuple, is_among, built_in, built_in_holds}
use Rattle.definitions.specs.Sheet.Formula.{type_number, is_type}
use Rattle.definitions.specs.Sheet.Sheets.{Draft, is_ruled, is_new_name, place_sort, add_choose, first_chosen, Label, name_of}
use Rattle.definitions.specs.Problem.Truth.{Case, holds, members_of, first, second, is_of_kind, is_total_in, rule_holds}
use Rattle.definitions.specs.Problem.Tree.{tree_of}
use Rattle.definitions.specs.Problem.Built.{tree_holds}
use Rattle.definitions.specs.Refusal.{accepted, refuse_if}
use Rattle.definitions.specs.Reply.Outcome.{read_case}
use Rattle.definitions.specs.Reply.Desk.{said}
use Rattle.laws.specs.Booleans.{T_and_l, T_and_r, T_of, T_true, not_unequal}
use Rattle.laws.specs.Lists.{all_at, all_of, any_at, any_of}
use Rattle.laws.specs.Results.{accepted_eq, bind_parts, not_refused}
use Rattle.laws.specs.Labels.{name_at}
use Rattle.meaning.specs.Grounded
use Rattle.laws.specs.Reader.{Accepted, case_fits, gives_if}
use Rattle.meaning.specs.Meaning.{tree_means}
use Rattle.meaning.specs.Kinds.{two_at, two_of, inside_means, kind_at, kind_of_lem}
use Rattle.demands.specs.Ranges.{sort_is}

-- ---- "EQ (equal), LT (less), SUC (second is first plus 1), ZERO (is 0), MAX (is n−1)": the built-in relations 0 to 4
pub built_in_names : map (λ (r : Relation). r.name) built_in ≡ bytes "EQ" ∷ bytes "LT" ∷ bytes "SUC" ∷ bytes "ZERO" ∷ bytes "MAX" ∷ []
unfolding built_in
built_in_names = refl

pub built_in_arities : map (λ (r : Relation). r.arity) built_in ≡ 2 ∷ 2 ∷ 2 ∷ 1 ∷ 1 ∷ []
unfolding built_in
built_in_arities = refl

module _ (n x y : ℕ) where
  pub EQ_means : (built_in_holds n 0 x y ≡ true) ↔ (x ≡ y)
  unfolding built_in_holds
  EQ_means = (λ e. eqb-true x y e, λ e. eq-eqb x y e)

  pub LT_means : (built_in_holds n 1 x y ≡ true) ↔ (x < y)
  unfolding built_in_holds
  LT_means = (λ e. ltb-true x y e, λ l. lt-ltb x y l)

  pub SUC_means : (built_in_holds n 2 x y ≡ true) ↔ (y ≡ x + 1)
  unfolding built_in_holds
  SUC_means = (λ e. let q = eqb-true y (suc x) e in omega arith, λ e. eq-eqb y (suc x) (omega arith))

  pub ZERO_means : (built_in_holds n 3 x y ≡ true) ↔ (x ≡ 0)
  unfolding built_in_holds
  ZERO_means = (λ e. eqb-true x 0 e, λ e. eq-eqb x 0 e)

  pub MAX_means : 0 < n → (built_in_holds n 4 x y ≡ true) ↔ (x ≡ n - 1)
  unfolding built_in_holds
  MAX_means h = (λ e. let q = eqb-true (suc x) n e in omega arith, λ e. eq-eqb (suc x) n (omega arith))

-- ---- the kinds: static, plain, Fun, PFun, Inj, PInj
abbrev kinds : List Kind
kinds = static ∷ plain ∷ Fun ∷ PFun ∷ Inj ∷ PInj ∷ []

pub chosen_table : map is_chosen kinds ≡ false ∷ true ∷ true ∷ true ∷ true ∷ true ∷ []
unfolding is_chosen
chosen_table = refl

pub function_table : map is_function kinds ≡ false ∷ false ∷ true ∷ true ∷ true ∷ true ∷ []
unfolding is_function
function_table = refl

pub injective_table : map is_injective kinds ≡ false ∷ false ∷ false ∷ false ∷ true ∷ true ∷ []
unfolding is_injective
injective_table = refl

pub total_table : map is_total kinds ≡ false ∷ false ∷ true ∷ false ∷ true ∷ false ∷ []
unfolding is_total
total_table = refl

-- "no first place has two seconds (function kinds) and no second two firsts (Inj, PInj)"; and each pick of a function kind has its first
-- place in the range of the first type and its second in that of the second
abbrev pub Keeps : Case → List Tuple → ℕ → Relation → Type 0
Keeps c picks r k =
    ((t u : Tuple) → Memᴰ t picks → Memᴰ u picks → t.relation ≡ r → u.relation ≡ r
    → (is_function k.kind ≡ true → first t ≡ first u → second t ≡ second u) × (is_injective k.kind ≡ true → second t ≡ second u → first t ≡ first u))
    × ((t : Tuple) → Memᴰ t picks → t.relation ≡ r → is_function k.kind ≡ true → Memᴰ (first t) (members_of c k.firsts) × Memᴰ (second t) (members_of c k.seconds))

pub kind_means : (c : Case) (picks : List Tuple) (r : ℕ) (k : Relation) → (is_of_kind c picks r k ≡ true) ↔ Keeps c picks r k
kind_means c picks r k = (
  (λ e. let K = kind_at c picks r k (T_of e) in (
    (λ t u mt mu et eu. (
      (λ f a. not_unequal (second t) (second u) (λ d. K.one_second (T_of f) (two_of r first second picks t u mt mu et eu a d))),
      (λ f a. not_unequal (first t) (first u) (λ d. K.one_first (T_of f) (two_of r second first picks t u mt mu et eu a d))),
    )),
    (λ t m q f. (inside_means c k t).0 (K.in_types (T_of f) t m q)),
  )),
  (λ h. T_true (is_of_kind c picks r k) (kind_of_lem c picks r k (record {
    one_second = λ f q. let (t, u, mt, mu, et, eu, a, d) = two_at r first second picks q in d ((h.0 t u mt mu et eu).0 (T_true (is_function k.kind) f) a);
    one_first = λ f q. let (t, u, mt, mu, et, eu, a, d) = two_at r second first picks q in d ((h.0 t u mt mu et eu).1 (T_true (is_injective k.kind) f) a);
    in_types = λ f t m q. (inside_means c k t).1 (h.1 t m q (T_true (is_function k.kind) f));
  }))),
)

-- the types that a `choose` line gives are those of the first and of the second place, in this order
pub typed_choose : (d e : Draft) (at : ℕ) (name : List ℕ) (kind : Kind) (t u : List ℕ) → add_choose d at name 2 kind (t ∷ u ∷ []) ≡ accepted e
    → (i : ℕ) × (j : ℕ) × (type_number d.types t ≡ some i) × (type_number d.types u ≡ some j) × (e.chosen ≡ d.chosen ++ (record { name = name; arity = 2; kind = kind; firsts = suc i; seconds = suc j } ∷ []))
unfolding add_choose place_sort all
typed_choose d e at name kind t u q =
    let (a, _, q₁) = bind_parts (refuse_if (is_some d.every || is_ruled d.ruled || leb choose_limit (length d.chosen)) 3 at) _ e q in
    let (b, _, q₂) = bind_parts (refuse_if (not (is_new_name d name)) 4 at) _ e q₁ in
    let (_, r, q₃) = bind_parts (refuse_if (not (all (is_type d.types) (t ∷ u ∷ []))) 19 at) _ e q₂ in
    let typed = not_refused (not (all (is_type d.types) (t ∷ u ∷ []))) 19 at _ r in
    let declared : T (is_type d.types t && (is_type d.types u && true)) = T_of {a = is_type d.types t && (is_type d.types u && true)} (not-false _ typed) in
    let (i, x, l, f) = sort_is d.types t (T_and_l (is_type d.types t) _ declared) in
    let (j, y, m, g) = sort_is d.types u (T_and_l (is_type d.types u) _ (T_and_r (is_type d.types t) _ declared)) in
    (i, j, x, y, ap (λ (z : Draft). z.chosen) (sym (accepted_eq _ e q₃)) ∙ ap₂ (λ (v w : ℕ). d.chosen ++ (record { name = name; arity = 2; kind = kind; firsts = v; seconds = w } ∷ [])) f g)

-- "a second for every first place": for every element of the first type, one of the second
pub total_means : (c : Case) (picks : List Tuple) (r : ℕ) (k : Relation)
    → (is_total_in c picks r k ≡ true) ↔ ((x : ℕ) → Memᴰ x (members_of c k.firsts) → (y : ℕ) × Memᴰ y (members_of c k.seconds) × (holds c picks r (x ∷ y ∷ []) ≡ true))
unfolding is_total_in
total_means c picks r k = (
  (λ e x i. let (y, m, h) = any_at (λ y. holds c picks r (x ∷ y ∷ [])) ys (all_at (λ x. any (λ y. holds c picks r (x ∷ y ∷ [])) ys) xs (T_of e) x i) in (y, m, T_true (holds c picks r (x ∷ y ∷ [])) h)),
  (λ f. T_true (all (λ x. any (λ y. holds c picks r (x ∷ y ∷ [])) ys) xs) (all_of (λ x. any (λ y. holds c picks r (x ∷ y ∷ [])) ys) xs (λ x i. let (y, m, h) = f x i in any_of (λ y. holds c picks r (x ∷ y ∷ [])) ys y m (T_of h)))),
)
  where
    xs : List ℕ
    xs = members_of c k.firsts

    ys : List ℕ
    ys = members_of c k.seconds

-- ---- what a literal says, in a case that is read and of picks: a built-in one what is said above, a `rel` literal that it is a fact, a
-- `choose` literal that it is a pick
module _ (c : Case) (picks : List Tuple) where
  pub built_in_literal : (r : ℕ) (xs : List ℕ) → r < 5 → holds c picks r xs ≡ built_in_holds c.site.size r (get_or xs 0 0) (get_or xs 1 0)
  built_in_literal = Grounded.built_in_literal c picks

  pub rel_literal : (r : ℕ) (xs : List ℕ) → 5 ≤ r → r < first_chosen c.question → holds c picks r xs ≡ is_among (record { relation = r; places = xs }) c.site.facts
  rel_literal = Grounded.rel_literal c picks

  pub choose_literal : (r : ℕ) (xs : List ℕ) → first_chosen c.question ≤ r → holds c picks r xs ≡ is_among (record { relation = r; places = xs }) picks
  choose_literal = Grounded.choose_literal c picks

module _ (L : CaseLimits) (few : L.elements ≤ 64) (question site : List ℕ) (c : Case) (is_case : read_case L question site ≡ accepted c) (picks : List Tuple) where
  A : Accepted c
  A = gives_if Accepted (read_case L question site) c is_case (case_fits L few question site)

  -- the tree that is grounded means what the rule as written means, totalities included, of whatever tuples are given
  pub tree_truth : tree_holds c picks (λ _. zero) (tree_of c.question) ≡ rule_holds c picks
  tree_truth = tree_means c picks A

-- ---- an element that has no label is printed by its number
pub said_unnamed : (labels : List Label) (x : ℕ) → ((l : Label) → Memᴰ l labels → l.element ≡ x → ⊥) → said labels x ≡ decimal x
unfolding said option
said_unnamed labels x h = by_name (name_of labels x) refl
  where
    by_name : (o : Option (List ℕ)) → name_of labels x ≡ o → option o (decimal x) (λ name. name) ≡ decimal x
    by_name none e = refl
    by_name (some name) e = let (l, m, a, b) = name_at labels x name e in absurd (h l m a)
